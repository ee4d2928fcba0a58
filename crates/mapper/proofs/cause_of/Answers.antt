-- `cause_of`: one law for each way out. Assumes nothing.
use Rattle.std.proofs.Common.{◌≡◌, refl, arith, Result, Ok, Err, Some, None}
use Rattle.std.specs.Result.{result_ok}
use Rattle.refusal.specs.declared.Refusal.{Refusal}
use Rattle.sheet.specs.Examine as spec
use Rattle.sheet.specs.declared.Sheet.{Sheet}
use Rattle.design.specs.Answer.{ExaminedIs, Right}
use Rattle.mapper.specs.MapStepLaws.{designed, asked}
use Rattle.mapper.specs.CauseStepLaws.{cause_refused, cause_classes, cause_mapped, cause_outputs}
use Rattle.mapper.specs.Posed.{Asked}
use Rattle.mapper.proofs.cause_of.Goals as goal
use Rattle.mapper.proofs.cause_of.Goals.{In_ok-k, In_ok-p}

-- ---- what `ok` leaves of an answer
left_none : (e : Result Sheet Refusal) → None ≡ result_ok e → (r : Refusal) × (e ≡ Err r)
left_none (Err r) h = (r, refl)
left_none (Ok k) h = absurd (cc)

left_some : (e : Result Sheet Refusal) (k : Sheet) → Some k ≡ result_ok e → e ≡ Ok k
left_some (Err r) k h = absurd (cc)
left_some (Ok m) k h = cc

-- ---- the examination's answer, and what was asked of the search, of each answer that the examination's holds
says : (c : In_ok-k) (x : spec.Examined) → ExaminedIs x c.args.e → ExaminedIs x (Ok c.in_ok-k.k)
says c x h = rw (left_some c.args.e c.in_ok-k.k c.in_ok-k.ensures.value) at h

module _ (c : In_ok-p) where
  asks : (x : spec.Examined) → ExaminedIs x c.args.e → Right x → Asked x c.in_ok-k.k c.in_ok-p.p
  asks x h r = asked x c.in_ok-k.k c.in_ok-p.p (rw (left_some c.args.e c.in_ok-k.k c.in_ok-k.ensures.value) at h) r c.in_ok-p.ensures

  found : Asked c.requires.found c.in_ok-k.k c.in_ok-p.p
  found = asks c.requires.found c.requires.is c.requires.right

pub returns-in_err-k : goal.returns-in_err-k
returns-in_err-k c = λ x h r.
    let e = left_none c.args.e c.in_err-k.ensures.value in
    rw c.from_residual.ensures (cause_refused x e.0 (rw e.1 at h))

pub pose-requires : goal.pose-requires
pose-requires c = designed c.requires.found c.in_ok-k.k (says c c.requires.found c.requires.is) c.requires.right

pub returns-in_err-p : goal.returns-in_err-p
returns-in_err-p c = λ x h r.
    rw c.from_residual-in_err-p.ensures
    (cause_classes x c.in_ok-k.k (says (goal.at.returns-in_err-p c).In_ok-k x h) r c.in_err-p.ensures)

pub overflow_cast-k : goal.overflow_cast-k
overflow_cast-k c = let small = (found (goal.at.overflow_cast-k c).In_ok-p).holds.limit_small in
    omega arith

pub unserved-requires : goal.unserved-requires
unserved-requires c = let ready = (found (goal.at.unserved-requires c).In_ok-p).poses.ready in
    (ready.classes, ready.few_vertices, ready.few_outputs, ready.few_cells)

pub returns-in_err-s : goal.returns-in_err-s
returns-in_err-s c = λ x h r.
    rw c.from_residual-in_err-s.ensures
    (cause_mapped (asks (goal.at.returns-in_err-s c).In_ok-p x h r) 0 refl c.in_err-s.ensures.0)

pub returns : goal.returns
returns c = λ x h r.
    let some = c.in_ok-s.ensures.1 in
    cause_outputs (asks (goal.at.returns c).In_ok-p x h r) c.in_ok-s.s (λ e. omega (arith, some, e)) c.in_ok-s.ensures.0
