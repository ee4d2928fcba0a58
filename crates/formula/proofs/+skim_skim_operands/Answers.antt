use Rattle.std.proofs.Common.{◌≡◌, sym, ap, ◌∙◌, refl, Bool, true, false, List, ℕ, drop, ⊎_elim, arith, Some}
use mathlib.Core.Logic.{◌⊎◌}
use Rattle.text.specs.Bytes.{found}
use Rattle.cursor.specs.Opening as spec
use Rattle.cursor.specs.Item.{At, OpeningIs, from, gate_of}
use Rattle.cursor.specs.declared.Cursor.{Cursor}
use Rattle.cursor.specs.declared.Opening.{Opening}
use Rattle.names.specs.Pack.{name_of}
use Rattle.formula.specs.Reader.{read_formula}
use Rattle.formula.specs.OpenedLaws.{opened_falls, not_broken, gate_broken}
use Rattle.formula.specs.Skim.{spelling}
use Rattle.formula.specs.SkimLaws.{skim_name, skim_digit, skim_not, skim_gate, skim_nothing, ending, ending_more, skim_closed, skim_short, skim_broken}
use Rattle.formula.specs.TurnLaws.{byte_shorter, spelled_shorter, unspelled}
use Rattle.formula.proofs.+skim_skim_operands.Goals as goal

-- a name or a digit, which one arm takes
skim_atom : (s : List ℕ) (at : ℕ) (o : Opening) (c : Cursor) → OpeningIs s (Some o) (spec.read_opening (drop at s))
    → ((v : ℕ) × (o ≡ Opening.Name v c)) ⊎ ((b : Bool) × (o ≡ Opening.Digit b c)) → At s tt c (spelling (read_formula (drop at s)))
skim_atom s at o c h e =
    ⊎_elim (λ n. skim_name s at c (name_of n.0) (rw n.1 at h)) (λ d. skim_digit s at c d.0 (rw d.1 at h)) e

pub skim-returns-in_err-next : goal.skim-returns-in_err-next
skim-returns-in_err-next t c = rw c.from_residual.ensures (skim_nothing c.args.s.now c.args.c.at c.in_err-next.ensures)

pub skim-skim-requires : goal.skim-skim-requires
skim-skim-requires t c =
    let h = rw c.in-Not.is at c.in_ok-next.ensures in
    omega (arith, h.inside, opened_falls c.args.s.now c.args.c.at spec.not-opens c.in-Not.next h)

pub skim-returns-in_err-skim-in-Not : goal.skim-returns-in_err-skim-in-Not
skim-returns-in_err-skim-in-Not t c =
    let h = rw c.in-Not.is at c.in_ok-next.ensures in
    rw c.from_residual-in_err-skim-in-Not.ensures
    (ap spelling (not_broken c.args.s.now c.args.c.at c.in-Not.next (unspelled _ c.in_err-skim-in-Not.ensures) h))

pub skim-skim-requires-in-Gate : goal.skim-skim-requires-in-Gate
skim-skim-requires-in-Gate t c =
    let h = rw c.in-Gate.is at c.in_ok-next.ensures in
    omega (arith, h.inside, opened_falls c.args.s.now c.args.c.at (spec.gate_opens (gate_of c.in-Gate.field-0)) c.in-Gate.next h)

pub skim-returns-in_err-skim-in-Gate : goal.skim-returns-in_err-skim-in-Gate
skim-returns-in_err-skim-in-Gate t c =
    let h = rw c.in-Gate.is at c.in_ok-next.ensures in
    rw c.from_residual-in_err-skim-in-Gate.ensures
    (ap spelling (gate_broken c.args.s.now c.args.c.at c.in-Gate.next (unspelled _ c.in_err-skim-in-Gate.ensures) (gate_of c.in-Gate.field-0) h))

pub skim-skim_operands-requires : goal.skim-skim_operands-requires
skim-skim_operands-requires t c =
    let s = c.args.s.now in
    let h = rw c.in-Gate.is at c.in_ok-next.ensures in
    let first = c.in_ok-skim-in-Gate in
    omega (arith, opened_falls s c.args.c.at (spec.gate_opens (gate_of c.in-Gate.field-0)) c.in-Gate.next h, spelled_shorter (from s c.in-Gate.next) (from s first.field-0) first.ensures.is)

pub skim-returns-in-Name : goal.skim-returns-in-Name
skim-returns-in-Name t c = skim_atom c.args.s.now c.args.c.at c.in_ok-next.field-0 c.in-Name.next c.in_ok-next.ensures c.in-Name.is

pub skim-returns-in-Name-2 : goal.skim-returns-in-Name-2
skim-returns-in-Name-2 t c = skim_atom c.args.s.now c.args.c.at c.in_ok-next.field-0 c.in-Name.next c.in_ok-next.ensures c.in-Name.is

pub skim-returns-in_ok-skim-in-Not : goal.skim-returns-in_ok-skim-in-Not
skim-returns-in_ok-skim-in-Not t c =
    skim_not _ _ c.in-Not.next (Some c.in_ok-skim-in-Not.field-0) _ (rw c.in-Not.is at c.in_ok-next.ensures) c.in_ok-skim-in-Not.ensures c.byte.ensures

pub skim-returns-in_ok-skim-in-Gate : goal.skim-returns-in_ok-skim-in-Gate
skim-returns-in_ok-skim-in-Gate t c =
    let g = gate_of c.in-Gate.field-0 in
    skim_gate _ _ c.in-Gate.next g _ (rw c.in-Gate.is at c.in_ok-next.ensures)
    (c.skim_operands.ensures g (read_formula (from c.args.s.now c.in-Gate.next)) c.in_ok-skim-in-Gate.ensures)

pub skim_operands-returns-in_err-second : goal.skim_operands-returns-in_err-second
skim_operands-returns-in_err-second t c =
    λ g q h. rw c.from_residual.ensures (skim_short _ (Some c.args.first) (Some c.args.first) false g q h refl c.in_err-second.ensures refl)

pub skim_operands-skim-requires : goal.skim_operands-skim-requires
skim_operands-skim-requires t c =
    let s = c.args.s.now in
    let h = c.in_ok-second.ensures in
    omega (arith, h.inside, byte_shorter _ (from s c.args.first) (from s c.in_ok-second.second) h.is)

pub skim_operands-returns-in_err-past : goal.skim_operands-returns-in_err-past
skim_operands-returns-in_err-past t c =
    λ g q h. rw c.from_residual-in_err-past.ensures
    (skim_broken _ c.args.first c.args.first g q h false _ refl c.in_ok-second.ensures.is c.in_err-past.ensures)

pub skim_operands-loop-next-init : goal.skim_operands-loop-next-init
skim_operands-loop-next-init t c =
    let s = c.args.s.now in
    let v = from s c.in_ok-second.second in
    let h = c.in_ok-second.ensures.is in
    let e = c.in_ok-past.ensures.is in (
      omega (arith, byte_shorter _ (from s c.args.first) v h, spelled_shorter v (from s c.in_ok-past.past) e),
      ending_more false (found tt (from s c.args.first)) v h ∙ ap (ending true) (sym e),
    )

pub skim_operands-skim-requires-in-Some : goal.skim_operands-skim-requires-in-Some
skim_operands-skim-requires-in-Some t c =
    let s = c.args.s.now in
    let h = c.in-Some.ensures in
    omega (arith, h.inside, c.loop-next.invariant.0, byte_shorter _ (from s c.loop-next.past) (from s c.in-Some.next) h.is)

pub skim_operands-returns-in_err-past-2 : goal.skim_operands-returns-in_err-past-2
skim_operands-returns-in_err-past-2 t c =
    λ g q h. rw c.from_residual-in_err-past-2.ensures
    (skim_broken _ c.args.first c.loop-next.past g q h true _ c.loop-next.invariant.1 c.in-Some.ensures.is c.in_err-past-2.ensures)

pub skim_operands-loop-next-smaller : goal.skim_operands-loop-next-smaller
skim_operands-loop-next-smaller t c =
    let s = c.args.s.now in
    let v = from s c.in-Some.next in
    omega (arith, spelled_shorter v (from s c.in_ok-past-2.past) c.in_ok-past-2.ensures.is, byte_shorter _ (from s c.loop-next.past) v c.in-Some.ensures.is)

pub skim_operands-loop-next-preserved : goal.skim_operands-loop-next-preserved
skim_operands-loop-next-preserved t c =
    let s = c.args.s.now in
    let i = c.loop-next in
    let v = from s c.in-Some.next in
    let e = c.in_ok-past-2.ensures.is in (
      omega (arith, i.invariant.0, spelled_shorter v (from s c.in_ok-past-2.past) e, byte_shorter _ (from s i.past) v c.in-Some.ensures.is),
      i.invariant.1 ∙ ending_more true (found tt (from s i.past)) v c.in-Some.ensures.is ∙ ap (ending true) (sym e),
    )

pub skim_operands-returns : goal.skim_operands-returns
skim_operands-returns t c =
    λ g q h. skim_closed _ (Some c.args.first) (Some c.loop-next.past) true g q h c.loop-next.invariant.1 c.in_default.ensures refl _ c.byte-2.ensures
