use Rattle.std.proofs.Common.{◌-◌, arith, inr, subst, true, refl}
use Rattle.problem.specs.declared.Answer.{Answer}
use Rattle.problem.specs.Answer.{is_found}
use Rattle.readingsets.specs.declared.Core.{Core}
use Rattle.readingsets.specs.Answered.{core_rows, core_codes}
use Rattle.seeking.specs.Seeking.{Sought}
use Rattle.fewest.specs.CountLaws.{not_found}
use Rattle.first.specs.AskLaws.{val_first, found_replied, none_replied}
use Rattle.first.proofs.ask.Goals as goal

pub seek-k-requires : goal.seek-k-requires
seek-k-requires c = let p = c.requires in
    let a = c.args in
    let q = a.p in
    let r = p.8 in
    let u = p.3 in
    let l = p.4 in
    let first = val_first a.cl.now q.budgets a.given.now a.codes q.vertices q.outputs q.cells a.i a.x c.vertices_upto.result c.digits.result
    p.1 p.3 p.4 p.5 p.6 p.7 c.vertices_upto.ensures c.digits.ensures in (
      p.0,
      p.7.long,
      p.1,
      p.2,
      omega arith,
      omega arith,
      inr (omega arith, c.vertices_upto.ensures.has 0 (omega arith), first),
      c.keep_unread.ensures a.cl.now a.given.now r.kn r.val c.vertices_upto.result c.digits.result q.vertices r.free r.honest,
    )

pub returns-in_default : goal.returns-in_default
returns-in_default c = let p = c.requires in
    let a = c.args in
    let q = a.p in
    let r = c.seek-k.result.answer in
    none_replied a.cl.now q.budgets a.given.now a.codes q.vertices q.outputs q.cells a.i a.x c.vertices_upto.result c.digits.result
    p.1 p.3 p.4 p.5 p.6 p.7 c.vertices_upto.ensures c.digits.ensures (core_rows r) (core_codes r) a.codes _ (is_found r)
    c.seek-k.ensures.0 (not_found r c.in_default.not-Found) c.seek-k.ensures.1

pub returns : goal.returns
returns c = let p = c.requires in
    let a = c.args in
    let q = a.p in
    let core = c.in-Found.core in
    let s = subst (λ (r : Answer Core). Sought a.cl.now a.given.now q.budgets c.vertices_upto.result c.digits.result q.vertices q.outputs (q.cells - a.i) a.i
    (is_found r) (core_rows r) (core_codes r)) c.in-Found.is c.seek-k.ensures.0 in
    found_replied a.cl.now q.budgets a.given.now a.codes q.vertices q.outputs q.cells a.i a.x c.vertices_upto.result c.digits.result
    p.1 p.3 p.4 p.5 p.6 p.7 c.vertices_upto.ensures c.digits.ensures core.rows core.codes c.joined-found.result _ true
    s refl c.joined-found.ensures c.seek-k.ensures.1
