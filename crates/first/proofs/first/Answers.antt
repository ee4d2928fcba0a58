use Rattle.std.proofs.Common.{◌≡◌, arith, refl, true, length, rules}
use Rattle.first.specs.FirstLaws.{witness_kept, answered_found}
use Rattle.first.proofs.first.Goals as goal

pub least_tables-t-requires : goal.least_tables-t-requires
least_tables-t-requires c = let a = c.args in
    let p = c.requires in
    let r = c.in_ok-core.core in
    let n = c.kept-kept.result in
    let answered = c.in_ok-core.ensures.0 in
    let few = answered.few in
    let b = p.3 in
    let long : length r.codes ≡ 32 = search rules in (
      c.kept-kept.ensures.classes,
      p.1,
      c.kept-kept.ensures.few,
      omega arith,
      witness_kept a.cl.now a.budgets n.labels n.budgets a.v a.m n.outputs n.by c.kept-kept.ensures a.limit true r.count r.rows r.codes long refl answered,
      c.in_ok-core.ensures.1,
    )

pub returns : goal.returns
returns c = let a = c.args in
    let r = c.in_ok-core.core in
    let n = c.kept-kept.result in
    answered_found a.cl.now a.budgets n.labels n.budgets a.v a.m n.outputs n.by c.kept-kept.ensures r.count
    c.least_tables-t.result.codes c.first_rows-rows.result c.least_tables-t.ensures c.first_rows-rows.ensures
    a.limit true r.rows r.codes refl c.in_ok-core.ensures.0
