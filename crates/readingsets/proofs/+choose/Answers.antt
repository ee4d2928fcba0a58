use Rattle.std.proofs.Common.{◌≡◌, ℕ, ◌+◌, ◌^◌, ◌<◌, ◌≤◌, List, Bool, true, false, not, nat_eq, slice_set, sym, refl, ap, ◌∙◌, subst, arith}
use Rattle.problem.specs.declared.Answer.{Answer}
use Rattle.problem.specs.Answer.{is_found, is_unsure}
use Rattle.readingsets.specs.declared.Core.{Core}
use Rattle.readingsets.specs.Answered.{core_rows, core_codes}
use Rattle.readingsets.specs.ChoiceLaws.{tried_start, tried_all, step_fits, step_on, step_past, next_none}
use Rattle.readingsets.specs.ChoiceLaws.{chosen_end, chosen-found, done_lost, known_or_none, number_room, on_with_same}
use Rattle.readingsets.specs.ServedLaws.{served_chosen}
use Rattle.readingsets.specs.Choice.{Chosen, turned, Tried}
use Rattle.bits.specs.LogicLaws.{true_false}
use Rattle.bits.specs.Digit.{on}
use Rattle.bits.specs.Count.{count}
use Rattle.coding.specs.Limit.{Sure}
use Rattle.coding.specs.LimitLaws.{sure_now, sure_then}
use Rattle.relation.specs.Relation.{NoneLeft}
use Rattle.subproblems.specs.Subproblem.{given_of}
use Rattle.cache.specs.Cache.{Honest}
use Rattle.readingsets.proofs.+choose.Goals as goal
use Rattle.readingsets.proofs.+choose.Goals.{then-suits+then-a+else-known_bad, then-suits+else-a, else-suits, in-Nothing, in-Unsure}

pub returns-in_default : goal.returns-in_default
returns-in_default t c = let a = c.args in
    let p = a.p in
    let f = c.finish.ensures in
    let r = c.finish.result.answer in
    let all = next_none p.outputs a.done c.next.result c.in_default.not-Some c.next.ensures in
    let end = chosen_end a.cl.now a.given.now p.budgets p.kn p.val p.vertices p.outputs p.cells p.tables
    a.done a.rows (is_found r) (core_rows r) (core_codes r) all f.0 c.requires.6 in
    (sure_then p.last (is_unsure r) _ _ end f.1, f.2)

pub row_of-row-requires : goal.row_of-row-requires
row_of-row-requires t c = let p = c.args.p in
    (c.requires.4, number_room p.cells p.tables c.in-Some-served.s (2 ^ (p.cells + p.tables)) c.requires.5 refl c.in-Some-served.ensures.0)

pub choose-requires : goal.choose-requires
choose-requires t c =
    let a = c.args in
    let p = a.p in
    let q = c.requires in
    let n = c.in-Some.n in
    let x = c.in-Some.ensures in
    let few = x.0 in
    let low : n < 8 = omega arith in
    let s = c.in-Some-served.ensures in
    let last = c.row_of-row.ensures in
    let full = ap (λ (z : ℕ). count (on z) 16) last ∙ s.1 ∙ c.wanted-want.ensures in
    let on = step_on a.cl.now a.given.now p.budgets p.kn p.val p.vertices p.outputs p.cells p.tables a.done a.rows a.same n
    c.with-done_now.result c.row_of-row.result c.in-Some-served.s q.4 x.0 low x.1 c.with-done_now.ensures last q.6 s.0 full c.still_alike.result c.still_alike.ensures q.7 in
    let less = on.0 in
    (omega arith, (q.0, q.1, q.2, q.3, q.4, q.5, on.1, on.2, q.8))

-- the row that given tables serve alone is as good as any
pub returns-in-Some-served : goal.returns-in-Some-served
returns-in-Some-served t c =
    let a = c.args in
    let p = a.p in
    let q = c.requires in
    let n = c.in-Some.n in
    let x = c.in-Some.ensures in
    let few = x.0 in
    let low : n < 8 = omega arith in
    let s = c.in-Some-served.ensures in
    let last = c.row_of-row.ensures in
    let full = ap (λ (z : ℕ). count (on z) 16) last ∙ s.1 ∙ c.wanted-want.ensures in
    let r = c.choose.result.answer in
    let fits = step_fits a.cl.now a.given.now p.budgets p.kn p.val p.vertices p.outputs p.cells p.tables a.done a.rows a.same n
    c.with-done_now.result c.row_of-row.result c.in-Some-served.s q.4 x.0 low x.1 c.with-done_now.ensures last q.6 s.0 full in
    let serves = subst (λ (z : ℕ). NoneLeft a.cl.now a.given.now (given_of z) n p.vertices) (sym last) s.2 in
    let said = served_chosen a.cl.now a.given.now p.budgets p.kn p.val p.vertices p.outputs p.cells p.tables n c.row_of-row.result fits serves
    a.done c.with-done_now.result a.rows q.6.long low x.1 c.with-done_now.ensures (core_rows r) (core_codes r) (is_found r) in
    (sure_then p.last (is_unsure r) _ _ said c.choose.ensures.0, c.choose.ensures.1)

pub loop-i-init : goal.loop-i-init
loop-i-init t c = let a = c.args in
    let p = a.p in
    let q = c.requires in
    let start = tried_start a.cl.now a.given.now p.budgets p.kn p.val p.vertices p.outputs p.cells p.tables a.done a.rows a.same c.in-Some.n (not (nat_eq p.kn 0)) q.4 c.in-Some.ensures.0 in
    record { tried = sure_now p.last false _ refl start; honest = q.8 }

pub row_of-row-requires-in-loop-i : goal.row_of-row-requires-in-loop-i
row_of-row-requires-in-loop-i t c = let p = c.args.p in
    (c.requires.4, number_room p.cells p.tables c.turn.result c.power-end.result c.requires.5 c.power-end.ensures.0 c.turn.ensures.1)

pub alive-a-requires : goal.alive-a-requires
alive-a-requires t c =
    let a = c.args in
    let p = a.p in
    let q = c.requires in
    let n = c.in-Some.n in
    let x = c.in-Some.ensures in
    let few = x.0 in
    let low : n < 8 = omega arith in
    let has = subst (λ (d : ℕ). on d n ≡ true) (sym c.with-done_now.ensures) (on_with_same a.done n) in
    (q.0, q.1, q.2, low, has, q.4, c.loop-i.invariant.honest)

pub choose-k-requires : goal.choose-k-requires
choose-k-requires t c =
    let a = c.args in
    let p = a.p in
    let q = c.requires in
    let n = c.in-Some.n in
    let x = c.in-Some.ensures in
    let few = x.0 in
    let low : n < 8 = omega arith in
    let e3 = c.power-end.ensures.0 in
    let e4 = c.turn.ensures.1 in
    let here : c.turn.result < 2 ^ (p.cells + p.tables) = omega arith in
    let full = c.suits.ensures.right c.if-suits.true ∙ c.wanted-want.ensures in
    let on = step_on a.cl.now a.given.now p.budgets p.kn p.val p.vertices p.outputs p.cells p.tables a.done a.rows a.same n
    c.with-done_now.result c.row_of-row-in-loop-i.result c.turn.result q.4 x.0 low x.1 c.with-done_now.ensures c.row_of-row-in-loop-i.ensures q.6 here full
    c.still_alike-then-a.result c.still_alike-then-a.ensures q.7 in
    let less = on.0 in
    (omega arith, (q.0, q.1, q.2, q.3, q.4, q.5, on.1, on.2, c.alive-a.ensures.0))

pub returns-in-Found : goal.returns-in-Found
returns-in-Found t c = let a = c.args in
    let p = a.p in
    let r = c.choose-k.result.answer in
    let found : is_found r ≡ true = ap (λ (s : Answer Core). is_found s) c.in-Found.is in
    let said = chosen-found a.cl.now a.given.now p.budgets p.kn p.val p.vertices p.outputs p.cells p.tables _ _ _ _ (core_rows r) (core_codes r) (is_found r) found in
    (sure_then p.last (is_unsure r) _ _ said c.choose-k.ensures.0, c.choose-k.ensures.1)

pub returns-then-known_bad : goal.returns-then-known_bad
returns-then-known_bad t c = let a = c.args in
    let p = a.p in
    let h = c.choose-k.ensures.1 in
    let bad = c.known_bad.ensures a.cl.now a.given.now p.kn p.val p.vertices (known_or_none p.kn) h c.if-known_bad.true in
    (sure_now p.last false _ refl (done_lost a.cl.now a.given.now p.budgets p.kn p.val p.vertices p.outputs p.cells p.tables a.done a.rows c.requires.6 bad), h)

pub loop-i-preserved : goal.loop-i-preserved
loop-i-preserved t c =
    let a = c.args in
    let p = a.p in
    let q = c.requires in
    let n = c.in-Some.n in
    let x = c.in-Some.ensures in
    let few = x.0 in
    let low : n < 8 = omega arith in
    let l = c.loop-i in
    let i = l.invariant in
    let k = c.row_of-row-in-loop-i in
    let y = c.turn in
    let down = not (nat_eq p.kn 0) in
    let place = subst (λ (z : ℕ). y.result ≡ turned down z l.i) c.power-end.ensures.0 y.ensures.0 in
    let tried = slice_set a.rows n k.result in
    let T : ℕ → Type 0 = Tried a.cl.now a.given.now p.budgets p.kn p.val p.vertices p.outputs p.cells p.tables a.done a.rows a.same n down in
    let S : Bool → Type 0 = λ b. Sure p.last b (T (l.i + 1)) in
    let H : List ℕ → Type 0 = Honest a.cl.now a.given.now p.kn p.val p.vertices in
    let Says : Answer Core → Type 0 = λ s. Sure p.last (is_unsure s) (Chosen a.cl.now a.given.now p.budgets p.kn p.val p.vertices p.outputs p.cells p.tables
    c.with-done_now.result tried (is_found s) (core_rows s) (core_codes s)) in
    let past = step_past a.cl.now a.given.now p.budgets p.kn p.val p.vertices p.outputs p.cells p.tables a.done a.rows a.same n
    c.with-done_now.result k.result y.result q.4 x.0 low x.1 c.with-done_now.ensures k.ensures q.6 down l.i place
    c.wanted-want.result c.suits.result c.wanted-want.ensures in
    record {
      tried = elim c.if-suits.branch [
        | then-suits+then-a+else-known_bad w ↦ elim w.match-k.branch [
          | in-Nothing v ↦ subst S (sym (w.unsure-is ∙ v.unsure-is))
              (sure_then p.last l.unsure _ _ (past.0 ((subst Says v.in-Nothing.is w.choose-k.ensures.0).sure refl)) i.tried)
          | in-Unsure v ↦ subst S (sym (w.unsure-is ∙ v.unsure-is))
              (record { sure = λ e. absurd (true_false e); never = (subst Says v.in-Unsure.is w.choose-k.ensures.0).never })
        ]
        | then-suits+else-a w ↦ subst S (sym w.unsure-is) (sure_then p.last l.unsure _ _ (past.1 (w.alive-a.ensures.1 w.if-a.false)) i.tried)
        | else-suits w ↦ subst S (sym w.unsure-is) (sure_then p.last l.unsure _ _ (past.2 w.if-suits.false c.suits.ensures) i.tried)
      ];
      honest = elim c.if-suits.branch [
        | then-suits+then-a+else-known_bad w ↦ subst H (sym w.mem-is) w.choose-k.ensures.1
        | then-suits+else-a w ↦ subst H (sym w.mem-is) w.alive-a.ensures.0
        | else-suits w ↦ subst H (sym w.mem-is) i.honest
      ];
    }

-- all rows were tried, but for those that are unsure
pub returns-then-unsure : goal.returns-then-unsure
returns-then-unsure t c = let i = c.loop-i.invariant in
    (record { sure = λ e. absurd (true_false e); never = λ e. sym c.if-unsure.true ∙ i.tried.never e }, i.honest)

pub returns-else-unsure : goal.returns-else-unsure
returns-else-unsure t c = let a = c.args in
    let p = a.p in
    let q = c.requires in
    let l = c.loop-i in
    let i = l.invariant in
    let e = c.power-end.ensures.0 in
    let h = c.loop-i-test.false in
    let end : 2 ^ (p.cells + p.tables) ≤ l.i = omega arith in
    let all = tried_all a.cl.now a.given.now p.budgets p.kn p.val p.vertices p.outputs p.cells p.tables a.done a.rows a.same c.in-Some.n
    (not (nat_eq p.kn 0)) q.4 c.in-Some.ensures.0 l.i q.3 q.7 end in
    (sure_now p.last false _ refl (all (i.tried.sure c.if-unsure.false)), i.honest)
