use Rattle.cache.specs.Cache.{entry_count, entry_size}
use Rattle.unserved.specs.SiftedLaws.{sift_start, sift_other, sift_served, sift_fewer, sift_some, sift_found, sift_end}
use Rattle.unserved.specs.QuestionLaws.{stand_fits, stand_lacking}
use Rattle.unserved.specs.Asking.{FitFrom}
use Rattle.std.proofs.Common.{pow_pos, length, List, ◌≡◌, sym, ◌∙◌, subst, ℕ, ◌+◌, ◌*◌, ◌^◌, ◌<◌, arith}
use Rattle.unserved.proofs.first_of.Goals as goal
use Rattle.unserved.proofs.first_of.Goals.{then-members-k+else-kept-k, else-kept-k-via-then-kept-k+else-not-served, else-kept-k-via-else-kept-k, else-members-k}

pub loop-r-init : goal.loop-r-init
loop-r-init c = let a = c.args in
    let p = c.requires in
    let e = c.first_outputs-r.ensures in
    let z : 0 < 2 ^ a.m = pow_pos a.m in
    (omega arith, sift_start a.cl.now a.budgets a.v a.m a.limit a.k c.first_outputs-r.result e, p.4)

pub returns-then-not-served : goal.returns-then-not-served
returns-then-not-served c = let a = c.args in
    let few = c.loop-r.invariant.0 in
    let some = c.loop-r-test.true in
    let d = c.kept_of-kept in
    let lacking = stand_lacking a.cl.now a.budgets a.v a.m a.limit c.of_rank-s.result d.result.labels d.result.budgets d.result.outputs c.served.result
    d.ensures c.served.ensures.0 c.if-not-served.true in (
      sift_found a.cl.now a.budgets a.v a.m a.limit a.k c.loop-r.r c.of_rank-s.result few c.of_rank-s.ensures c.loop-r.invariant.1 some
          (sym c.members.ensures.count ∙ c.if-members-k.true) lacking,
      sift_some a.cl.now a.budgets a.v a.m a.limit a.k c.loop-r.r c.of_rank-s.result few c.of_rank-s.ensures c.loop-r.invariant.1 some,
      c.served.ensures.1,
    )

pub loop-r-preserved : goal.loop-r-preserved
loop-r-preserved c = let a = c.args in
    let p = c.requires in
    let h = c.loop-r-test.true in
    let few = c.loop-r.invariant.0 in
    let P : List ℕ → Type 0 = λ mem. FitFrom a.cl.now a.budgets a.v a.m a.limit a.k c.loop-r.r × (length mem ≡ entry_count * entry_size) in
    let R : P c.if-members-k.mem = elim c.if-members-k.branch [
      | then-members-k+else-kept-k w ↦
          (let d = w.kept_of-kept in subst P (sym w.mem-is) (elim w.else-kept-k.branch [
            | else-kept-k-via-then-kept-k+else-not-served z ↦ subst P (sym z.mem-is) (
              sift_served a.cl.now a.budgets a.v a.m a.limit a.k c.loop-r.r c.of_rank-s.result few c.of_rank-s.ensures c.loop-r.invariant.1
                  (stand_fits a.cl.now a.budgets a.v a.m a.limit c.of_rank-s.result d.result.labels d.result.budgets d.result.outputs z.served.result d.ensures
                  z.served.ensures.0 z.if-not-served.false),
              z.served.ensures.1,
            )
            | else-kept-k-via-else-kept-k z ↦ subst P (sym z.mem-is) (
              sift_fewer a.cl.now a.budgets a.v a.m a.limit a.k c.loop-r.r c.of_rank-s.result few c.of_rank-s.ensures c.loop-r.invariant.1
                  d.result.labels d.result.budgets d.result.outputs d.ensures z.if-kept-k.false p.5,
              c.loop-r.invariant.2,
            )
          ]))
      | else-members-k w ↦ subst P (sym w.mem-is) (
        sift_other a.cl.now a.budgets a.v a.m a.limit a.k c.loop-r.r c.of_rank-s.result few c.of_rank-s.ensures c.loop-r.invariant.1
            (λ e. w.if-members-k.false (c.members.ensures.count ∙ e)),
        c.loop-r.invariant.2,
      )
    ] in
    (omega arith, subst (FitFrom a.cl.now a.budgets a.v a.m a.limit a.k) (omega arith) R.0, R.1)

pub returns : goal.returns
returns c = let a = c.args in
    let h = c.loop-r-test.false in
    (sift_end a.cl.now a.budgets a.v a.m a.limit a.k (c.loop-r.r + 1) (omega arith) c.loop-r.invariant.1, tt, c.loop-r.invariant.2)
