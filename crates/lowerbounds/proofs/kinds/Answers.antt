use Rattle.std.proofs.Common.{◌≡◌, refl, sym, ap, ◌∙◌, subst, List, ℕ, ◌<◌, ◌≤◌, ◌+◌, ◌*◌, max, set, arith}
use Rattle.std.proofs.Math.Decide.{dec_lt}
use Rattle.std.proofs.lemmas.List.{set-get_or}
use Rattle.cells.specs.ListLaws.{zeros_are}
use Rattle.problem.specs.Problem.{Labels, label_at, item}
use Rattle.lowerbounds.specs.Counting.{Counting, KindsSoFar}
use Rattle.lowerbounds.specs.CountingLaws.{counting_start, counting_skip, counting_new, kinds_start, kinds_skip, kinds_raised}
use Rattle.lowerbounds.proofs.kinds.Goals as goal
use Rattle.lowerbounds.proofs.kinds.Goals.{then-not-in_set, else-not-in_set}

low-label : {cl : List ℕ} {o v x l : ℕ} → Labels cl → o < 8 → v ≤ 32 → x < v → l ≡ label_at cl o x → l < 32
low-label {cl} {o} {v} {x} given ho hv hx e = let low = given.low (o * 32 + x) (omega arith) in omega arith

-- the same for tables that are equal to these
moved : {cl : List ℕ} {o q x : ℕ} {seen seen' g g' r r' : List ℕ} → seen' ≡ seen → g' ≡ g → r' ≡ r
    → Counting cl o q x seen g → KindsSoFar cl o q x r → Counting cl o q x seen' g' × KindsSoFar cl o q x r'
moved {cl} {o} {q} {x} {seen} {seen'} {g} {g'} a b d s m =
    (subst (λ (z : List ℕ). Counting cl o q x z g') (sym a) (subst (Counting cl o q x seen) (sym b) s), subst (KindsSoFar cl o q x) (sym d) m)

pub loop-x-init : goal.loop-x-init
loop-x-init c = let a = c.args in
    (counting_start a.cl.now a.o a.q _ _ refl refl (zeros_are 1024), kinds_start a.cl.now a.o a.q _ refl (zeros_are 32))

-- the table of the largest numbers with the larger of two in place of one of them
raised : {cl : List ℕ} {o q x : ℕ} (r : List ℕ) (l m n : ℕ) → m ≡ max (item r l) n → KindsSoFar cl o q x r → KindsSoFar cl o q x (set r l n) → KindsSoFar cl o q x (set r l m)
raised {cl} {o} {q} {x} r l m n e old new = go (dec_lt (item r l) n)
  where
    go : Dec (item r l < n) → KindsSoFar cl o q x (set r l m)
    go (yes h) = let same : m ≡ n = omega arith in subst (λ (z : ℕ). KindsSoFar cl o q x (set r l z)) (sym same) new
    go (no h) =
        let same : m ≡ item r l = omega arith in
        subst (KindsSoFar cl o q x) (sym (ap (set r l) same ∙ set-get_or r l 0)) old

pub loop-x-preserved : goal.loop-x-preserved
loop-x-preserved c = let a = c.args in
    let pre = c.requires in
    let h = c.loop-x-test.true in
    let few = pre.1 in
    let low = low-label pre.0 pre.2 pre.1 h c.label-l.ensures in
    let later = kinds_skip a.cl.now a.o a.q c.loop-x.x c.loop-x.r c.loop-x.invariant.1 in
    elim c.if-not-in_set.branch [
      | then-not-in_set w ↦
          let d = w.part-p.result in
          let hd = w.part-p.ensures.1 in
          let more = counting_new a.cl.now a.o a.q c.loop-x.x c.label-l.result c.label-k.result c.loop-x.seen c.loop-x.g c.label-l.ensures low c.label-k.ensures c.loop-x.invariant.0
          d w.with.result (sym c.in_set.ensures ∙ w.if-not-in_set.true) w.with.ensures w.part-p.ensures.0 hd in
          let most = kinds_raised a.cl.now a.o a.q c.loop-x.x c.label-l.result d _ _ c.loop-x.g c.loop-x.r (omega arith) low hd more c.loop-x.invariant.1 in
          moved w.seen-is w.g-is w.r-is more (raised c.loop-x.r c.label-l.result _ _ w.max.ensures later most)
      | else-not-in_set w ↦ moved w.seen-is w.g-is w.r-is (counting_skip a.cl.now a.o a.q c.loop-x.x c.loop-x.seen c.loop-x.g c.loop-x.invariant.0) later
    ]

pub returns : goal.returns
returns c = let a = c.args in
    let h = c.loop-x-test.false in
    let le = c.loop-x.auto.x-end in
    let end : c.loop-x.x ≡ a.v = omega arith in
    (subst (λ (x : ℕ). KindsSoFar a.cl.now a.o a.q x c.loop-x.r) end c.loop-x.invariant.1).each
