use mathlib.Core.Path.{◌≡◌, refl, sym, subst}
use mathlib.Core.Bool.{Bool, true, false}
use mathlib.Core.List.{List}
use Prim.Native.Nat.{ℕ, ◌≤◌}
use native.Mathlib.Omega.{arith}
use Rattle.cells.specs.Lists.{zeros}
use Rattle.readers.specs.Known.{Public, Zero}
use Rattle.readers.specs.Masks.{Short, Common, Planned, Decided}
use Rattle.readers.specs.AnswerLaws.{decided_of, decided_lost}
use Rattle.readers.specs.NeedsLaws.{bounds_of}
use Rattle.holding.specs.NarrowLaws.{kept-start}
use Rattle.readers.specs.KnownLaws.{grouping_over, grouping_alone, start_knows, zeros_knows}
use Rattle.readers.specs.GroupsLaws.{start_valued}
use Rattle.readers.specs.MasksLaws.{shared_low, plan_of, shared_among, start-covers, blocks_of}
use Rattle.cells.specs.ListLaws.{zeros_are}
use Rattle.problem.specs.Answer.{is_found, found_codes}
use Rattle.readers.proofs.search.Goals as goal

-- what holds of four numbers holds of four that equal them
at-equals : (P : ℕ → ℕ → ℕ → ℕ → Type 0) (v j kn val v₂ j₂ kn₂ val₂ : ℕ) → v ≡ v₂ → j ≡ j₂ → kn ≡ kn₂ → val ≡ val₂ → P v j kn val → P v₂ j₂ kn₂ val₂
at-equals P v j kn val v₂ j₂ kn₂ val₂ a b c d h =
    subst (λ (z : ℕ). P v₂ j₂ kn₂ z) d (subst (λ (z : ℕ). P v₂ j₂ z val) c (subst (λ (z : ℕ). P v₂ z kn val) b (subst (λ (z : ℕ). P z j kn val) a h)))

-- what is decided for the numbers of the problem is decided for those given
decided-given : (cl rows : List ℕ) (v j kn val v₂ j₂ kn₂ val₂ : ℕ) → (v₂ ≡ v) × (j₂ ≡ j) × (kn₂ ≡ kn) × (val₂ ≡ val)
    → (ok : Bool) (codes : List ℕ) → Decided cl v₂ j₂ rows kn₂ val₂ ok codes → Decided cl v j rows kn val ok codes
decided-given cl rows v j kn val v₂ j₂ kn₂ val₂ e ok codes =
    at-equals (λ v j kn val. Decided cl v j rows kn val ok codes) v₂ j₂ kn₂ val₂ v j kn val e.0 e.1 e.2 e.3

-- what is known of a problem once its sets are planned
record Known (rows : List ℕ) (sh : ℕ) (ms ps caps spots : List ℕ) (v j kn val : ℕ) : Type 0 where
  vertices : v ≤ 32
  outputs : j ≤ 8
  short : Short rows j
  zero : Zero kn val v
  common : Common rows j sh
  public : Public kn sh
  planned : Planned rows sh j ms ps caps spots

planned-known : (rows : List ℕ) (sh : ℕ) (ms ps caps spots : List ℕ) (v j kn val v₂ j₂ kn₂ val₂ : ℕ) → v ≤ 32 → j ≤ 8 → Short rows j → Zero kn val v → Common rows j sh × Public kn sh
    → Planned rows sh j ms ps caps spots × (v₂ ≡ v) × (j₂ ≡ j) × (kn₂ ≡ kn) × (val₂ ≡ val) → Known rows sh ms ps caps spots v₂ j₂ kn₂ val₂
planned-known rows sh ms ps caps spots v j kn val v₂ j₂ kn₂ val₂ few least short zero c e =
    at-equals (Known rows sh ms ps caps spots) v j kn val v₂ j₂ kn₂ val₂ (sym e.1) (sym e.2) (sym e.3) (sym e.4)
    (record { vertices = few; outputs = least; short = short; zero = zero; common = c.0; public = c.1; planned = e.0 })

pub returns-then-not-settle_all : goal.returns-then-not-settle_all
returns-then-not-settle_all c = let a = c.args in
    let pre = c.requires in
    let p = c.plan-p.result in
    let e = c.plan-p.ensures in
    let k = planned-known a.rows c.searched-sh.result p.ms p.ps p.caps p.spots a.v a.j a.kn a.val p.vertices p.outputs p.kn p.val
    pre.1 pre.2 pre.3 pre.4 c.searched-sh.ensures e in
    let bounds = bounds_of a.cl.now a.rows c.searched-sh.result p.vertices p.outputs _ _ _ _ c.bases-base.result k.short k.common k.planned c.bases-base.ensures in
    let there = decided-given a.cl.now a.rows a.v a.j a.kn a.val p.vertices p.outputs p.kn p.val (e.1, e.2, e.3, e.4) in
    record {
      sure = λ u. there false c.begin-b.result.codes
          (decided_lost a.cl.now c.bases-base.result a.rows c.searched-sh.result p.vertices p.outputs _ _ _ _ k.vertices k.short k.common k.planned bounds
          p.kn p.val k.public c.begin-b.result.codes c.begin-b.result.dom c.begin-b.result.dom c.begin-b.result.codes c.begin-b.ensures
          (start-covers a.cl.now c.bases-base.result _ _ _ p.vertices p.outputs p.kn p.val c.begin-b.result.codes c.begin-b.result.dom c.begin-b.result.dom
          k.vertices c.begin-b.ensures (kept-start a.cl.now c.bases-base.result _ _ _ p.vertices p.outputs c.begin-b.result.codes c.begin-b.result.dom))
          (c.settle_all.ensures.2 c.if-not-settle_all.true p.kn p.val));
      never = λ u. refl;
    }

pub finish-requires : goal.finish-requires
finish-requires c = let a = c.args in
    let pre = c.requires in
    let plan = c.plan-p in
    let p = plan.result in
    let e = plan.ensures in
    let k = planned-known a.rows c.searched-sh.result p.ms p.ps p.caps p.spots a.v a.j a.kn a.val p.vertices p.outputs p.kn p.val
    pre.1 pre.2 pre.3 pre.4 c.searched-sh.ensures e in
    let plan = plan_of a.rows c.searched-sh.result p.outputs _ _ _ _ k.short k.common k.planned in
    (pre.0, k.outputs, k.vertices, plan, λ x h. let z = zeros_are 32 x in omega arith)

pub returns-in-Some : goal.returns-in-Some
returns-in-Some c = let a = c.args in
    let pre = c.requires in
    let p = c.plan-p.result in
    let e = c.plan-p.ensures in
    let k = planned-known a.rows c.searched-sh.result p.ms p.ps p.caps p.spots a.v a.j a.kn a.val p.vertices p.outputs p.kn p.val
    pre.1 pre.2 pre.3 pre.4 c.searched-sh.ensures e in
    let r = c.in-Some.found in
    let bounds = bounds_of a.cl.now a.rows c.searched-sh.result p.vertices p.outputs _ _ _ _ c.bases-base.result k.short k.common k.planned c.bases-base.ensures in
    let there = decided-given a.cl.now a.rows a.v a.j a.kn a.val p.vertices p.outputs p.kn p.val (e.1, e.2, e.3, e.4) in
    record {
      sure = λ u. there true r
          (decided_of a.cl.now c.bases-base.result a.rows c.searched-sh.result p.vertices p.outputs _ _ _ _ k.vertices k.short k.common k.planned bounds
          p.kn p.val k.public c.begin-b.result.codes c.begin-b.result.dom _ true r c.begin-b.ensures
          (start-covers a.cl.now c.bases-base.result _ _ _ p.vertices p.outputs p.kn p.val c.begin-b.result.codes c.begin-b.result.dom _
          k.vertices c.begin-b.ensures c.settle_all.ensures.0)
          (c.in-Some.ensures c.bases-base.result p.spots c.begin-b.result.dom p.kn p.val
          (zeros_knows p.kn p.val c.searched-sh.result p.vertices p.outputs _ (zeros 32) c.if-sh-eq0.true k.public)));
      never = λ u. refl;
    }

pub find-requires : goal.find-requires
find-requires c = let a = c.args in
    let pre = c.requires in
    let p = c.plan-p.result in
    let e = c.plan-p.ensures in
    let k = planned-known a.rows c.searched-sh.result p.ms p.ps p.caps p.spots a.v a.j a.kn a.val p.vertices p.outputs p.kn p.val
    pre.1 pre.2 pre.3 pre.4 c.searched-sh.ensures e in (
      pre.0,
      c.bases-base.ensures.long,
      blocks_of _ _ p.outputs c.blocks-bs.ensures,
      k.vertices,
      k.outputs,
      plan_of a.rows c.searched-sh.result p.outputs _ _ _ _ k.short k.common k.planned,
      start_valued _ _ c.blocks-gb.result c.mark.result c.begin-b.result.codes c.begin-b.result.dom c.searched-sh.result c.block-all.result p.outputs p.vertices p.kn p.val c.groups.ensures.0
          k.vertices
          (shared_low a.rows c.searched-sh.result p.outputs _ _ _ _ k.short k.common k.planned)
          (shared_among a.rows c.searched-sh.result p.outputs _ _ _ _ k.short k.common k.planned)
          (record { low = k.common.low; is = c.block-all.ensures }) (blocks_of _ _ 3 c.blocks-gb.ensures)
          (grouping_over _ _ c.searched-sh.result c.groupable-rest.result p.kn p.outputs c.groups.ensures.0 c.groupable-rest.ensures c.groups.ensures.1)
          (grouping_alone _ _ c.searched-sh.result c.groupable-rest.result p.kn p.outputs c.groups.ensures.0 k.public c.groupable-rest.ensures c.groups.ensures.1)
          c.begin-b.ensures (c.mark.ensures _ (blocks_of _ _ 3 c.blocks-gb.ensures)),
      start-covers a.cl.now c.bases-base.result _ _ _ p.vertices p.outputs p.kn p.val c.begin-b.result.codes c.begin-b.result.dom _
          k.vertices c.begin-b.ensures c.settle_all.ensures.0,
      start_knows a.rows c.searched-sh.result p.outputs _ _ _ _ k.short k.common k.planned p.kn p.val p.vertices
          c.begin-b.result.codes c.begin-b.result.dom k.vertices k.public k.zero c.begin-b.ensures,
    )

pub returns : goal.returns
returns c = let a = c.args in
    let pre = c.requires in
    let p = c.plan-p.result in
    let e = c.plan-p.ensures in
    let k = planned-known a.rows c.searched-sh.result p.ms p.ps p.caps p.spots a.v a.j a.kn a.val p.vertices p.outputs p.kn p.val
    pre.1 pre.2 pre.3 pre.4 c.searched-sh.ensures e in
    let r = c.find.result.answer in
    let bounds = bounds_of a.cl.now a.rows c.searched-sh.result p.vertices p.outputs _ _ _ _ c.bases-base.result k.short k.common k.planned c.bases-base.ensures in
    let there = decided-given a.cl.now a.rows a.v a.j a.kn a.val p.vertices p.outputs p.kn p.val (e.1, e.2, e.3, e.4) in
    record {
      sure = λ u. there (is_found r) (found_codes r)
          (decided_of a.cl.now c.bases-base.result a.rows c.searched-sh.result p.vertices p.outputs _ _ _ _ k.vertices k.short k.common k.planned bounds
          p.kn p.val k.public c.begin-b.result.codes c.begin-b.result.dom _ (is_found r) (found_codes r) c.begin-b.ensures
          (start-covers a.cl.now c.bases-base.result _ _ _ p.vertices p.outputs p.kn p.val c.begin-b.result.codes c.begin-b.result.dom _
          k.vertices c.begin-b.ensures c.settle_all.ensures.0)
          (c.find.ensures.sure u));
      never = c.find.ensures.never;
    }
