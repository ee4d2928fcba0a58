use Rattle.std.proofs.Common.{◌≡◌, sym, ◌∙◌, eqb, Bool, true, List, ℕ}
use Rattle.std.proofs.lemmas.Bool.Decides.{Decides-eqb}
use Rattle.std.proofs.lemmas.Slice.Eq.{slice_eq-Decides}
use Rattle.std.specs.Cmp.Lexicographic.{pointwise}
use Rattle.border.specs.RecalledLaws.{first_free, honest_same}
use Rattle.border.proofs.recall.Goals as goal

-- two lists that are compared to be equal, one of them through a slice of it, are equal
equal : (a b s : List ℕ) (r : Bool) → s ≡ a → r ≡ pointwise eqb s b → r ≡ true → a ≡ b
equal a b s r e q t = sym e ∙ (slice_eq-Decides Decides-eqb s b r q).0 t

pub returns-then-eq-2 : goal.returns-then-eq-2
returns-then-eq-2 c = let a = c.args in
    let p = c.requires in
    let k = a.past.kn in
    let d = a.past.val in
    let l = equal _ _ _ _ c.as_slice.ensures c.eq.ensures c.if-eq.true in
    let t = equal _ _ _ _ c.as_slice-then-eq.ensures c.eq-then-eq.ensures c.if-eq-2.true in
    λ kn val. honest_same _ _ _ _ kn val _ _ _ l t c.if-past-vertices.true (c.keep_unread.ensures _ _ k d kn val _ (first_free k d p.2) p.3)

pub returns-else-past-vertices : goal.returns-else-past-vertices
returns-else-past-vertices c = λ kn val. c.clear.ensures _ _ kn val _
