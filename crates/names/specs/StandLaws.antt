-- Names that stand in a list letter for letter are among its names, and of names of which none stands twice each stands in one
-- spelling. Assumes nothing.
use Rattle.std.specs.Prelude.{◌≡◌, refl, ◌⊎◌, Bool, true, not, ◌||◌, List, [], ◌∷◌}
use Rattle.std.proofs.Common.{sym, ◌∙◌, ⊎_elim}
use Rattle.std.proofs.Math.Path.{ap}
use Rattle.std.proofs.Math.Logic.{inl, inr}
use Rattle.std.proofs.lemmas.Bool.{not-true}
use Rattle.bits.specs.LogicLaws.{true_false, and_left, and_right, and_both, or_second, or_cases}
use Rattle.text.specs.Bytes.{same}
use Rattle.text.specs.BytesLaws.{same_self, same_equal}
use Rattle.names.specs.Name.{Name, same_name, among, distinct, all_among}
use Rattle.names.specs.Spelled.{stands_in, all_stand_in}
use Rattle.names.specs.SameLaws.{same_name_equal, same_name_back}
use Rattle.names.specs.SameLaws.{among_same}

-- ---- names that stand in a list
module _ (m n : Name) (ns : List Name) where
  pub stands_first : m ≡ n → stands_in n (m ∷ ns) ≡ true
  unfolding stands_in
  stands_first e = ap (λ (b : Bool). b || stands_in n ns) (ap (λ (x : Name). same x n) e ∙ same_self n)

  pub stands_later : stands_in n ns ≡ true → stands_in n (m ∷ ns) ≡ true
  unfolding stands_in
  stands_later e = or_second (same m n) (stands_in n ns) e

  pub stands_cases : stands_in n (m ∷ ns) ≡ true → (m ≡ n) ⊎ (stands_in n ns ≡ true)
  unfolding stands_in
  stands_cases e = go (or_cases (same m n) (stands_in n ns) e)
    where
      go : (same m n ≡ true) ⊎ (stands_in n ns ≡ true) → (m ≡ n) ⊎ (stands_in n ns ≡ true)
      go (inl f) = inl (same_equal m n f)
      go (inr f) = inr f

pub stands_among : (n : Name) (ns : List Name) → stands_in n ns ≡ true → among n ns ≡ true
unfolding stands_in among
stands_among n [] e = absurd (true_false (sym e))
stands_among n (m ∷ ns) e =
    ⊎_elim
    (λ f. ap (λ (b : Bool). b || among n ns) (same_name_equal m n f))
    (λ f. or_second (same_name m n) (among n ns) (stands_among n ns f))
    (stands_cases m n ns e)

pub all_stand_among : (ms ns : List Name) → all_stand_in ms ns ≡ true → all_among ms ns ≡ true
unfolding all_stand_in all_among
all_stand_among [] ns e = refl
all_stand_among (m ∷ ms) ns e =
    and_both (among m ns) (all_among ms ns)
    (stands_among m ns (and_left (stands_in m ns) (all_stand_in ms ns) e))
    (all_stand_among ms ns (and_right (stands_in m ns) (all_stand_in ms ns) e))

-- a name that is the same as the first of names that are distinct stands nowhere else
first_alone : (m n : Name) (ns : List Name) → distinct (m ∷ ns) ≡ true → same_name m n ≡ true → stands_in n ns ≡ true → ⊥
unfolding distinct
first_alone m n ns d e s =
    true_false
    (sym (among_same m n e ns ∙ stands_among n ns s)
    ∙ not-true (among m ns) (and_left (not (among m ns)) (distinct ns) d))

pub one-spelling : (ns : List Name) (m n : Name)
    → distinct ns ≡ true
    → stands_in m ns ≡ true
    → stands_in n ns ≡ true
    → same_name m n ≡ true
    → m ≡ n
unfolding distinct stands_in
one-spelling [] m n d s t e = absurd (true_false (sym s))
one-spelling (k ∷ ns) m n d s t e =
    go (stands_cases k m ns s) (stands_cases k n ns t)
    (λ f g. one-spelling ns m n (and_right (not (among k ns)) (distinct ns) d) f g e)
  where
    go : (k ≡ m) ⊎ (stands_in m ns ≡ true)
        → (k ≡ n) ⊎ (stands_in n ns ≡ true)
        → (stands_in m ns ≡ true → stands_in n ns ≡ true → m ≡ n)
        → m ≡ n
    go (inl f) (inl g) later = sym f ∙ g
    go (inl f) (inr g) later = absurd (first_alone k n ns d (ap (λ (x : Name). same_name x n) f ∙ e) g)
    go (inr f) (inl g) later =
        absurd (first_alone k m ns d (ap (λ (x : Name). same_name x m) g ∙ sym (same_name_back m n) ∙ e) f)
    go (inr f) (inr g) later = later f g
