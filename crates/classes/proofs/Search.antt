-- A loop that looks for the first number related to x, from 0 up to x: one law for each relation. And what the library's
-- search for a number says. Assumes nothing.
use mathlib.Core.Path.{◌≡◌, sym, ◌∙◌}
use Rattle.std.specs.Prelude.{List, eqb, length, get_or, Option, Some, None, position}
use Rattle.std.specs.List.{position_or_len}
use Rattle.std.proofs.Common.{eq-eqb, eqb-true}
use Rattle.std.proofs.lemmas.Grind.{common_steps}
use Rattle.std.proofs.lemmas.List.Quantifiers.{position-Some}
use Rattle.std.proofs.lemmas.List.Sums.{fails_before_first}
use Rattle.bits.specs.LogicLaws.{true_false}
use Rattle.classes.specs.Seen.{PlaceIs, Placing}
use mathlib.Core.Bool.{Bool, true, false}
use Prim.Native.Nat.{ℕ, ◌+◌, ◌≤◌, ◌<◌}
use native.Mathlib.Omega.{arith}
use borrow.Author.Count.{below_more}
use Rattle.classes.specs.Classes.{first_like}
use Rattle.classes.specs.ClassLaws.{first_unique, first_like_lem}

-- no number below y is related to x
pub record Unlike (same : ℕ → ℕ → Bool) (x y : ℕ) : Type 0 where
  pub within : y ≤ x
  pub none : (z : ℕ) → z < y → same z x ≡ false

module _ {same : ℕ → ℕ → Bool} {x : ℕ} where
  pub unlike_none : Unlike same x 0
  unlike_none = record { within = omega arith; none = λ z l. absurd (omega arith) }

  pub unlike_more : {y : ℕ} → Unlike same x y → y < x → same y x ≡ false → Unlike same x (y + 1)
  unlike_more {y} u l e = record { within = omega arith; none = below_more (λ (z : ℕ). same z x ≡ false) y u.none e }

  pub like-found : {y : ℕ} → Unlike same x y → y < x → same y x ≡ true → y ≡ first_like same x
  like-found {y} u l e =
      first_unique same x x 0 y (first_like same x)
      (record { from_start = omega arith; to_end = omega arith; related = λ h. e; none_before = λ z a b. u.none z b })
      (first_like_lem same x)

  pub like_itself : {y : ℕ} → Unlike same x y → x ≤ y → x ≡ first_like same x
  like_itself {y} u l =
      let w : y ≤ x = u.within in
      first_unique same x x 0 x (first_like same x)
      (record {
        from_start = omega arith;
        to_end = omega arith;
        related = λ h. absurd (omega arith);
        none_before = λ z a b. u.none z (omega arith);
      })
      (first_like_lem same x)

-- ---- the place of a number
absent : (l : List ℕ) (i : ℕ) → position (λ k. eqb k i) l ≡ None → PlaceIs l i (length l)
absent l i e =
    let all : length l ≤ position_or_len (λ k. eqb k i) l = grind (arith, common_steps) in
    record {
      within = omega arith;
      there = λ h. absurd (omega arith);
      not_before = λ k h q. true_false (sym (eq-eqb (get_or l k 0) i q) ∙ fails_before_first (λ k. eqb k i) l k 0 (omega arith));
    }

pub placing : (l : List ℕ) (i : ℕ) (r : Option ℕ) → r ≡ position (λ k. eqb k i) l → Placing l i r
placing l i (Some j) e =
    let p = position-Some (λ k. eqb k i) l j 0 (sym e) in (
      p.0,
      record {
        within = omega (arith, p.0);
        there = λ h. eqb-true (get_or l j 0) i p.1;
        not_before = λ k h q. true_false (sym (eq-eqb (get_or l k 0) i q) ∙ p.2 k h);
      },
    )
placing l i None e = absent l i (sym e)
