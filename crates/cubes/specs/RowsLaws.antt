-- The rows that literals cover, one literal after another: those passed and those to come cover what all cover. Assumes nothing.
use Rattle.std.specs.Prelude.{◌≡◌, refl, Bool, true, false, not, ◌&&◌, List, [], ◌∷◌, map, ℕ, zero, suc, ◌+◌, ◌-◌, ◌≤◌, ◌<◌, length, get_or, drop}
use Rattle.std.proofs.Common.{sym, ap, ◌∙◌, arith, drop_of_length-le}
use Rattle.std.proofs.lemmas.List.{length-map}
use Rattle.bits.specs.Digit.{on}
use Rattle.bits.specs.Logic.{andb}
use Rattle.limits.specs.Limits.{max_rows}
use Rattle.bits.specs.LogicLaws.{and_true}
use Rattle.rows.specs.Words.{Rowwise, row_on}
use Rattle.cubes.specs.Cube.{Literal, is_zero, is_one, any, literal_byte}
use Rattle.cubes.specs.Cover.{admits, covers}

and_assoc : (a b c : Bool) → (a && b) && c ≡ a && (b && c)
and_assoc true b c = refl
and_assoc false b c = refl

and_is : (a b : Bool) → andb a b ≡ a && b
and_is true b = refl
and_is false b = refl

-- ---- one literal
module _ (b p : ℕ) (t : List ℕ) where
  -- w has the rows of t that the literal of the byte b leaves
  abbrev pub Left : List ℕ → Type 0
  Left w = (l : Literal) → b ≡ literal_byte l → Rowwise (λ (r : ℕ). row_on t r && admits l (on r p)) w

  module _ {u : List ℕ} (digit : Rowwise (λ (r : ℕ). on r p) u) where
    pub left_zero : {v w : List ℕ} → b ≡ 0x30 → Rowwise (λ (r : ℕ). not (row_on u r)) v → Rowwise (λ (r : ℕ). andb (row_on t r) (row_on v r)) w → Left w
    left_zero {v} {w} e f g is_zero h =
        record {
          each = λ r m.
              g.each r m ∙ and_is (row_on t r) (row_on v r)
              ∙ ap (λ (x : Bool). row_on t r && x) (f.each r m ∙ ap not (digit.each r m));
        }
    left_zero e f g is_one h = absurd (omega (arith, e, h))
    left_zero e f g any h = absurd (omega (arith, e, h))

    pub left_one : {w : List ℕ} → b ≡ 0x31 → Rowwise (λ (r : ℕ). andb (row_on t r) (row_on u r)) w → Left w
    left_one e g is_zero h = absurd (omega (arith, e, h))
    left_one e g is_one h =
        record { each = λ r m. g.each r m ∙ and_is (row_on t r) (row_on u r) ∙ ap (λ (x : Bool). row_on t r && x) (digit.each r m) }
    left_one e g any h = absurd (omega (arith, e, h))

  pub left-any : (b ≡ 0x30 → ⊥) → (b ≡ 0x31 → ⊥) → Left t
  left-any e f is_zero h = absurd (e h)
  left-any e f is_one h = absurd (f h)
  left-any e f any h = record { each = λ r m. sym (and_true (row_on t r)) }

-- ---- one literal after another
-- t has the rows of the literals before i
pub record Narrowed (l : List ℕ) (i : ℕ) (t : List ℕ) : Type 0 where
  pub few : i ≤ length l
  pub is : (ls : List Literal) → l ≡ map literal_byte ls → (r : ℕ) → r < max_rows → covers ls r ≡ row_on t r && covers (drop i ls) r

pub narrowed_none : (l t : List ℕ) → Rowwise (λ (r : ℕ). true) t → Narrowed l 0 t
narrowed_none l t h = record { few = omega arith; is = λ ls e r m. ap (λ (b : Bool). b && covers ls r) (sym (h.each r m)) }

literal_byte_at : (ls : List Literal) (i : ℕ) → i < length ls → get_or (map literal_byte ls) i 0 ≡ literal_byte (get_or ls i any)
literal_byte_at [] i h = absurd (omega arith)
literal_byte_at (a ∷ ls) zero h = refl
literal_byte_at (a ∷ ls) (suc i) h = literal_byte_at ls i (omega arith)

covers-from : (ls : List Literal) (i r : ℕ) → i < length ls
    → covers (drop i ls) r ≡ admits (get_or ls i any) (on r (length ls - 1 - i)) && covers (drop (suc i) ls) r
unfolding covers
covers-from [] i r h = absurd (omega arith)
covers-from (a ∷ ls) zero r h =
    let e : length ls ≡ suc (length ls) - 1 - 0 = omega arith in
    ap (λ (n : ℕ). admits a (on r n) && covers ls r) e
covers-from (a ∷ ls) (suc i) r h =
    let e : length ls - 1 - i ≡ suc (length ls) - 1 - suc i = omega arith in
    covers-from ls i r (omega arith) ∙ ap (λ (n : ℕ). admits (get_or ls i any) (on r n) && covers (drop (suc i) ls) r) e

pub narrowed_more : (l : List ℕ) (i : ℕ) (t t' : List ℕ) → Narrowed l i t → i < length l
    → ((a : Literal) → get_or l i 0 ≡ literal_byte a → Rowwise (λ (r : ℕ). row_on t r && admits a (on r (length l - 1 - i))) t')
    → Narrowed l (i + 1) t'
narrowed_more l i t t' n h w =
    record {
      few = omega arith;
      is = λ ls e r m.
          let size : length l ≡ length ls = ap length e ∙ length-map ls literal_byte in
          let a = get_or ls i any in
          let here = (w a (ap (λ (s : List ℕ). get_or s i 0) e ∙ literal_byte_at ls i (omega arith))).each r m in
          let one : i + 1 ≡ suc i = omega arith in
          n.is ls e r m
          ∙ ap (λ (b : Bool). row_on t r && b) (covers-from ls i r (omega arith))
          ∙ sym (and_assoc (row_on t r) (admits a (on r (length ls - 1 - i))) (covers (drop (suc i) ls) r))
          ∙ ap (λ (k : ℕ). (row_on t r && admits a (on r (k - 1 - i))) && covers (drop (suc i) ls) r) (sym size)
          ∙ ap (λ (b : Bool). b && covers (drop (suc i) ls) r) (sym here)
          ∙ ap (λ (k : ℕ). row_on t' r && covers (drop k ls) r) (sym one);
    }

pub narrowed_all : (l : List ℕ) (i : ℕ) (t : List ℕ) → Narrowed l i t → length l ≤ i
    → (ls : List Literal) → l ≡ map literal_byte ls → Rowwise (covers ls) t
unfolding covers
narrowed_all l i t n h ls e =
    let size : length l ≡ length ls = ap length e ∙ length-map ls literal_byte in
    record {
      each = λ r m.
          sym
          (n.is ls e r m
          ∙ ap (λ (s : List Literal). row_on t r && covers s r) (drop_of_length-le ls {i = i} (omega arith))
          ∙ and_true (row_on t r));
    }
