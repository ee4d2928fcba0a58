-- Tables in sixteen words, as laws: what holds word by word holds row by row, an operation that goes digit by digit goes
-- row by row, and a table is decided by its rows. Assumes nothing.
use Rattle.std.specs.Prelude.{◌≡◌, refl, Bool, List, ℕ, ◌+◌, ◌*◌, ◌/◌, ◌%◌, ◌<◌, get_or, replicate}
use Rattle.std.proofs.Common.{sym, ap, ap₂, ◌∙◌, arith}
use Rattle.std.proofs.Math.Arith.{digits_div, digits_mod}
use Rattle.std.proofs.lemmas.List.{get_or-replicate}
use Rattle.limits.specs.Limits.{max_rows, table_words}
use Rattle.bits.specs.Digit.{on}
use Rattle.rows.specs.Words.{row_on, Rowwise, WordOf}

row_word : (ws : List ℕ) (w k : ℕ) → k < 64 → row_on ws (w * 64 + k) ≡ on (get_or ws w 0) k
unfolding row_on
row_word ws w k h = ap₂ (λ (i j : ℕ). on (get_or ws i 0) j) (digits_div w h) (digits_mod w h)

pub rowwise : (f : ℕ → Bool) (ws : List ℕ) → ((w : ℕ) → w < table_words → WordOf f w (get_or ws w 0)) → Rowwise f ws
unfolding row_on
rowwise f ws h =
    record {
      each = λ r b.
          let e : r / 64 * 64 + r % 64 ≡ r = omega arith in
          (h (r / 64) (omega arith)).each (r % 64) (omega arith) ∙ ap f e;
    }

-- the same table said in another way
pub rowwise_same : {f g : ℕ → Bool} {ws : List ℕ} → Rowwise f ws → ((r : ℕ) → r < max_rows → f r ≡ g r) → Rowwise g ws
rowwise_same t h = record { each = λ r l. t.each r l ∙ h r l }

pub rowwise_self : {ws : List ℕ} → Rowwise (row_on ws) ws
rowwise_self = record { each = λ r l. refl }

-- a table made row by row of tables whose rows are known
pub rowwise_one : (p : Bool → Bool) {f : ℕ → Bool} {a ws : List ℕ}
    → Rowwise (λ r. p (row_on a r)) ws → Rowwise f a → Rowwise (λ r. p (f r)) ws
rowwise_one p t s = rowwise_same t (λ r l. ap p (s.each r l))

pub rowwise_two : (p : Bool → Bool → Bool) {f g : ℕ → Bool} {a b ws : List ℕ}
    → Rowwise (λ r. p (row_on a r) (row_on b r)) ws → Rowwise f a → Rowwise g b → Rowwise (λ r. p (f r) (g r)) ws
rowwise_two p t s u = rowwise_same t (λ r l. ap₂ p (s.each r l) (u.each r l))

-- a table of one word whose digits are all alike
pub repeated : (x : ℕ) (b : Bool) → ((k : ℕ) → k < 64 → on x k ≡ b) → Rowwise (λ r. b) (replicate table_words x)
repeated x b h =
    rowwise (λ r. b) (replicate table_words x)
    (λ w l. record { each = λ k g. ap (λ (y : ℕ). on y k) (get_or-replicate table_words w x 0 l) ∙ h k g })

-- op on words does to each digit what p does to truth values; so it does to each row of a word
pub word_of_two : (op : ℕ → ℕ → ℕ) (p : Bool → Bool → Bool) → ((x y k : ℕ) → on (op x y) k ≡ p (on x k) (on y k))
    → (a b : List ℕ) (w : ℕ) → WordOf (λ r. p (row_on a r) (row_on b r)) w (op (get_or a w 0) (get_or b w 0))
word_of_two op p law a b w =
    record {
      each = λ k h. law (get_or a w 0) (get_or b w 0) k ∙ ap₂ p (sym (row_word a w k h)) (sym (row_word b w k h));
    }

-- ---- a table is decided by its rows
