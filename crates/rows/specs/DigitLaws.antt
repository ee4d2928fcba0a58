-- The digits that a table is written with, as laws: how many there are, which stands where, that only the rows written
-- matter, and that a store of the next digit writes one row more. Assumes nothing.
use Rattle.std.specs.Prelude.{◌≡◌, refl, Bool, List, [], ◌∷◌, ◌++◌, ℕ, zero, suc, ◌+◌, ◌≤◌, ◌<◌, length, get_or, set}
use Rattle.std.proofs.Common.{sym, ap, ap₂, ◌∙◌, ⊎_elim, arith, add-zero, zero-add, add-suc, suc-add, add-one, length-append}
use Rattle.std.proofs.Math.ListN.{get_or-append}
use Rattle.std.proofs.lemmas.List.Edits.{sets}
use Rattle.std.proofs.lemmas.List.{get_or_at}
use Rattle.limits.specs.Limits.{max_rows}
use Rattle.bits.specs.CountLaws.{less_or_equal}
use Rattle.rows.specs.Words.{row_on, Rowwise}
use Rattle.rows.specs.Digits.{digit, digits_upto}

pub length_digits : (f : ℕ → Bool) (n : ℕ) → length (digits_upto f n) ≡ n
unfolding digits_upto
length_digits f zero = refl
length_digits f (suc n) =
    length-append (digits_upto f n) (digit (f n) ∷ []) ∙ ap (λ (m : ℕ). m + 1) (length_digits f n) ∙ add-one n

pub digits_at : (f : ℕ → Bool) (n i : ℕ) → i < n → get_or (digits_upto f n) i 0 ≡ digit (f i)
unfolding digits_upto
digits_at f zero i h = absurd (omega arith)
digits_at f (suc n) i h =
    ⊎_elim
    (λ l. get_or-append (digits_upto f n) (digit (f n) ∷ []) 0 i (let e = length_digits f n in omega arith) ∙ digits_at f n i l)
    (λ q. get_or_at (digits_upto f n) (digit (f n)) [] 0 i (length_digits f n ∙ sym q) ∙ ap (λ (k : ℕ). digit (f k)) (sym q))
    (less_or_equal i n h)

pub digits_same : (f g : ℕ → Bool) (n : ℕ) → ((i : ℕ) → i < n → f i ≡ g i) → digits_upto f n ≡ digits_upto g n
unfolding digits_upto
digits_same f g zero h = refl
digits_same f g (suc n) h =
    ap₂ (λ (l : List ℕ) (b : Bool). l ++ (digit b ∷ [])) (digits_same f g n (λ i l. h i (omega arith))) (h n (omega arith))

pub digits_rowwise : {f : ℕ → Bool} {ws : List ℕ} → Rowwise f ws → (n : ℕ) → n ≤ max_rows → digits_upto (row_on ws) n ≡ digits_upto f n
digits_rowwise {f} {ws} t n h = digits_same (row_on ws) f n (λ i l. t.each i (omega arith))

-- ---- writing them one after the other
sets_last : (d : List ℕ) (at : ℕ) (s : List ℕ) (x : ℕ) → set (sets d at s) (at + length s) x ≡ sets d at (s ++ (x ∷ []))
sets_last d at [] x = rw add-zero refl
sets_last d at (y ∷ s) x = rw (add-suc, ← suc-add) (sets_last (set d at y) (suc at) s x)

pub put_more : (d : List ℕ) (f : ℕ → Bool) (i : ℕ) → set (sets d 0 (digits_upto f i)) i (digit (f i)) ≡ sets d 0 (digits_upto f (i + 1))
unfolding digits_upto
put_more d f i =
    ap (λ (k : ℕ). set (sets d 0 (digits_upto f i)) k (digit (f i))) (sym (zero-add _ ∙ length_digits f i))
    ∙ sets_last d 0 (digits_upto f i) (digit (f i)) ∙ ap (λ (k : ℕ). sets d 0 (digits_upto f k)) (sym (add-one i))
