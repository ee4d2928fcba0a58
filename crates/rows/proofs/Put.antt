-- A loop that stores one digit after the other from a buffer's start. Assumes nothing.
use mathlib.Core.Path.{◌≡◌, refl, sym, ap, ap₂, ◌∙◌}
use mathlib.Core.Bool.{Bool}
use mathlib.Core.List.{List, [], ◌++◌, append-nil}
use Prim.Native.Nat.{ℕ, ◌+◌, ◌≤◌, ◌<◌}
use native.Mathlib.Omega.{arith}
use lib.ListN.{length, set, take, drop, length-set, drop_of_length-le}
use Rattle.std.proofs.Common.{length-take-le}
use lib.Seq.{sets, sets-eq}
use Rattle.rows.specs.Digits.{digit, digits_upto}
use Rattle.rows.specs.DigitLaws.{length_digits, put_more}

-- of the n digits the first i stand in the buffer that was old
pub record Put (old : List ℕ) (f : ℕ → Bool) (n : ℕ) (buf : List ℕ) (i : ℕ) : Type 0 where
  pub within : i ≤ n
  pub size : length buf ≡ length old
  pub wrote : buf ≡ sets old 0 (digits_upto f i)

pub put_none : (old : List ℕ) (f : ℕ → Bool) (n : ℕ) → Put old f n old 0
unfolding digits_upto
put_none old f n = record { within = omega arith; size = refl; wrote = refl }

pub put_next : {old : List ℕ} {f : ℕ → Bool} {n : ℕ} {buf : List ℕ} {i d : ℕ}
    → Put old f n buf i → i < n → d ≡ digit (f i) → Put old f n (set buf i d) (i + 1)
put_next {old} {f} {n} {buf} {i} {d} p h e =
    record {
      within = omega arith;
      size = length-set buf i d ∙ p.size;
      wrote = ap₂ (λ (l : List ℕ) (x : ℕ). set l i x) p.wrote e ∙ put_more old f i;
    }

pub put_all : {old : List ℕ} {f : ℕ → Bool} {n : ℕ} {buf : List ℕ} {i : ℕ}
    → Put old f n buf i → n ≤ i → buf ≡ sets old 0 (digits_upto f n)
put_all {old} {f} {n} {buf} {i} p h =
    p.wrote ∙ ap (λ (k : ℕ). sets old 0 (digits_upto f k)) (let w : i ≤ n = p.within in omega arith)

-- the buffer after its first n bytes are written
whole_front : (l vs : List ℕ) → length l ≡ length vs → sets l 0 vs ≡ vs
whole_front l vs e =
    let none : drop (0 + length vs) l ≡ [] = drop_of_length-le l (omega arith) in
    sets-eq vs l 0 (omega arith) ∙ rw none (append-nil vs)

pub put_front : (old : List ℕ) {f : ℕ → Bool} {n : ℕ} {buf : List ℕ} {i : ℕ}
    → n ≤ length old → Put (take n old) f n buf i → length (take n old) ≤ i → buf ++ drop n old ≡ sets old 0 (digits_upto f n)
put_front old {f} {n} {buf} {i} h p g =
    let k : length (take n old) ≡ n = length-take-le n old h in
    let d : length (digits_upto f n) ≡ n = length_digits f n in
    let front : buf ≡ digits_upto f n = put_all p (omega arith) ∙ whole_front (take n old) (digits_upto f n) (omega arith) in
    let past : n ≡ 0 + length (digits_upto f n) = omega arith in
    ap₂ (λ (b : List ℕ) (j : ℕ). b ++ drop j old) front past ∙ sym (sets-eq (digits_upto f n) old 0 (omega arith))
