-- The lines of the rows of value 1, put down one after the other. Assumes nothing.
use Rattle.std.specs.Prelude.{◌≡◌, refl, Bool, List, [], ◌∷◌, ◌++◌, ℕ, zero, suc, ◌^◌, ◌≤◌}
use Rattle.std.proofs.Common.{sym, ap, ◌∙◌, append_assoc, arith, pow_mono, eq-eqb, ne_eqb}
use Rattle.limits.specs.Limits.{max_inputs, max_rows}
use Rattle.bits.specs.Logic.{pick}
use Rattle.rows.specs.Row.{values_of}
use Rattle.text.specs.Bytes.{bytes, newline}
use Rattle.network.specs.Printer.{print_digits}
use Rattle.comparing.specs.Code.{is_one}
use Rattle.emit.specs.Written.{Written}
use Rattle.emit.specs.PutLaws.{put_none, put_next, put_same}
use Rattle.blif.specs.Printer.{row_line}
use Rattle.blif.specs.Room.{row_room}
use Rattle.emit.specs.Upto.{texts_upto}
use Rattle.blif.specs.Texts.{row_text, rows_text}

-- the digit 1
abbrev one_byte : ℕ
one_byte = 0x31

abbrev ended_row : ℕ → ℕ → List ℕ
ended_row n r = row_line (values_of n r) ++ (newline ∷ [])

pub row_absent : (n r b : ℕ) (a : List ℕ) (at : ℕ) → (b ≡ one_byte → ⊥) → Written row_room a a at at (pick (is_one b) (ended_row n r) [])
row_absent n r b a at h =
    put_same (put_none {m = row_room} a at) (ap (λ (v : Bool). pick v (ended_row n r) []) (sym (ne_eqb b one_byte h))) (omega arith)

ended_alone : (n r : ℕ) → n ≡ 0 → print_digits (values_of n r) ++ bytes "1\n" ≡ ended_row n r
unfolding values_of print_digits
ended_alone zero r e = refl
ended_alone (suc n) r e = absurd (omega arith)

ended_many : (n r : ℕ) → (n ≡ 0 → ⊥) → print_digits (values_of n r) ++ bytes " 1\n" ≡ ended_row n r
unfolding values_of
ended_many zero r h = absurd (h refl)
ended_many (suc n) r h = sym (append_assoc (print_digits (values_of (suc n) r)) (bytes " 1") (newline ∷ []))

present : (n r b : ℕ) → b ≡ one_byte → ended_row n r ≡ pick (is_one b) (ended_row n r) []
present n r b one = ap (λ (v : Bool). pick v (ended_row n r) []) (sym (eq-eqb b one_byte one))

pub row_alone : (n r b : ℕ) {a c e : List ℕ} {at p q : ℕ}
    → b ≡ one_byte
    → Written max_inputs a c at p (print_digits (values_of n r))
    → n ≡ 0
    → Written 2 c e p q (bytes "1\n") → Written row_room a e at q (pick (is_one b) (ended_row n r) [])
row_alone n r b one w none v = put_next w v (ended_alone n r none ∙ present n r b one) (omega arith)

pub row_many : (n r b : ℕ) {a c e : List ℕ} {at p q : ℕ}
    → b ≡ one_byte
    → Written max_inputs a c at p (print_digits (values_of n r))
    → (n ≡ 0 → ⊥)
    → Written 3 c e p q (bytes " 1\n") → Written row_room a e at q (pick (is_one b) (ended_row n r) [])
row_many n r b one w some v = put_next w v (ended_many n r some ∙ present n r b one) (omega arith)

-- ---- all rows
pub rows_few : (n rows : ℕ) → n ≤ max_inputs → rows ≡ 2 ^ n → rows ≤ max_rows
rows_few n rows l e = let p : 2 ^ n ≤ 2 ^ max_inputs = pow_mono {i = n} {j = max_inputs} l in omega arith

pub rows_text_lem : (n rows : ℕ) (f : ℕ → Bool) → rows ≡ 2 ^ n → texts_upto (row_text n f) rows ≡ rows_text n f
unfolding rows_text
rows_text_lem n rows f e = ap (texts_upto (row_text n f)) e
