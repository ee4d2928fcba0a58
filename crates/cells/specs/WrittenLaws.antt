-- Tables and reading sets as lists of digits, and as numbers: lists that show the same tables have the same codes, and what a
-- core in numbers shows. Tables do not depend on who reads, nor reading sets on the tables. Assumes nothing.
use Rattle.std.specs.Prelude.{◌≡◌, refl, Bool, false, List, [], ◌∷◌, ℕ, zero, suc, ◌+◌, ◌*◌, ◌<◌, length, get_or, drop}
use Rattle.std.proofs.Common.{sym, ap, ap₂, ◌∙◌, arith, ext_get_or}
use Rattle.bits.specs.Digit.{on}
use Rattle.bits.specs.Values.{values_upto}
use Rattle.bits.specs.ValuesLaws.{values_length, values_at, values_same, same_values}
use Rattle.bits.specs.Logic.{bit}
use Rattle.cells.specs.CodesLaws.{on-low, on_high, cells-length}
use Rattle.cells.specs.Core.{Cell, cells_from, core_of}
use Rattle.cells.specs.Codes.{number_of, row_of, code_of}
use Rattle.cells.specs.Written.{tables_of, reads_of}

-- ======== lengths
pub tables_length : (v : ℕ) (l : List Cell) → length (tables_of v l) ≡ length l
unfolding tables_of
tables_length v [] = refl
tables_length v (c ∷ l) = ap suc (tables_length v l)

pub table-length : (v i : ℕ) (l : List Cell) → i < length l → length (get_or (tables_of v l) i []) ≡ v
unfolding tables_of
table-length v i [] h = absurd (omega arith)
table-length v zero (c ∷ l) h = values_length c.table v
table-length v (suc i) (c ∷ l) h = table-length v i l (omega arith)

reads-length : (o : ℕ) (l : List Cell) → length (reads_of o l) ≡ length l
unfolding reads_of
reads-length o [] = refl
reads-length o (c ∷ l) = ap suc (reads-length o l)

-- ======== digits
pub table-digit : (v x i : ℕ) (l : List Cell) → x < v → i < length l → get_or (get_or (tables_of v l) i []) x false ≡ on (code_of l x) i
unfolding tables_of number_of
table-digit v x i [] b h = absurd (omega arith)
table-digit v x zero (c ∷ l) b h = values_at c.table v x b ∙ sym (on-low (c.table x) (code_of l x))
table-digit v x (suc i) (c ∷ l) b h = table-digit v x i l b (omega arith) ∙ sym (on_high (c.table x) (code_of l x) i)

reads-digit : (o i : ℕ) (l : List Cell) → i < length l → get_or (reads_of o l) i false ≡ on (row_of l o) i
unfolding reads_of number_of
reads-digit o i [] h = absurd (omega arith)
reads-digit o zero (c ∷ l) h = sym (on-low (c.readers o) (row_of l o))
reads-digit o (suc i) (c ∷ l) h = reads-digit o i l (omega arith) ∙ sym (on_high (c.readers o) (row_of l o) i)

pub reads_are_digits : (o : ℕ) (l : List Cell) → reads_of o l ≡ values_upto (on (row_of l o)) (length l)
reads_are_digits o l = ext_get_or false (reads_of o l) (values_upto (on (row_of l o)) (length l))
    (reads-length o l ∙ sym (values_length (on (row_of l o)) (length l)))
    (λ i h. let k : i < length l = (let e = reads-length o l in omega arith) in
    reads-digit o i l k ∙ sym (values_at (on (row_of l o)) (length l) i k))

-- cells with the same tables have the same codes
pub same_tables_codes : (v x : ℕ) (k l : List Cell) → x < v → tables_of v k ≡ tables_of v l → code_of k x ≡ code_of l x
unfolding tables_of number_of
same_tables_codes v x [] [] h e = refl
same_tables_codes v x [] (d ∷ l) h e = absurd (let z : 0 ≡ suc (length (tables_of v l)) = ap length e in omega arith)
same_tables_codes v x (c ∷ k) [] h e = absurd (let z : suc (length (tables_of v k)) ≡ 0 = ap length e in omega arith)
same_tables_codes v x (c ∷ k) (d ∷ l) h e =
    let here : values_upto c.table v ≡ values_upto d.table v = ap (λ (ts : List (List Bool)). get_or ts 0 []) e in
    let rest : tables_of v k ≡ tables_of v l = ap (drop 1) e in
    ap₂ (λ (b : Bool) (n : ℕ). bit b + 2 * n) (same_values c.table d.table v x h here) (same_tables_codes v x k l h rest)

-- ======== a core in numbers
cells-row : (o k n i : ℕ) (rows codes : ℕ → ℕ) → k < n → on (row_of (cells_from n i rows codes) o) k ≡ on (rows o) (i + k)
unfolding cells_from number_of
cells-row o k zero i rows codes h = absurd (omega arith)
cells-row o zero (suc n) i rows codes h =
    on-low (on (rows o) i) (row_of (cells_from n (suc i) rows codes) o) ∙ ap (on (rows o)) (let e : i ≡ i + 0 = omega arith in e)
cells-row o (suc k) (suc n) i rows codes h =
    on_high (on (rows o) i) (row_of (cells_from n (suc i) rows codes) o) k
    ∙ cells-row o k n (suc i) rows codes (omega arith) ∙ ap (on (rows o)) (let e : suc i + k ≡ i + suc k = omega arith in e)

cells_code : (x k n i : ℕ) (rows codes : ℕ → ℕ) → k < n → on (code_of (cells_from n i rows codes) x) k ≡ on (codes x) (i + k)
unfolding cells_from number_of
cells_code x k zero i rows codes h = absurd (omega arith)
cells_code x zero (suc n) i rows codes h =
    on-low (on (codes x) i) (code_of (cells_from n (suc i) rows codes) x) ∙ ap (on (codes x)) (let e : i ≡ i + 0 = omega arith in e)
cells_code x (suc k) (suc n) i rows codes h =
    on_high (on (codes x) i) (code_of (cells_from n (suc i) rows codes) x) k
    ∙ cells_code x k n (suc i) rows codes (omega arith) ∙ ap (on (codes x)) (let e : suc i + k ≡ i + suc k = omega arith in e)

core-row : (o k u : ℕ) (rows codes : ℕ → ℕ) → k < u → on (row_of (core_of u rows codes) o) k ≡ on (rows o) k
core-row o k u rows codes h = cells-row o k u 0 rows codes h ∙ ap (on (rows o)) (let e : 0 + k ≡ k = omega arith in e)

pub core_code : (x k u : ℕ) (rows codes : ℕ → ℕ) → k < u → on (code_of (core_of u rows codes) x) k ≡ on (codes x) k
core_code x k u rows codes h = cells_code x k u 0 rows codes h ∙ ap (on (codes x)) (let e : 0 + k ≡ k = omega arith in e)

pub core-reads : (o u : ℕ) (rows codes : ℕ → ℕ) → reads_of o (core_of u rows codes) ≡ values_upto (on (rows o)) u
core-reads o u rows codes = reads_are_digits o l ∙ ap (values_upto (on (row_of l o))) (cells-length u 0 rows codes)
    ∙ values_same (on (row_of l o)) (on (rows o)) u (λ i h. core-row o i u rows codes h)
  where
    l : List Cell
    l = core_of u rows codes

-- cells with codes that agree show the same tables, whoever reads them
same_codes_tables : (v n i : ℕ) (rows rows' codes codes' : ℕ → ℕ) → ((x : ℕ) → x < v → codes x ≡ codes' x)
    → tables_of v (cells_from n i rows codes) ≡ tables_of v (cells_from n i rows' codes')
unfolding cells_from tables_of
same_codes_tables v zero i rows rows' codes codes' e = refl
same_codes_tables v (suc n) i rows rows' codes codes' e = ap₂ ◌∷◌
    (values_same (λ (x : ℕ). on (codes x) i) (λ (x : ℕ). on (codes' x) i) v (λ x h. ap (λ (c : ℕ). on c i) (e x h)))
    (same_codes_tables v n (suc i) rows rows' codes codes' e)

pub tables_of_rows : (v n i : ℕ) (rows rows' codes : ℕ → ℕ) → tables_of v (cells_from n i rows codes) ≡ tables_of v (cells_from n i rows' codes)
tables_of_rows v n i rows rows' codes = same_codes_tables v n i rows rows' codes codes (λ x h. refl)
