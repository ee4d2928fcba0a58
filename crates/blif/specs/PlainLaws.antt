-- The lines of the text are of plain bytes: names, cell names, digits and the words between have no others. Lines of plain bytes
-- have no 0x0A in them. Assumes nothing.
use Rattle.std.specs.Prelude.{◌≡◌, refl, Bool, true, false, List, [], ◌∷◌, ◌++◌, map, ℕ, suc, ◌≤◌, length}
use Rattle.std.proofs.Common.{sym, ap, ◌∙◌, arith, le-leb, ne_eqb}
use Rattle.bits.specs.LogicLaws.{true_false, and_left, and_right, and_both}
use Rattle.rows.specs.Row.{values_of}
use Rattle.text.specs.Bytes.{newline, bytes}
use Rattle.text.specs.Number.{numeral, print_number}
use Rattle.text.specs.Numerals.{all_numerals}
use Rattle.text.specs.NumeralLaws.{numeral-low, numeral_high}
use Rattle.text.specs.FigureLaws.{print_numerals}
use Rattle.text.specs.Unbroken.{unbroken, all_unbroken}
use Rattle.text.specs.LineLaws.{unbroken-cons}
use Rattle.names.specs.Name.{Name, name_byte, all_name_bytes, is_name}
use Rattle.names.specs.Names.{all_names, print_names}
use Rattle.names.specs.IsNameLaws.{name-bytes, name_byte_between, backslash_no_name_byte}
use Rattle.network.specs.Network.{Node}
use Rattle.network.specs.Printer.{print_digits}
use Rattle.blif.specs.Printer.{cell_name, row_line, row_lines, block, lut_blocks, node_blocks}
use Rattle.blif.specs.Words.{number_sign, backslash, plain_byte, plain, all_plain}

-- ---- no 0x0A
plain-unbroken : (l : List ℕ) → plain l ≡ true → unbroken l ≡ true
unfolding plain plain_byte unbroken
plain-unbroken [] h = refl
plain-unbroken (b ∷ l) h =
    unbroken-cons b l
    (ne_eqb b newline (λ e. true_false (sym (and_left (plain_byte b) (plain l) h) ∙ ap plain_byte e)))
    (plain-unbroken l (and_right (plain_byte b) (plain l) h))

pub all_plain_unbroken : (ls : List (List ℕ)) → all_plain ls ≡ true → all_unbroken ls ≡ true
unfolding all_plain all_unbroken
all_plain_unbroken [] h = refl
all_plain_unbroken (l ∷ ls) h =
    and_both (unbroken l) (all_unbroken ls)
    (plain-unbroken l (and_left (plain l) (all_plain ls) h))
    (all_plain_unbroken ls (and_right (plain l) (all_plain ls) h))

-- ---- one text after another, and lists of them
plain-append : (l m : List ℕ) → plain l ≡ true → plain m ≡ true → plain (l ++ m) ≡ true
unfolding plain
plain-append [] m h k = k
plain-append (b ∷ l) m h k =
    and_both (plain_byte b) (plain (l ++ m))
    (and_left (plain_byte b) (plain l) h)
    (plain-append l m (and_right (plain_byte b) (plain l) h) k)

pub all_plain_append : (ls ms : List (List ℕ)) → all_plain ls ≡ true → all_plain ms ≡ true → all_plain (ls ++ ms) ≡ true
unfolding all_plain
all_plain_append [] ms h k = k
all_plain_append (l ∷ ls) ms h k =
    and_both (plain l) (all_plain (ls ++ ms))
    (and_left (plain l) (all_plain ls) h)
    (all_plain_append ls ms (and_right (plain l) (all_plain ls) h) k)

-- ---- names
plain_byte_lem : (b : ℕ) → 0x20 ≤ b → b ≤ 0x7E → (b ≡ number_sign → ⊥) → (b ≡ backslash → ⊥) → plain_byte b ≡ true
unfolding plain_byte
plain_byte_lem b l h c k = rw (le-leb 0x20 b l, le-leb b 0x7E h, ne_eqb b number_sign c, ne_eqb b backslash k) refl

name_byte_plain : (b : ℕ) → name_byte b ≡ true → plain_byte b ≡ true
name_byte_plain b h =
    let r = name_byte_between b h in
    plain_byte_lem b (omega (arith, r)) (omega (arith, r)) (λ e. omega (arith, r, e))
    (λ e. true_false (sym h ∙ ap name_byte e ∙ backslash_no_name_byte))

name_bytes_plain : (n : List ℕ) → all_name_bytes n ≡ true → plain n ≡ true
unfolding plain
name_bytes_plain [] h = refl
name_bytes_plain (b ∷ n) h =
    and_both (plain_byte b) (plain n)
    (name_byte_plain b (and_left (name_byte b) (all_name_bytes n) h))
    (name_bytes_plain n (and_right (name_byte b) (all_name_bytes n) h))

pub names_plain : (ns : List Name) → all_names ns ≡ true → all_plain ns ≡ true
unfolding all_names all_plain
names_plain [] h = refl
names_plain (n ∷ ns) h =
    and_both (plain n) (all_plain ns)
    (name_bytes_plain n (name-bytes n (and_left (is_name n) (all_names ns) h)))
    (names_plain ns (and_right (is_name n) (all_names ns) h))

pub printed_plain : (ns : List Name) → all_plain ns ≡ true → plain (print_names ns) ≡ true
unfolding all_plain print_names plain plain_byte
printed_plain [] h = refl
printed_plain (n ∷ ns) h =
    plain-append n (print_names ns) (and_left (plain n) (all_plain ns) h) (printed_plain ns (and_right (plain n) (all_plain ns) h))

-- ---- cell names
numerals-plain : (ds : List ℕ) → all_numerals ds ≡ true → plain ds ≡ true
unfolding plain all_numerals
numerals-plain [] h = refl
numerals-plain (d ∷ ds) h =
    let l = numeral-low d (and_left (numeral d) (all_numerals ds) h) in
    let u = numeral_high d (and_left (numeral d) (all_numerals ds) h) in
    and_both (plain_byte d) (plain ds)
    (plain_byte_lem d (omega arith) (omega arith) (λ e. omega (arith, e)) (λ e. omega (arith, e)))
    (numerals-plain ds (and_right (numeral d) (all_numerals ds) h))

number-plain : (n : ℕ) → plain (print_number n) ≡ true
number-plain n = numerals-plain (print_number n) (print_numerals n)

cell_plain : (i : ℕ) → plain (cell_name i) ≡ true
unfolding cell_name plain plain_byte
cell_plain i = number-plain i

cells-plain : (is : List ℕ) → all_plain (map cell_name is) ≡ true
unfolding all_plain
cells-plain [] = refl
cells-plain (i ∷ is) = and_both (plain (cell_name i)) (all_plain (map cell_name is)) (cell_plain i) (cells-plain is)

-- ---- rows
digits_plain : (vs : List Bool) → plain (print_digits vs) ≡ true
unfolding print_digits plain plain_byte
digits_plain [] = refl
digits_plain (true ∷ vs) = digits_plain vs
digits_plain (false ∷ vs) = digits_plain vs

row_plain : (vs : List Bool) → plain (row_line vs) ≡ true
unfolding plain plain_byte
row_plain [] = refl
row_plain (v ∷ vs) = plain-append (print_digits (v ∷ vs)) (bytes " 1") (digits_plain (v ∷ vs)) refl

rows_plain : (n r : ℕ) (ds : List Bool) → all_plain (row_lines n r ds) ≡ true
unfolding row_lines all_plain
rows_plain n r [] = refl
rows_plain n r (true ∷ ds) =
    and_both (plain (row_line (values_of n r))) (all_plain (row_lines n (suc r) ds))
    (row_plain (values_of n r))
    (rows_plain n (suc r) ds)
rows_plain n r (false ∷ ds) = rows_plain n (suc r) ds

-- ---- blocks
block-plain : (is : List Name) (n : Name) (ds : List Bool)
    → all_plain is ≡ true
    → plain n ≡ true
    → all_plain (block is n ds) ≡ true
unfolding block all_plain plain plain_byte
block-plain is n ds h k =
    let last : all_plain (n ∷ []) ≡ true = and_both (plain n) true k refl in
    and_both (plain (bytes ".names" ++ print_names (is ++ (n ∷ [])))) (all_plain (row_lines (length is) 0 ds))
    (printed_plain (is ++ (n ∷ [])) (all_plain_append is (n ∷ []) h last))
    (rows_plain (length is) 0 ds)

pub luts-plain : (bs : List Name) (i : ℕ) (ts : List (List Bool)) → all_plain bs ≡ true → all_plain (lut_blocks bs i ts) ≡ true
unfolding lut_blocks all_plain
luts-plain bs i [] h = refl
luts-plain bs i (t ∷ ts) h =
    all_plain_append (block bs (cell_name i) t) (lut_blocks bs (suc i) ts)
    (block-plain bs (cell_name i) t h (cell_plain i))
    (luts-plain bs (suc i) ts h)

pub nodes-plain : (fs ns : List Name) (xs : List Node)
    → all_plain fs ≡ true
    → all_plain ns ≡ true
    → all_plain (node_blocks fs ns xs) ≡ true
unfolding node_blocks all_plain
nodes-plain fs [] xs h k = refl
nodes-plain fs (n ∷ ns) [] h k = refl
nodes-plain fs (n ∷ ns) (x ∷ xs) h k =
    let is = map cell_name x.reads in
    all_plain_append (block (is ++ fs) n x.digits) (node_blocks fs ns xs)
    (block-plain (is ++ fs) n x.digits (all_plain_append is fs (cells-plain x.reads) h) (and_left (plain n) (all_plain ns) k))
    (nodes-plain fs ns xs h (and_right (plain n) (all_plain ns) k))
