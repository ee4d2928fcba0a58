-- Each line that is written holds bytes 0x20 to 0x7E alone: names, numbers, formulas and the words between are made of these.
-- Assumes nothing.
use Rattle.std.specs.Prelude.{◌≡◌, refl, true, false, ◌&&◌, List, [], ◌∷◌, ◌++◌, ℕ, ◌≤◌, leb}
use Rattle.std.proofs.Common.{arith, le-leb}
use Rattle.bits.specs.LogicLaws.{and_left, and_right, and_both}
use Rattle.text.specs.Bytes.{bytes, space, close_bracket}
use Rattle.text.specs.Number.{numeral, print_number}
use Rattle.text.specs.Numerals.{all_numerals}
use Rattle.text.specs.NumeralLaws.{numeral-low, numeral_high}
use Rattle.text.specs.FigureLaws.{print_numerals}
use Rattle.names.specs.Name.{Name, name_byte, all_name_bytes, is_name}
use Rattle.names.specs.Names.{print_names}
use Rattle.names.specs.Names.{all_names}
use Rattle.names.specs.IsNameLaws.{name-bytes, name_byte_between}
use Rattle.cursor.specs.Opening.{Gate, and_gate, or_gate, xor_gate}
use Rattle.formula.specs.Tree.{Formula, input, constant, negation, gate, Operands, none, more}
use Rattle.formula.specs.Printer.{gate_word, print, prints, spelled, spelled_all}
use Rattle.sheet.specs.Lines.{Output, print_in, print_bound, print_limit, print_out}
use Rattle.sheet.specs.Examine.{within}
use Rattle.sheet.specs.Visible.{visible}

within-visible : (b : ℕ) → 0x20 ≤ b → b ≤ 0x7E → within 0x20 0x7E b ≡ true
within-visible b l h = and_both (leb 0x20 b) (leb b 0x7E) (le-leb 0x20 b l) (le-leb b 0x7E h)

visible-append : (l m : List ℕ) → visible l ≡ true → visible m ≡ true → visible (l ++ m) ≡ true
unfolding visible
visible-append [] m h k = k
visible-append (b ∷ l) m h k =
    and_both (within 0x20 0x7E b) (visible (l ++ m))
    (and_left (within 0x20 0x7E b) (visible l) h)
    (visible-append l m (and_right (within 0x20 0x7E b) (visible l) h) k)

closed-visible : (l : List ℕ) → visible l ≡ true → visible (l ++ (close_bracket ∷ [])) ≡ true
unfolding visible
closed-visible l h = visible-append l (close_bracket ∷ []) h refl

-- ---- names
name_byte_visible : (b : ℕ) → name_byte b ≡ true → within 0x20 0x7E b ≡ true
name_byte_visible b h =
    let r = name_byte_between b h in
    within-visible b (omega (arith, r)) (omega (arith, r))

name_bytes_visible : (n : List ℕ) → all_name_bytes n ≡ true → visible n ≡ true
unfolding visible
name_bytes_visible [] h = refl
name_bytes_visible (b ∷ n) h =
    and_both (within 0x20 0x7E b) (visible n)
    (name_byte_visible b (and_left (name_byte b) (all_name_bytes n) h))
    (name_bytes_visible n (and_right (name_byte b) (all_name_bytes n) h))

name-visible : (n : Name) → is_name n ≡ true → visible n ≡ true
name-visible n h = name_bytes_visible n (name-bytes n h)

names_visible : (ns : List Name) → all_names ns ≡ true → visible (print_names ns) ≡ true
unfolding all_names print_names visible
names_visible [] h = refl
names_visible (n ∷ ns) h =
    visible-append n (print_names ns)
    (name-visible n (and_left (is_name n) (all_names ns) h))
    (names_visible ns (and_right (is_name n) (all_names ns) h))

-- ---- numbers
numeral-visible : (b : ℕ) → numeral b ≡ true → within 0x20 0x7E b ≡ true
numeral-visible b h = within-visible b (omega (arith, numeral-low b h)) (omega (arith, numeral_high b h))

numerals-visible : (ds : List ℕ) → all_numerals ds ≡ true → visible ds ≡ true
unfolding all_numerals visible
numerals-visible [] h = refl
numerals-visible (d ∷ ds) h =
    and_both (within 0x20 0x7E d) (visible ds)
    (numeral-visible d (and_left (numeral d) (all_numerals ds) h))
    (numerals-visible ds (and_right (numeral d) (all_numerals ds) h))

-- ---- formulas
word-visible : (g : Gate) (s : List ℕ) → visible s ≡ true → visible (bytes "(" ++ (gate_word g ++ (space ∷ s))) ≡ true
unfolding visible
word-visible and_gate s h = h
word-visible or_gate s h = h
word-visible xor_gate s h = h

mutual
  unfolding print spelled visible

  formula_visible : (f : Formula) → spelled f ≡ true → visible (print f) ≡ true
  formula_visible (input n) h = name-visible n h
  formula_visible (constant true) h = refl
  formula_visible (constant false) h = refl
  formula_visible (negation f) h = closed-visible (print f) (formula_visible f h)
  formula_visible (gate g e f fs) h =
      let k : spelled f && spelled_all fs ≡ true = and_right (spelled e) (spelled f && spelled_all fs) h in
      let us = prints fs ++ (close_bracket ∷ []) in
      word-visible g (print e ++ (space ∷ (print f ++ us)))
      (visible-append (print e) (space ∷ (print f ++ us))
      (formula_visible e (and_left (spelled e) (spelled f && spelled_all fs) h))
      (visible-append (print f) us
      (formula_visible f (and_left (spelled f) (spelled_all fs) k))
      (closed-visible (prints fs) (operands_visible fs (and_right (spelled f) (spelled_all fs) k)))))

  operands_visible : (fs : Operands) → spelled_all fs ≡ true → visible (prints fs) ≡ true
  operands_visible none h = refl
  operands_visible (more f fs) h =
      visible-append (print f) (prints fs)
      (formula_visible f (and_left (spelled f) (spelled_all fs) h))
      (operands_visible fs (and_right (spelled f) (spelled_all fs) h))

-- ---- lines
pub in_visible : (ns : List Name) → all_names ns ≡ true → visible (print_in ns) ≡ true
unfolding print_in visible
in_visible ns h = closed-visible (print_names ns) (names_visible ns h)

pub bound-visible : (ns : List Name) → all_names ns ≡ true → visible (print_bound ns) ≡ true
unfolding print_bound visible
bound-visible ns h = closed-visible (print_names ns) (names_visible ns h)

pub limit_visible : (n : ℕ) → visible (print_limit n) ≡ true
unfolding print_limit visible
limit_visible n = closed-visible (print_number n) (numerals-visible (print_number n) (print_numerals n))

pub out_visible : (o : Output) → is_name o.name ≡ true → spelled o.formula ≡ true → visible (print_out o) ≡ true
unfolding print_out visible
out_visible o h k =
    visible-append o.name (space ∷ (print o.formula ++ (close_bracket ∷ [])))
    (name-visible o.name h)
    (closed-visible (print o.formula) (formula_visible o.formula k))
