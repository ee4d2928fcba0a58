-- Reading is the inverse of printing, for formulas of any depth: a formula is read exactly where it stands at the front, and
-- a whole text is read as a formula exactly where it is that formula's print. From the print: by the formula, since what
-- follows an operand, a space or a bracket, stands in no name. Assumes nothing.
use Rattle.std.specs.Prelude.{◌≡◌, refl, true, false, ◌&&◌, List, [], ◌∷◌, ◌++◌, ℕ, suc, length}
use Rattle.std.proofs.Common.{sym, ap, ◌∙◌, append-nil}
use Rattle.std.proofs.Math.Option.{some}
use Rattle.bits.specs.LogicLaws.{and_left, and_right}
use Rattle.text.specs.Bytes.{Read, found, after, eat, space, close_bracket, whole}
use Rattle.text.specs.EatLaws.{whole-found, found-whole}
use Rattle.names.specs.Front.{Stops}
use Rattle.names.specs.ReadLaws.{space-stops, bracket_stops}
use Rattle.cursor.specs.Opening.{Gate, name-opens, digit-opens, not-opens, gate_opens}
use Rattle.cursor.specs.Front.{opening_print}
use Rattle.cursor.specs.OpeningLaws.{opening_read_of_print}
use Rattle.formula.specs.Tree.{Formula, input, constant, negation, gate, Operands, none, more}
use Rattle.formula.specs.Printer.{print, prints, spelled, spelled_all}
use Rattle.formula.specs.Reader.{space_next, close_not, close_gate, read_formula, read_operands}
use Rattle.formula.specs.PrintLaws.{print_constant, print_negation, print_gate, prints_more}
use Rattle.formula.specs.Front.{Ends, AllEnd, FormulaFront}
use Rattle.formula.specs.WithinLaws.{formula_within}
use Rattle.formula.specs.ReaderLaws.{formula_opened, operands_more, operands_none}

-- ---- what was read stands at the front
pub formula_front_found : (s : List ℕ) (f : Formula) (t : List ℕ) → read_formula s ≡ found f t → FormulaFront s f t
unfolding read_formula
formula_front_found s f t e = formula_within (suc (length s)) s f t e

-- ---- where a text stops, any formula may end
stops-ends : (f : Formula) (t : List ℕ) → Stops t → Ends f t
stops-ends (input n) t h = h
stops-ends (constant b) t h = tt
stops-ends (negation f) t h = tt
stops-ends (gate g e f fs) t h = tt

space-ends : (f : Formula) (t : List ℕ) → Ends f (space ∷ t)
space-ends f t = stops-ends f (space ∷ t) (space-stops t)

operand_ends : (f : Formula) (fs : Operands) (t : List ℕ) → Stops t → Ends f (prints fs ++ t)
unfolding prints
operand_ends f none t h = stops-ends f t h
operand_ends f (more g gs) t h = space-ends f _

stops_all_end : (fs : Operands) (t : List ℕ) → Stops t → AllEnd fs t
stops_all_end none t h = tt
stops_all_end (more f fs) t h = (operand_ends f fs t h, stops_all_end fs t h)

-- ---- what stands at the front is read
negation_read : (f : Formula) (t : List ℕ) → read_formula (print f ++ (close_bracket ∷ t)) ≡ found f (close_bracket ∷ t)
    → read_formula (print (negation f) ++ t) ≡ found (negation f) t
unfolding eat
negation_read f t e =
    let u = print f ++ (close_bracket ∷ t) in
    ap read_formula (print_negation f t)
    ∙ formula_opened (opening_print not-opens ++ u) not-opens u (opening_read_of_print not-opens u refl tt)
    ∙ ap (λ (r : Read Formula). after r (λ a v. close_not a v)) e

more_read : (f : Formula) (fs : Operands) (t : List ℕ) → read_formula (print f ++ (prints fs ++ t)) ≡ found f (prints fs ++ t)
    → read_operands (prints fs ++ t) ≡ found fs t → read_operands (prints (more f fs) ++ t) ≡ found (more f fs) t
more_read f fs t e d =
    let u = print f ++ (prints fs ++ t) in
    ap read_operands (prints_more f fs t) ∙ operands_more (space ∷ u) refl
    ∙ ap (λ (r : Read Formula). after r (λ a v. after (read_operands v) (λ bs w. found (more a bs) w))) e
    ∙ ap (λ (r : Read Operands). after r (λ bs w. found (more f bs) w)) d

gate_read : (g : Gate) (e f : Formula) (fs : Operands) (t : List ℕ) (v : List ℕ) → v ≡ prints (more f fs) ++ (close_bracket ∷ t)
    → read_formula (print e ++ v) ≡ found e v → read_operands v ≡ found (more f fs) (close_bracket ∷ t)
    → read_formula (print (gate g e f fs) ++ t) ≡ found (gate g e f fs) t
unfolding eat
gate_read g e f fs t v q i j =
    let u = print e ++ v in
    ap read_formula (print_gate g e f fs t ∙ ap (λ (x : List ℕ). opening_print (gate_opens g) ++ (print e ++ x)) (sym q))
    ∙ formula_opened (opening_print (gate_opens g) ++ u) (gate_opens g) u (opening_read_of_print (gate_opens g) u refl tt)
    ∙ ap (λ (r : Read Formula). after r (λ a w. after (read_operands w) (λ bs x. close_gate g a bs x))) i
    ∙ ap (λ (r : Read Operands). after r (λ bs x. close_gate g e bs x)) j

mutual
  unfolding print spelled

  formula_front_read : (f : Formula) (t : List ℕ) → spelled f ≡ true → Ends f t → read_formula (print f ++ t) ≡ found f t
  formula_front_read (input n) t e h = formula_opened (n ++ t) (name-opens n) t (opening_read_of_print (name-opens n) t e h)
  formula_front_read (constant b) t e h =
      ap read_formula (print_constant b t)
      ∙ formula_opened (opening_print (digit-opens b) ++ t) (digit-opens b) t (opening_read_of_print (digit-opens b) t refl tt)
  formula_front_read (negation f) t e h =
      negation_read f t (formula_front_read f (close_bracket ∷ t) e (stops-ends f (close_bracket ∷ t) (bracket_stops t)))
  formula_front_read (gate g a f fs) t e h =
      let d : spelled f && spelled_all fs ≡ true = and_right (spelled a) (spelled f && spelled_all fs) e in
      let u = close_bracket ∷ t in
      gate_read g a f fs t (space ∷ (print f ++ prints fs) ++ u) refl
      (formula_front_read a (space ∷ (print f ++ prints fs) ++ u) (and_left (spelled a) (spelled f && spelled_all fs) e) (space-ends a _))
      (more_read f fs u
      (formula_front_read f (prints fs ++ u) (and_left (spelled f) (spelled_all fs) d) (operand_ends f fs u (bracket_stops t)))
      (operands_front_read fs u (and_right (spelled f) (spelled_all fs) d) (stops_all_end fs u (bracket_stops t)) refl))

  operands_front_read : (fs : Operands) (t : List ℕ) → spelled_all fs ≡ true → AllEnd fs t → space_next t ≡ false
      → read_operands (prints fs ++ t) ≡ found fs t
  operands_front_read none t e h n = operands_none t n
  operands_front_read (more f fs) t e h n =
      more_read f fs t
      (formula_front_read f (prints fs ++ t) (and_left (spelled f) (spelled_all fs) e) h.0)
      (operands_front_read fs t (and_right (spelled f) (spelled_all fs) e) h.1 n)

-- ---- in particular where the text stops
pub formula_stops_read : (f : Formula) (t : List ℕ) → spelled f ≡ true → Stops t → read_formula (print f ++ t) ≡ found f t
formula_stops_read f t e h = formula_front_read f t e (stops-ends f t h)

-- ---- whole texts
pub formula_read_of_print : (s : List ℕ) (f : Formula) → spelled f ≡ true → s ≡ print f → whole (read_formula s) ≡ some f
formula_read_of_print s f e q =
    found-whole (read_formula s) f (ap read_formula (q ∙ sym (append-nil (print f))) ∙ formula_front_read f [] e (stops-ends f [] tt))

pub formula_print_of_read : (s : List ℕ) (f : Formula) → whole (read_formula s) ≡ some f → (spelled f ≡ true) × (s ≡ print f)
formula_print_of_read s f e =
    let i = formula_front_found s f [] (whole-found (read_formula s) f e) in
    (i.is_spelled, i.is_split ∙ append-nil (print f))
