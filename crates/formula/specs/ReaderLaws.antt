-- The reader without its bound. What was read stands at the front and is not empty, so each part leaves a shorter text; so
-- two bounds above the text's length find the same, and each step is what the grammar says. Assumes nothing.
use Rattle.std.specs.Prelude.{◌≡◌, refl, Bool, true, false, List, [], ◌∷◌, ℕ, zero, suc, ◌<◌, length}
use Rattle.std.proofs.Common.{sym, ap, ◌∙◌, arith, length-append}
use Rattle.bits.specs.Logic.{pick}
use Rattle.bits.specs.LogicLaws.{true_false}
use Rattle.text.specs.Bytes.{Read, found, bad, after}
use Rattle.text.specs.After.{after_same}
use Rattle.names.specs.NameLaws.{name_not_empty}
use Rattle.cursor.specs.Opening.{Opening, name-opens, digit-opens, not-opens, gate_opens, read_opening}
use Rattle.cursor.specs.OpeningLaws.{opening_shorter}
use Rattle.formula.specs.Tree.{Formula, input, constant, negation, gate, Operands, none, more}
use Rattle.formula.specs.Printer.{print, spelled}
use Rattle.formula.specs.Reader.{space_next, rest, close_not, close_gate, finish, read_within, operands_within, read_formula, read_operands}
use Rattle.formula.specs.WithinLaws.{formula_within}

-- ---- the text after an item is shorter
print_long : (f : Formula) → spelled f ≡ true → 0 < length (print f)
unfolding print spelled
print_long (input n) e = name_not_empty n e
print_long (constant b) e = omega arith
print_long (negation f) e = omega arith
print_long (gate g e f fs) h = omega arith

within_shorter : (k : ℕ) (s : List ℕ) (f : Formula) (t : List ℕ) → read_within k s ≡ found f t → length t < length s
within_shorter k s f t e =
    let r = formula_within k s f t e in
    let h = print_long f r.is_spelled in
    omega (arith, simp length-append at (ap length r.is_split))

pub formula_shorter : (s : List ℕ) (f : Formula) (t : List ℕ) → read_formula s ≡ found f t → length t < length s
unfolding read_formula
formula_shorter s f t e = within_shorter (suc (length s)) s f t e

-- ---- two bounds above the text's length
finish_same : (i : Opening) (t : List ℕ) (r r' : Read Formula) (q q' : List ℕ → Read Operands) → r ≡ r'
    → ((e : Formula) (u : List ℕ) → r' ≡ found e u → q u ≡ q' u) → finish i t r q ≡ finish i t r' q'
finish_same (name-opens n) t r r' q q' e h = refl
finish_same (digit-opens b) t r r' q q' e h = refl
finish_same not-opens t r r' q q' e h = ap (λ (x : Read Formula). after x (λ f u. close_not f u)) e
finish_same (gate_opens g) t r r' q q' e h =
    ap (λ (x : Read Formula). after x (λ a u. after (q u) (λ fs v. close_gate g a fs v))) e
    ∙ after_same r' (λ a u. after (q u) (λ fs v. close_gate g a fs v)) (λ a u. after (q' u) (λ fs v. close_gate g a fs v))
    (λ a u d. ap (λ (x : Read Operands). after x (λ fs v. close_gate g a fs v)) (h a u d))

-- a further operand and those after it
abbrev one_more : Read Formula → (List ℕ → Read Operands) → Read Operands
one_more r q = after r (λ f t. after (q t) (λ fs u. found (more f fs) u))

more_same : (r r' : Read Formula) (q q' : List ℕ → Read Operands) → r ≡ r'
    → ((f : Formula) (t : List ℕ) → r' ≡ found f t → q t ≡ q' t) → one_more r q ≡ one_more r' q'
more_same r r' q q' e h =
    ap (λ (x : Read Formula). one_more x q) e
    ∙ after_same r' (λ f t. after (q t) (λ fs u. found (more f fs) u)) (λ f t. after (q' t) (λ fs u. found (more f fs) u))
    (λ f t d. ap (λ (x : Read Operands). after x (λ fs u. found (more f fs) u)) (h f t d))

mutual
  unfolding read_within

  formula_agree : (j k : ℕ) (s : List ℕ) → length s < j → length s < k → read_within j s ≡ read_within k s
  formula_agree zero k s h l = absurd (omega arith)
  formula_agree (suc j) zero s h l = absurd (omega arith)
  formula_agree (suc j) (suc k) s h l =
      after_same (read_opening s) (λ i t. finish i t (read_within j t) (λ u. operands_within j u)) (λ i t. finish i t (read_within k t) (λ u. operands_within k u))
      (λ i t e.
      let d : length t < length s = opening_shorter s i t e in
      finish_same i t (read_within j t) (read_within k t) (λ u. operands_within j u) (λ u. operands_within k u)
      (formula_agree j k t (omega arith) (omega arith))
      (λ f u c.
      let b : length u < length t = within_shorter k t f u c in
      operands_agree j k u (omega arith) (omega arith)))

  operands_agree : (j k : ℕ) (s : List ℕ) → length s < j → length s < k → operands_within j s ≡ operands_within k s
  operands_agree zero k s h l = absurd (omega arith)
  operands_agree (suc j) zero s h l = absurd (omega arith)
  operands_agree (suc j) (suc k) [] h l = refl
  operands_agree (suc j) (suc k) (b ∷ s) h l =
      ap (λ (x : Read Operands). pick (space_next (b ∷ s)) x (found none (b ∷ s)))
      (more_same (read_within j s) (read_within k s) (λ u. operands_within j u) (λ u. operands_within k u)
      (formula_agree j k s (omega arith) (omega arith))
      (λ f u c.
      let d : length u < length s = within_shorter k s f u c in
      operands_agree j k u (omega arith) (omega arith)))

-- ---- the steps
pub formula_unopened : (s : List ℕ) → read_opening s ≡ bad → read_formula s ≡ bad
unfolding read_formula read_within
formula_unopened s e = rw e refl

pub formula_opened : (s : List ℕ) (i : Opening) (t : List ℕ) → read_opening s ≡ found i t
    → read_formula s ≡ finish i t (read_formula t) (λ u. read_operands u)
unfolding read_formula read_operands read_within
formula_opened s i t e =
    let n = length s in
    let d : length t < n = opening_shorter s i t e in
    ap (λ (r : Read Opening). after r (λ i t. finish i t (read_within n t) (λ u. operands_within n u))) e
    ∙ finish_same i t (read_within n t) (read_formula t) (λ u. operands_within n u) (λ u. read_operands u)
    (formula_agree n (suc (length t)) t d (omega arith))
    (λ f u c.
    let b : length u < length t = formula_shorter t f u c in
    operands_agree n (suc (length u)) u (omega arith) (omega arith))

pub operands_none : (s : List ℕ) → space_next s ≡ false → read_operands s ≡ found none s
unfolding read_operands read_within
operands_none s e = rw e refl

pub operands_more : (s : List ℕ) → space_next s ≡ true
    → read_operands s ≡ after (read_formula (rest s)) (λ f t. after (read_operands t) (λ fs u. found (more f fs) u))
unfolding read_formula read_operands read_within
operands_more [] e = absurd (true_false (sym e))
operands_more (b ∷ s) e =
    let n = suc (length s) in
    ap (λ (c : Bool). pick c (one_more (read_within n s) (λ u. operands_within n u)) (found none (b ∷ s))) e
    ∙ more_same (read_within n s) (read_formula s) (λ u. operands_within n u) (λ u. read_operands u) refl
    (λ f u c.
    let d : length u < length s = formula_shorter s f u c in
    operands_agree n (suc (length u)) u (omega arith) (omega arith))
