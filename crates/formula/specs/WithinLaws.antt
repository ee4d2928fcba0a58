-- Whatever the bound: a formula that was read stands at the front of the text. What opens it stands there; the parts after
-- the opening were read by a smaller bound, each at the front of what the part before it left; a bracket closes it.
-- Assumes nothing.
use Rattle.std.specs.Prelude.{◌≡◌, refl, Bool, true, false, ◌&&◌, List, [], ◌∷◌, ◌++◌, ℕ, zero, suc}
use Rattle.std.proofs.Common.{sym, ap, ◌∙◌, eqb-true}
use Rattle.bits.specs.Logic.{pick}
use Rattle.bits.specs.LogicLaws.{true_false, and_both}
use Rattle.text.specs.Bytes.{Read, found, after, space, close_bracket}
use Rattle.text.specs.EatLaws.{bad_found, found-item, found-rest, after-found}
use Rattle.text.specs.After.{byte_found}
use Rattle.cursor.specs.Opening.{Gate, Opening, name-opens, digit-opens, not-opens, gate_opens, read_opening}
use Rattle.cursor.specs.Front.{opening_print, OpeningFront}
use Rattle.cursor.specs.OpeningLaws.{opening_print_of_read}
use Rattle.formula.specs.Tree.{Formula, input, constant, negation, gate, Operands, none, more}
use Rattle.formula.specs.Printer.{print, prints, spelled, spelled_all}
use Rattle.formula.specs.Reader.{space_next, rest, close_not, close_gate, finish, read_within, operands_within}
use Rattle.formula.specs.PrintLaws.{print_constant, print_negation, print_gate, prints_more}
use Rattle.formula.specs.Front.{FormulaFront, OperandsFront}

name-front : (s : List ℕ) (n t : List ℕ) → OpeningFront s (name-opens n) t → FormulaFront s (input n) t
unfolding print spelled
name-front s n t o = record { is_spelled = o.is_spelled; is_split = o.is_split; ends = o.ends }

constant_front : (s : List ℕ) (b : Bool) (t : List ℕ) → OpeningFront s (digit-opens b) t → FormulaFront s (constant b) t
unfolding spelled
constant_front s b t o = record { is_spelled = refl; is_split = o.is_split ∙ sym (print_constant b t); ends = tt }

-- a negation, or a gate, whose parts stand behind one another
negation_front : (s u : List ℕ) (e f : Formula) (w t : List ℕ) → OpeningFront s not-opens u → FormulaFront u e w
    → close_not e w ≡ found f t → FormulaFront s f t
unfolding spelled
negation_front s u e f w t o i c =
    let b = byte_found close_bracket (negation e) f w t c in
    rw b.0 at (here b.1)
  where
    here : w ≡ close_bracket ∷ t → FormulaFront s (negation e) t
    here q =
        let inner : u ≡ print e ++ (close_bracket ∷ t) = i.is_split ∙ ap (λ (x : List ℕ). print e ++ x) q in
        record {
          is_spelled = i.is_spelled;
          is_split = o.is_split ∙ ap (λ (x : List ℕ). opening_print not-opens ++ x) inner ∙ sym (print_negation e t);
          ends = tt;
        }

gate_front : (g : Gate) (s u : List ℕ) (e f : Formula) (fs : Operands) (v w t : List ℕ) → OpeningFront s (gate_opens g) u
    → FormulaFront u e v → OperandsFront v fs w → close_gate g e fs w ≡ found f t → FormulaFront s f t
unfolding spelled
gate_front g s u e f none v w t o i j c = absurd (bad_found c)
gate_front g s u e f (more d ds) v w t o i j c =
    let b = byte_found close_bracket (gate g e d ds) f w t c in
    rw b.0 at (here b.1)
  where
    here : w ≡ close_bracket ∷ t → FormulaFront s (gate g e d ds) t
    here q =
        let others : v ≡ prints (more d ds) ++ (close_bracket ∷ t) = j.is_split ∙ ap (λ (x : List ℕ). prints (more d ds) ++ x) q in
        let inner : u ≡ print e ++ (prints (more d ds) ++ (close_bracket ∷ t)) = i.is_split ∙ ap (λ (x : List ℕ). print e ++ x) others in
        record {
          is_spelled = and_both (spelled e) (spelled d && spelled_all ds) i.is_spelled j.are_spelled;
          is_split = o.is_split ∙ ap (λ (x : List ℕ). opening_print (gate_opens g) ++ x) inner ∙ sym (print_gate g e d ds t);
          ends = tt;
        }

-- ---- a formula and operands, where the readers of their parts find parts at the front
abbrev FindsFormula : List ℕ → Read Formula → Type 0
FindsFormula s r = (f : Formula) (t : List ℕ) → r ≡ found f t → FormulaFront s f t

abbrev FindsOperands : (List ℕ → Read Operands) → Type 0
FindsOperands q = (s : List ℕ) (fs : Operands) (t : List ℕ) → q s ≡ found fs t → OperandsFront s fs t

finish-front : (i : Opening) (s u : List ℕ) (r : Read Formula) (q : List ℕ → Read Operands) → OpeningFront s i u
    → FindsFormula u r → FindsOperands q → FindsFormula s (finish i u r q)
finish-front (name-opens n) s u r q o h k f t e = rw (found-item e, found-rest e) at (name-front s n u o)
finish-front (digit-opens b) s u r q o h k f t e = rw (found-item e, found-rest e) at (constant_front s b u o)
finish-front not-opens s u r q o h k f t e =
    let b = after-found r (λ a w. close_not a w) f t e in
    negation_front s u b.0 f b.1 t o (h b.0 b.1 b.2) b.3
finish-front (gate_opens g) s u r q o h k f t e =
    let b = after-found r (λ a v. after (q v) (λ fs w. close_gate g a fs w)) f t e in
    let c = after-found (q b.1) (λ fs w. close_gate g b.0 fs w) f t b.3 in
    gate_front g s u b.0 f c.0 b.1 c.1 t o (h b.0 b.1 b.2) (k b.1 c.0 c.1 c.2) c.3

more_front : (s v t : List ℕ) (f : Formula) (fs : Operands) → FormulaFront s f v → OperandsFront v fs t → OperandsFront (space ∷ s) (more f fs) t
unfolding spelled
more_front s v t f fs i j =
    record {
      are_spelled = and_both (spelled f) (spelled_all fs) i.is_spelled j.are_spelled;
      is_split = ap (λ (x : List ℕ). space ∷ x) (i.is_split ∙ ap (λ (x : List ℕ). print f ++ x) j.is_split) ∙ sym (prints_more f fs t);
      all_end = (rw j.is_split at i.ends, j.all_end);
      no_space = j.no_space;
    }

none_front : (s t : List ℕ) → s ≡ t → space_next s ≡ false → OperandsFront s none t
unfolding print spelled
none_front s t q e = record { are_spelled = refl; is_split = q; all_end = tt; no_space = rw q at e }

others-front : (s : List ℕ) (r : Read Formula) (q : List ℕ → Read Operands) (fs : Operands) (t : List ℕ) → FindsFormula s r
    → FindsOperands q → after r (λ f u. after (q u) (λ gs v. found (more f gs) v)) ≡ found fs t → OperandsFront (space ∷ s) fs t
others-front s r q fs t h k e =
    let b = after-found r (λ f u. after (q u) (λ gs v. found (more f gs) v)) fs t e in
    let c = after-found (q b.1) (λ gs v. found (more b.0 gs) v) fs t b.3 in
    rw (found-item c.3, found-rest c.3)
    at (more_front s b.1 c.1 b.0 c.0 (h b.0 b.1 b.2) (k b.1 c.0 c.1 c.2))

operands_by : (c : Bool) (s : List ℕ) (r : Read Formula) (q : List ℕ → Read Operands) (fs : Operands) (t : List ℕ)
    → space_next s ≡ c → FindsFormula (rest s) r → FindsOperands q
    → pick c (after r (λ f u. after (q u) (λ gs v. found (more f gs) v))) (found none s) ≡ found fs t → OperandsFront s fs t
operands_by true [] r q fs t z h k e = absurd (true_false (sym z))
operands_by true (b ∷ s) r q fs t z h k e = rw (eqb-true b space z) (others-front s r q fs t h k e)
operands_by false s r q fs t z h k e = rw (found-item e) at (none_front s t (found-rest e) z)

-- ---- by the bound
mutual
  unfolding read_within

  pub formula_within : (k : ℕ) (s : List ℕ) (f : Formula) (t : List ℕ) → read_within k s ≡ found f t → FormulaFront s f t
  formula_within zero s f t e = absurd (bad_found e)
  formula_within (suc k) s f t e =
      let b = after-found (read_opening s) (λ i u. finish i u (read_within k u) (λ w. operands_within k w)) f t e in
      finish-front b.0 s b.1 (read_within k b.1) (λ w. operands_within k w)
      (opening_print_of_read s b.0 b.1 b.2)
      (λ g v d. formula_within k b.1 g v d) (λ w gs v d. operands_within_lem k w gs v d) f t b.3

  operands_within_lem : (k : ℕ) (s : List ℕ) (fs : Operands) (t : List ℕ) → operands_within k s ≡ found fs t → OperandsFront s fs t
  operands_within_lem zero s fs t e = absurd (bad_found e)
  operands_within_lem (suc k) s fs t e =
      operands_by (space_next s) s (read_within k (rest s)) (λ w. operands_within k w) fs t refl (λ g v d. formula_within k (rest s) g v d) (λ w gs v d. operands_within_lem k w gs v d) e
