-- Past a formula of which only the spelling is read, by what opens it; and past the operands of a gate, one after another.
-- Assumes nothing.
use Rattle.std.specs.Prelude.{◌≡◌, refl, Bool, true, false, List, [], ◌∷◌, ℕ, drop, Option, Some, None}
use Rattle.std.proofs.Common.{sym, ap, ◌∙◌, subst}
use Rattle.bits.specs.Logic.{pick}
use Rattle.text.specs.Bytes.{Read, found, bad, after, eat, space, close_bracket}
use Rattle.text.specs.EatLaws.{bad_found}
use Rattle.cursor.specs.Opening as spec
use Rattle.cursor.specs.Opening.{read_opening}
use Rattle.cursor.specs.Item.{At, MovedIs, from}
use Rattle.cursor.specs.declared.Cursor.{Cursor}
use Rattle.formula.specs.Tree.{Formula, Operands, none, more}
use Rattle.formula.specs.Reader.{read_formula, read_operands, close_not, close_gate}
use Rattle.formula.specs.ReaderLaws.{formula_opened, formula_unopened}
use Rattle.formula.specs.Part.{gate_on}
use Rattle.formula.specs.Skim.{spelling, skimmed_so_far}
use Rattle.formula.specs.TurnLaws.{operand_after, no_operand_after}

pub skimmed_is : (s : List ℕ) (m : Option Cursor) (r : Read (Unit {0})) → MovedIs s m r → skimmed_so_far s m ≡ r
skimmed_is s (Some c) r h = h.is
skimmed_is s None r h = h

-- the byte b after what was skimmed
abbrev pub then : List ℕ → Option Cursor → ℕ → Read (Unit {0})
then s m b = after (skimmed_so_far s m) (λ _ t. eat (b ∷ []) t)

pub skimmed_then : (s : List ℕ) (m r : Option Cursor) (b : ℕ) (c : Cursor) → m ≡ Some c → MovedIs s r (eat (b ∷ []) (from s c))
    → MovedIs s r (then s m b)
skimmed_then s m r b c e h = rw e h

pub skimmed_nothing : (s : List ℕ) (m : Option Cursor) (b : ℕ) → m ≡ None → bad ≡ then s m b
skimmed_nothing s m b e = rw e refl

-- ---- by the opening
closing_spelled : {A : Type 0} (a : A) (x : Read (Unit {0})) → spelling (after x (λ _ t. found a t)) ≡ x
closing_spelled a (found tt t) = refl
closing_spelled a bad = refl

not_spelled : (q : Read Formula) → spelling (after q (λ f u. close_not f u)) ≡ after (spelling q) (λ _ t. eat (close_bracket ∷ []) t)
not_spelled (found f u) = closing_spelled _ (eat (close_bracket ∷ []) u)
not_spelled bad = refl

module _ (s : List ℕ) (at : ℕ) (c : Cursor) where
  pub skim_name : (n : List ℕ) → At s (spec.name-opens n) c (read_opening (drop at s)) → At s tt c (spelling (read_formula (drop at s)))
  skim_name n h = record { inside = h.inside; is = rw (formula_opened (drop at s) (spec.name-opens n) (from s c) (sym h.is)) refl }

  pub skim_digit : (b : Bool) → At s (spec.digit-opens b) c (read_opening (drop at s)) → At s tt c (spelling (read_formula (drop at s)))
  skim_digit b h = record { inside = h.inside; is = rw (formula_opened (drop at s) (spec.digit-opens b) (from s c) (sym h.is)) refl }

  pub skim_not : (m r : Option Cursor) → At s spec.not-opens c (read_opening (drop at s)) → MovedIs s m (spelling (read_formula (from s c)))
      → MovedIs s r (after (skimmed_so_far s m) (λ _ t. eat (close_bracket ∷ []) t)) → MovedIs s r (spelling (read_formula (drop at s)))
  skim_not m r h i k =
      subst (λ (x : Read (Unit {0})). MovedIs s r x)
      (ap (λ (x : Read (Unit {0})). after x (λ _ t. eat (close_bracket ∷ []) t)) (skimmed_is s m (spelling (read_formula (from s c))) i)
      ∙ sym (not_spelled (read_formula (from s c)))
      ∙ ap spelling (sym (formula_opened (drop at s) spec.not-opens (from s c) (sym h.is))))
      k

  pub skim_gate : (g : spec.Gate) (r : Option Cursor) → At s (spec.gate_opens g) c (read_opening (drop at s))
      → MovedIs s r (spelling (gate_on g (read_formula (from s c)))) → MovedIs s r (spelling (read_formula (drop at s)))
  skim_gate g r h k =
      subst (λ (x : Read (Unit {0})). MovedIs s r x) (ap spelling (sym (formula_opened (drop at s) (spec.gate_opens g) (from s c) (sym h.is)))) k

pub skim_nothing : (s : List ℕ) (at : ℕ) → bad ≡ read_opening (drop at s) → bad ≡ spelling (read_formula (drop at s))
skim_nothing s at h = sym (ap spelling (formula_unopened (drop at s) (sym h)))

-- ---- the loop over the operands after the first
-- the closing bracket after the operands fs; enough, where an operand after the first came before them
abbrev closing : Bool → Operands → List ℕ → Read (Unit {0})
closing true fs t = eat (close_bracket ∷ []) t
closing false none t = bad
closing false (more f fs) t = eat (close_bracket ∷ []) t

abbrev pub ending : Bool → Read (Unit {0}) → Read (Unit {0})
ending enough x = after x (λ _ t. after (read_operands t) (λ fs u. closing enough fs u))

pub ending-start : (g : spec.Gate) (q : Read Formula) → spelling (gate_on g q) ≡ ending false (spelling q)
ending-start g (found e u) = by (read_operands u)
  where
    by : (o : Read Operands) → spelling (after o (λ fs t. close_gate g e fs t)) ≡ after o (λ fs t. closing false fs t)
    by (found none t) = refl
    by (found (more f fs) t) = closing_spelled _ (eat (close_bracket ∷ []) t)
    by bad = refl
ending-start g bad = refl

enough_more : (b : Bool) (f : Formula) (o : Read Operands)
    → after (after o (λ fs w. found (more f fs) w)) (λ fs w. closing b fs w) ≡ after o (λ fs w. closing true fs w)
enough_more true f (found fs w) = refl
enough_more false f (found fs w) = refl
enough_more b f bad = refl

one_more : (b : Bool) (q : Read Formula)
    → after (after q (λ f u. after (read_operands u) (λ fs w. found (more f fs) w))) (λ fs w. closing b fs w) ≡ ending true (spelling q)
one_more b (found f u) = enough_more b f (read_operands u)
one_more b bad = refl

pub ending_more : (b : Bool) (x : Read (Unit {0})) (v : List ℕ) → found tt v ≡ after x (λ _ t. eat (space ∷ []) t)
    → ending b x ≡ ending true (spelling (read_formula v))
ending_more b (found _ t) v e =
    ap (λ (o : Read Operands). after o (λ fs u. closing b fs u)) (operand_after t v e) ∙ one_more b (read_formula v)
ending_more b bad v e = absurd (bad_found (sym e))

ending_over : (b : Bool) (x : Read (Unit {0})) → bad ≡ after x (λ _ t. eat (space ∷ []) t)
    → ending b x ≡ pick b (after x (λ _ t. eat (close_bracket ∷ []) t)) bad
ending_over b (found _ t) e = ap (λ (o : Read Operands). after o (λ fs u. closing b fs u)) (no_operand_after t e) ∙ none_closing b t
  where
    none_closing : (b : Bool) (t : List ℕ) → closing b none t ≡ pick b (eat (close_bracket ∷ []) t) bad
    none_closing true t = refl
    none_closing false t = refl
ending_over true bad e = refl
ending_over false bad e = refl

-- where no further operand comes
module _ (s : List ℕ) (first past : Option Cursor) (b : Bool) (g : spec.Gate) (q : Read Formula) (h : MovedIs s first (spelling q))
    (i : ending false (skimmed_so_far s first) ≡ ending b (skimmed_so_far s past)) (n : bad ≡ then s past space) where
  over : spelling (gate_on g q) ≡ pick b (then s past close_bracket) bad
  over =
      ending-start g q ∙ ap (ending false) (sym (skimmed_is s first (spelling q) h)) ∙ i
      ∙ ending_over b (skimmed_so_far s past) n

  pub skim_closed : b ≡ true → (r : Option Cursor) → MovedIs s r (then s past close_bracket) → MovedIs s r (spelling (gate_on g q))
  skim_closed e r k =
      subst (λ (x : Read (Unit {0})). MovedIs s r x)
      (sym (over ∙ ap (λ (t : Bool). pick t (then s past close_bracket) bad) e)) k

  -- a gate has two operands or more
  pub skim_short : b ≡ false → bad ≡ spelling (gate_on g q)
  skim_short e = sym (over ∙ ap (λ (t : Bool). pick t (then s past close_bracket) bad) e)

-- where what stands after a space is no operand
pub skim_broken : (s : List ℕ) (first past : Cursor) (g : spec.Gate) (q : Read Formula) → At s tt first (spelling q) → (b : Bool) (v : List ℕ)
    → ending false (found tt (from s first)) ≡ ending b (found tt (from s past)) → found tt v ≡ eat (space ∷ []) (from s past)
    → bad ≡ spelling (read_formula v) → bad ≡ spelling (gate_on g q)
skim_broken s first past g q h b v i n e =
    sym (ending-start g q ∙ ap (ending false) (sym h.is) ∙ i ∙ ending_more b (found tt (from s past)) v n ∙ ap (ending true) (sym e))
