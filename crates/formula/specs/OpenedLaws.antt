-- A formula by what opens it: what the reader's definition comes to, and that less of the text is left. Assumes nothing.
use Rattle.std.specs.Prelude.{◌≡◌, Bool, List, ℕ, suc, ◌≤◌, ◌<◌, length, drop, Option, Some, None}
use Rattle.std.proofs.Math.Path.{refl, subst}
use Rattle.std.proofs.Common.{sym, ap, ◌∙◌, arith}
use Rattle.std.proofs.Math.Bool.{true}
use Rattle.limits.specs.Limits.{max_depth}
use Rattle.text.specs.Bytes.{Read, bad, after}
use Rattle.names.specs.Name.{Name, among}
use Rattle.names.specs.Pack.{name_of}
use Rattle.rows.specs.WordLaws.{rowwise_same}
use Rattle.cursor.specs.Opening as spec
use Rattle.cursor.specs.Opening.{read_opening}
use Rattle.cursor.specs.OpeningLaws.{opening_shorter}
use Rattle.cursor.specs.Item.{At, OpeningIs, gate_of, from}
use Rattle.cursor.specs.declared.Cursor.{Cursor}
use Rattle.cursor.specs.declared.Gate.{Gate}
use Rattle.cursor.specs.declared.Opening.{Opening}
use Rattle.formula.specs.Tree.{Formula, input, constant, depth, knows}
use Rattle.formula.specs.Reader.{read_formula, close_not}
use Rattle.formula.specs.ReaderLaws.{formula_opened, formula_unopened}
use Rattle.formula.specs.Value.{value, on_row}
use Rattle.formula.specs.Part.{Good, PartIs, Both, Atom, Closed, Negated, gate_on}
use Rattle.formula.specs.WalkLaws.{negation_is}
use Rattle.formula.specs.declared.Part.{Part}

module _ (s : List ℕ) (at : ℕ) (o : Option Opening) (h : OpeningIs s o (read_opening (drop at s))) where
  pub name_opened : (v : ℕ) (c : Cursor) → o ≡ Some (Opening.Name v c) → At s (spec.name-opens (name_of v)) c (read_opening (drop at s))
  name_opened v c e = subst (λ (x : Option Opening). OpeningIs s x (read_opening (drop at s))) e h

  pub digit_opened : (b : Bool) (c : Cursor) → o ≡ Some (Opening.Digit b c) → At s (spec.digit-opens b) c (read_opening (drop at s))
  digit_opened b c e = subst (λ (x : Option Opening). OpeningIs s x (read_opening (drop at s))) e h

  pub not_opened : (c : Cursor) → o ≡ Some (Opening.Not c) → At s spec.not-opens c (read_opening (drop at s))
  not_opened c e = subst (λ (x : Option Opening). OpeningIs s x (read_opening (drop at s))) e h

  pub gate_opened : (g : Gate) (c : Cursor) → o ≡ Some (Opening.Gate g c) → At s (spec.gate_opens (gate_of g)) c (read_opening (drop at s))
  gate_opened g c e = subst (λ (x : Option Opening). OpeningIs s x (read_opening (drop at s))) e h

  pub un_opened : o ≡ None → bad ≡ read_opening (drop at s)
  un_opened e = subst (λ (x : Option Opening). OpeningIs s x (read_opening (drop at s))) e h

pub opened_falls : (s : List ℕ) (at : ℕ) (i : spec.Opening) (c : Cursor) → At s i c (read_opening (drop at s))
    → length (from s c) < length (drop at s)
opened_falls s at i c h = opening_shorter (drop at s) i (from s c) (sym h.is)

-- ---- a formula of k brackets at most
atom_is : (k : ℕ) (s : List ℕ) (ns : List Name) (f : Formula) (c : Cursor) (b : Bool) (v : ℕ → Bool) (p : Part)
    → depth f ≡ 0 → knows ns f ≡ b → ((r : ℕ) → value (on_row ns r) f ≡ v r) → c.at ≤ length s → Atom c b v p → Good k s ns f (from s c) p
atom_is k s ns f c b v p d n e i a =
    record {
      inside = subst (λ (x : Cursor). x.at ≤ length s) (sym a.moved) i;
      rest = ap (λ (x : Cursor). drop x.at s) a.moved;
      deep = omega (arith, a.flat, d);
      names = λ _. a.named ∙ sym n;
      rows = λ _. rowwise_same a.each (λ r _. sym (e r));
    }

module _ (k : ℕ) (s : List ℕ) (ns : List Name) (at : ℕ) (c : Cursor) (r : Part) where
  pub name_is : (n : Name) → At s (spec.name-opens n) c (read_opening (drop at s)) → Atom c (among n ns) (λ (x : ℕ). on_row ns x n) r
      → PartIs k s ns (read_formula (drop at s)) (Some r)
  unfolding depth knows value
  name_is n h a =
      subst (λ (x : Read Formula). PartIs k s ns x (Some r)) (sym (formula_opened (drop at s) (spec.name-opens n) (from s c) (sym h.is)))
      (atom_is k s ns (input n) c (among n ns) (λ (x : ℕ). on_row ns x n) r refl refl (λ _. refl) h.inside a)

  pub digit_is : (b : Bool) → At s (spec.digit-opens b) c (read_opening (drop at s)) → Atom c true (λ (x : ℕ). b) r
      → PartIs k s ns (read_formula (drop at s)) (Some r)
  unfolding depth knows value
  digit_is b h a =
      subst (λ (x : Read Formula). PartIs k s ns x (Some r)) (sym (formula_opened (drop at s) (spec.digit-opens b) (from s c) (sym h.is)))
      (atom_is k s ns (constant b) c true (λ (x : ℕ). b) r refl refl (λ _. refl) h.inside a)

-- one bracket more than the inner formula
module _ (k l : ℕ) (one : suc k ≡ l) (s : List ℕ) (ns : List Name) (at : ℕ) (c : Cursor) (r : Option Part) where
  pub not_is : (p n : Option Part) → k ≤ max_depth → At s spec.not-opens c (read_opening (drop at s)) → PartIs k s ns (read_formula (from s c)) p
      → Both Negated p n → Closed s n r → PartIs l s ns (read_formula (drop at s)) r
  not_is p n z h q m x =
      rw (← one, formula_opened (drop at s) spec.not-opens (from s c) (sym h.is))
      (negation_is k s ns (read_formula (from s c)) p n r z q m x)

  pub negation_opened : At s spec.not-opens c (read_opening (drop at s))
      → PartIs (suc k) s ns (after (read_formula (from s c)) (λ f u. close_not f u)) r → PartIs l s ns (read_formula (drop at s)) r
  negation_opened h q = rw (← one, formula_opened (drop at s) spec.not-opens (from s c) (sym h.is)) q

  pub gate_is : (g : spec.Gate) → At s (spec.gate_opens g) c (read_opening (drop at s)) → PartIs (suc k) s ns (gate_on g (read_formula (from s c))) r
      → PartIs l s ns (read_formula (drop at s)) r
  gate_is g h q = rw (← one, formula_opened (drop at s) (spec.gate_opens g) (from s c) (sym h.is)) q

-- ---- no formula
pub nothing_is : (k : ℕ) (s : List ℕ) (ns : List Name) (at : ℕ) (r : Option Part) → bad ≡ read_opening (drop at s) → r ≡ None
    → PartIs k s ns (read_formula (drop at s)) r
nothing_is k s ns at r h e = rw e (sym (formula_unopened (drop at s) (sym h)))

module _ (s : List ℕ) (at : ℕ) (c : Cursor) (e : bad ≡ read_formula (from s c)) where
  pub not_broken : At s spec.not-opens c (read_opening (drop at s)) → bad ≡ read_formula (drop at s)
  not_broken h =
      sym (formula_opened (drop at s) spec.not-opens (from s c) (sym h.is) ∙ ap (λ (q : Read Formula). after q (λ f u. close_not f u)) (sym e))

  pub gate_broken : (g : spec.Gate) → At s (spec.gate_opens g) c (read_opening (drop at s)) → bad ≡ read_formula (drop at s)
  gate_broken g h = sym (formula_opened (drop at s) (spec.gate_opens g) (from s c) (sym h.is) ∙ ap (gate_on g) (sym e))
