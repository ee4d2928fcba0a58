-- Whether an output's name is new, by the places that the code finds among the inputs and among the outputs.
-- Assumes nothing.
use Rattle.std.specs.Prelude.{◌≡◌, refl, Bool, true, false, not, ◌&&◌, List, map, ℕ, take, Option, Some, None, is_some}
use Rattle.std.proofs.Common.{sym, ap, ap₂, ◌∙◌}
use Rattle.names.specs.Name.{Name, among}
use Rattle.names.specs.Pack.{name_of}
use Rattle.names.specs.Word.{PositionIs}
use Rattle.names.specs.LookupLaws.{found_among, nowhere_among}
use Rattle.sheet.specs.Examine.{Design, output_names, new_name}
use Rattle.sheet.specs.Known.{Holds}
use Rattle.sheet.specs.declared.Sheet.{Sheet}

-- whether the names ns, held as the numbers vs, have the name, by where the code finds it
stands_in : (v : ℕ) (vs : List ℕ) (ns : List Name) (p : Option ℕ) → map name_of vs ≡ ns → PositionIs vs v p → among (name_of v) ns ≡ is_some p
stands_in v vs ns (Some i) e p = rw (← e) (found_among vs v i p)
stands_in v vs ns None e p = rw (← e) (nowhere_among vs v p)

-- by the place where it is found, or by that it is nowhere
module _ (v : ℕ) (vs : List ℕ) (ns : List Name) (e : map name_of vs ≡ ns) where
  found_in : (i : ℕ) → PositionIs vs v (Some i) → among (name_of v) ns ≡ true
  found_in i p = stands_in v vs ns (Some i) e p

  nowhere_in : PositionIs vs v None → among (name_of v) ns ≡ false
  nowhere_in p = stands_in v vs ns None e p

module _ (d : Design) (k : Sheet) (h : Holds d k) (v : ℕ) where
  new_by : (a b : Bool) → among (name_of v) d.inputs ≡ a → among (name_of v) (output_names d.outputs) ≡ b
      → not a && not b ≡ new_name d (name_of v)
  new_by a b e f = sym (ap₂ (λ (x y : Bool). not x && not y) e f)

  pub old_input : (i : ℕ) → PositionIs (take k.inputs k.names) v (Some i) → false ≡ new_name d (name_of v)
  old_input i p = new_by true _ (found_in v (take k.inputs k.names) d.inputs h.inputs_named i p) refl

  module _ (p : PositionIs (take k.inputs k.names) v None) where
    no_input : among (name_of v) d.inputs ≡ false
    no_input = nowhere_in v (take k.inputs k.names) d.inputs h.inputs_named p

    pub old_output : (i : ℕ) → PositionIs (take k.outputs k.outs) v (Some i) → false ≡ new_name d (name_of v)
    old_output i q = new_by false true no_input (found_in v (take k.outputs k.outs) (output_names d.outputs) h.outputs_named i q)

    pub new_output : PositionIs (take k.outputs k.outs) v None → true ≡ new_name d (name_of v)
    new_output q = new_by false false no_input (nowhere_in v (take k.outputs k.outs) (output_names d.outputs) h.outputs_named q)

-- by what the code is told of its places
turned : (a f : Bool) → a ≡ not f → f ≡ not a
turned a true e = sym (ap not e)
turned a false e = sym (ap not e)

module _ (d : Design) (k : Sheet) (h : Holds d k) (v : ℕ) (p : Option ℕ) (a : PositionIs (take k.inputs k.names) v p) where
  told_by : (b c : Bool) → is_some p ≡ b → among (name_of v) (output_names d.outputs) ≡ c → not b && not c ≡ new_name d (name_of v)
  told_by b c e f =
      sym (ap₂ (λ (x y : Bool). not x && not y) (stands_in v (take k.inputs k.names) d.inputs p h.inputs_named a ∙ e) f)

  -- f and g are what the code is told of p and of q: that there is none
  pub among_inputs : is_some p ≡ true → (f : Bool) → is_some p ≡ not f → f ≡ new_name d (name_of v)
  among_inputs e f t = turned (is_some p) f t ∙ ap not e ∙ told_by true _ e refl

  pub among_outputs : is_some p ≡ false → (q : Option ℕ) → PositionIs (take k.outputs k.outs) v q → (g : Bool) → is_some q ≡ not g
      → g ≡ new_name d (name_of v)
  among_outputs e q b g t =
      turned (is_some q) g t
      ∙ told_by false (is_some q) e (stands_in v (take k.outputs k.outs) (output_names d.outputs) q h.outputs_named b)
