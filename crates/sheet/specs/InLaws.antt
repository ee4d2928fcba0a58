-- The `in` line: what it says once questions 2 to 4 are answered, and that the code's sheet holds it. Assumes nothing.
use Rattle.std.specs.Prelude.{◌≡◌, refl, List, map, ℕ, ◌≤◌, length, take, Option}
use Rattle.std.proofs.Common.{sym, ap, ◌∙◌, arith}
use Rattle.text.specs.Bytes.{bytes, eat}
use Rattle.limits.specs.Limits.{max_inputs}
use Rattle.names.specs.Name.{Name}
use Rattle.names.specs.Pack.{name_of}
use Rattle.cursor.specs.declared.NameList.{NameList}
use Rattle.sheet.specs.Lines.{read_in}
use Rattle.sheet.specs.Examine.{Design, next, at_bound, ask_in, with_inputs}
use Rattle.sheet.specs.Known.{position, Holds, Fresh, Onward, LineIs}
use Rattle.sheet.specs.LineLaws.{names_after}
use Rattle.sheet.specs.ListLaws.{AsksList}
use Rattle.sheet.specs.OnwardLaws.{step_to, passed_onward}
use Rattle.sheet.specs.declared.Place.{Place}
use Rattle.sheet.specs.declared.Sheet.{Sheet}

pub in_asks : (d : Design) → AsksList max_inputs (λ (ns : List Name). next at_bound (with_inputs d ns)) (ask_in d)
unfolding ask_in
in_asks d = record { few = omega arith; misspelled = refl; listed = λ ns. refl }

pub in_reads : (l : List ℕ) (w : Option NameList) → LineIs (names_after (eat (bytes "(in") l)) w → LineIs (read_in l) w
unfolding read_in
in_reads l w h = h

-- the sheet with n inputs, the names vs
abbrev pub inputs_into : Sheet → ℕ → List ℕ → Sheet
inputs_into k n vs =
    record {
      inputs = n;
      names = vs;
      bounds = k.bounds;
      bound = k.bound;
      limit = k.limit;
      outputs = k.outputs;
      outs = k.outs;
      tables = k.tables;
    }

module _ {d : Design} {k : Sheet} (h : Holds d k) (f : Fresh d) (n : ℕ) (vs : List ℕ) (few : n ≤ max_inputs) where
  holds_inputs : (ns : List Name) → n ≡ length ns → map name_of (take n vs) ≡ ns → Holds (with_inputs d ns) (inputs_into k n vs)
  holds_inputs ns counted named =
      let no-bounds : k.bounds ≡ 0 = h.bound-counted ∙ ap length f.no_bound in
      let no-outs : k.outputs ≡ 0 = h.outputs_counted ∙ ap length f.no_outputs in
      record {
        inputs_counted = counted;
        inputs_few = few;
        inputs_named = named;
        bound-counted = h.bound-counted;
        bound_few = h.bound_few;
        bound_placed = ap (λ (b : ℕ). take b k.bound) no-bounds ∙ sym (ap (map (position ns)) f.no_bound);
        limit_is = h.limit_is;
        limit_small = h.limit_small;
        outputs_counted = h.outputs_counted;
        outputs_few = h.outputs_few;
        outputs_named = h.outputs_named;
        tabled = λ o l. absurd (omega arith);
      }

  pub in_onward : (ns : List Name) → n ≡ length ns → map name_of (take n vs) ≡ ns
      → Onward at_bound (with_inputs d ns) (step_to Place.Bound (inputs_into k n vs))
  in_onward ns counted named = passed_onward (holds_inputs ns counted named)
