-- The outputs of a PLA text, one after another: a cover is never too deep and names inputs alone, so an output is refused by
-- question 4 alone, and otherwise its cover's table is the one that its formula has. Assumes nothing.
use Rattle.std.specs.Prelude.{◌≡◌, refl, Bool, true, false, ℕ, suc, ◌+◌, ◌≤◌, ◌<◌, leb, ltb, length, get_or, take, Ok, Err}
use Rattle.std.proofs.Common.{sym, ◌∙◌, arith, add-one, length-append, drop-cons, get_or-take, le-leb, lt-ltb}
use Rattle.std.proofs.Math.Path.{ap}
use mathlib.Core.List.{List, [], ◌∷◌}
use Rattle.std.proofs.Math.Option.{some}
use Rattle.std.proofs.Math.ListN.{drop, drop_of_length-le, get_or-map}
use Rattle.bits.specs.Logic.{pick}
use Rattle.bits.specs.LogicLaws.{and_both}
use Rattle.limits.specs.Limits.{max_inputs, max_outputs, max_depth}
use Rattle.names.specs.Name.{Name}
use Rattle.names.specs.Pack.{name_of}
use Rattle.rows.specs.Words.{Rowwise}
use Rattle.rows.specs.WordLaws.{rowwise_same}
use Rattle.cursor.specs.Item.{Kept}
use Rattle.formula.specs.Tree.{depth, knows}
use Rattle.formula.specs.Value.{value, on_row}
use Rattle.sheet.specs.Lines.{Output}
use Rattle.sheet.specs.Examine as spec
use Rattle.sheet.specs.Examine.{Design, refused, Step, no_to, next, at_out, ask_out, new_name, with_output, follow}
use Rattle.sheet.specs.Known.{Holds, table_at}
use Rattle.sheet.specs.declared.Sheet.{Sheet}
use Rattle.sheet.specs.declared.Rows.{Rows}
use Rattle.refusal.specs.declared.Question.{Question}
use Rattle.design.specs.ExamineLaws.{no_at}
use Rattle.cubes.specs.Terms.{cover_formula}
use Rattle.cubes.specs.TermsLaws.{cover_value, cover_depth, cover_knows}
use Rattle.platext.specs.Lines.{output_names_line}
use Rattle.platext.specs.Text.{Pla}
use Rattle.panel.specs.Examine.{outputs_from, outputs_of, ask_outputs}
use Rattle.panel.specs.Held.{Ready, SomeReady, AskedIs}

-- ---- one output
abbrev output_of : Pla → ℕ → Output
output_of x o = record { name = get_or x.outputs o (name_of 0); formula = cover_formula x.inputs x.cubes o }

name_at : (ns : List Name) (n : ℕ) (names : List ℕ)
    → Kept ns n names
    → length ns ≤ max_inputs
    → (o : ℕ) → o < n → name_of (get_or names o 0) ≡ get_or ns o (name_of 0)
name_at ns n names h few o l =
    ap name_of (sym (get_or-take n names o 0 l))
    ∙ sym (get_or-map name_of (take n names) o 0)
    ∙ ap (λ (ms : List Name). get_or ms o (name_of 0)) (h.held few)

-- question 4 alone decides
module _ (e : Design) (out : Output) (few : length e.outputs < max_outputs) (shallow : depth out.formula ≤ max_depth) (known : knows e.inputs out.formula ≡ true) where
  by_name : ask_out e (some out) ≡ pick (new_name e out.name) (next at_out (with_output e out)) (no_to 4)
  unfolding ask_out
  by_name =
      let onward : Step = next at_out (with_output e out) in
      let small = and_both (ltb (length e.outputs) max_outputs) (leb (depth out.formula) max_depth)
      (lt-ltb (length e.outputs) max_outputs few) (le-leb (depth out.formula) max_depth shallow) in
      ap (λ (b : Bool). pick b (pick (new_name e out.name) (pick (knows e.inputs out.formula) onward (no_to 5)) (no_to 4)) (no_to 3)) small
      ∙ ap (λ (b : Bool). pick (new_name e out.name) (pick b onward (no_to 5)) (no_to 4)) known

  asked_new : new_name e out.name ≡ true → ask_out e (some out) ≡ next at_out (with_output e out)
  asked_new h = by_name ∙ ap (λ (b : Bool). pick b (next at_out (with_output e out)) (no_to 4)) h

  asked_old : new_name e out.name ≡ false → ask_out e (some out) ≡ no_to 4
  asked_old h = by_name ∙ ap (λ (b : Bool). pick b (next at_out (with_output e out)) (no_to 4)) h

next-output : (x : Pla) (e : Design) (o : ℕ) (onward : Design → spec.Examined)
    → o < length x.outputs
    → ask_outputs e (outputs_from x o (drop o x.outputs)) onward
    ≡ follow (ask_out e (some (output_of x o))) output_names_line
    (λ _ f. ask_outputs f (outputs_from x (suc o) (drop (suc o) x.outputs)) onward)
unfolding outputs_from ask_outputs
next-output x e o onward h = ap (λ (ns : List Name). ask_outputs e (outputs_from x o ns) onward) (drop-cons x.outputs o (name_of 0) h)

-- ---- one after another
-- o outputs of x are added to the design d, and the sheet k holds what came of it
pub record OutputsFrom (x : Pla) (d : Design) (k : Sheet) (o : ℕ) : Type 0 where
  pub known : Design
  pub holds : Holds known k
  pub same_inputs : known.inputs ≡ x.inputs
  pub counted : length known.outputs ≡ o
  pub is : (onward : Design → spec.Examined)
      → ask_outputs d (outputs_of x) onward ≡ ask_outputs known (outputs_from x o (drop o x.outputs)) onward

pub record OutputsPassed (start : Sheet) (n : ℕ) (names : List ℕ) (ts : List Rows) (k : Sheet) (o : ℕ) : Type 0 where
  pub few : o ≤ n
  pub each : (x : Pla) (d : Design) → Ready x d start n names ts → OutputsFrom x d k o

module _ (start : Sheet) (n : ℕ) (names : List ℕ) (ts : List Rows) where
  pub outputs_start : OutputsPassed start n names ts start 0
  outputs_start =
      record {
        few = omega arith;
        each = λ x d r.
            record {
              known = d;
              holds = r.holds;
              same_inputs = r.same_inputs;
              counted = ap length r.no_outputs;
              is = λ onward. refl;
            };
      }

  module _ (k : Sheet) (o : ℕ) (w : OutputsPassed start n names ts k o) where
    -- what is known of the next output
    module _ (l : o < n) (x : Pla) (d : Design) (r : Ready x d start n names ts) where
      inside : o < length x.outputs
      inside = omega (arith, r.outputs_kept.counted)

      named : name_of (get_or names o 0) ≡ (output_of x o).name
      named = name_at x.outputs n names r.outputs_kept (omega (arith, r.outputs_few)) o l

      room : length (w.each x d r).known.outputs < max_outputs
      room = omega (arith, (w.each x d r).counted, inside, r.outputs_few)

      knowing : knows (w.each x d r).known.inputs (output_of x o).formula ≡ true
      knowing = ap (λ (ns : List Name). knows ns (output_of x o).formula) (w.each x d r).same_inputs ∙ cover_knows x.inputs x.cubes o

      shallow : depth (output_of x o).formula ≤ max_depth
      shallow = omega (arith, cover_depth x.inputs x.cubes o)

      tabled : Rowwise (λ (i : ℕ). value (on_row (w.each x d r).known.inputs i) (output_of x o).formula) (table_at ts o)
      tabled =
          rowwise_same (r.covering.each o inside)
          (λ i b.
          sym
          (ap (λ (ns : List Name). value (on_row ns i) (output_of x o).formula) (w.each x d r).same_inputs
          ∙ cover_value x.inputs x.cubes o i r.inputs_once r.literals_counted))

    pub outputs_held : (x : Pla) (d : Design) → Ready x d start n names ts → (k.inputs ≤ max_inputs) × (k.outputs ≤ max_outputs)
    outputs_held x d r =
        let h = (w.each x d r).holds in
        (h.inputs_few, h.outputs_few)

    pub outputs_room : o < n → (x : Pla) (d : Design) → Ready x d start n names ts → k.outputs < max_outputs
    outputs_room l x d r = omega (arith, room l x d r, (w.each x d r).holds.outputs_counted)

    pub outputs_more : o < n
        → (k' : Sheet)
        → ((e : Design) → Holds e k → true ≡ new_name e (name_of (get_or names o 0)))
        → ((e : Design) (out : Output)
        → Holds e k
        → name_of (get_or names o 0) ≡ out.name
        → Rowwise (λ (i : ℕ). value (on_row e.inputs i) out.formula) (table_at ts o)
        → Holds (with_output e out) k')
        → OutputsPassed start n names ts k' (o + 1)
    outputs_more l k' new added =
        record {
          few = omega arith;
          each = λ x d r.
              let e = (w.each x d r).known in
              let h = (w.each x d r).holds in
              let out = output_of x o in
              let fresh : new_name e out.name ≡ true
              = ap (new_name e) (sym (named l x d r)) ∙ sym (new e h) in
              record {
                known = with_output e out;
                holds = added e out h (named l x d r) (tabled l x d r);
                same_inputs = (w.each x d r).same_inputs;
                counted = omega (arith, length-append e.outputs (out ∷ []), (w.each x d r).counted);
                is = λ onward.
                    (w.each x d r).is onward
                    ∙ next-output x e o onward (inside l x d r)
                    ∙ ap
                    (λ (t : Step).
                    follow t output_names_line (λ _ f. ask_outputs f (outputs_from x (suc o) (drop (suc o) x.outputs)) onward))
                    (asked_new e out (room l x d r) (shallow l x d r) (knowing l x d r) fresh)
                    ∙ ap (λ (i : ℕ). ask_outputs (with_output e out) (outputs_from x i (drop i x.outputs)) onward) (sym (add-one o));
              };
        }

    pub outputs_stopped : o < n
        → ((e : Design) → Holds e k → false ≡ new_name e (name_of (get_or names o 0)))
        → (x : Pla) (d : Design)
        → Ready x d start n names ts
        → AskedIs (ask_outputs d (outputs_of x)) (Err (no_at Question.NewNames output_names_line))
    outputs_stopped l old x d r =
        let e = (w.each x d r).known in
        let out = output_of x o in
        let again : new_name e out.name ≡ false
        = ap (new_name e) (sym (named l x d r)) ∙ sym (old e (w.each x d r).holds) in
        λ onward.
        (w.each x d r).is onward
        ∙ next-output x e o onward (inside l x d r)
        ∙ ap
        (λ (t : Step).
        follow t output_names_line (λ _ f. ask_outputs f (outputs_from x (suc o) (drop (suc o) x.outputs)) onward))
        (asked_old e out (room l x d r) (shallow l x d r) (knowing l x d r) again)

    pub outputs_all : n ≤ o
        → (x : Pla) (d : Design)
        → Ready x d start n names ts
        → AskedIs (ask_outputs d (outputs_of x)) (Ok k)
    unfolding outputs_from ask_outputs
    outputs_all l x d r =
        let e = (w.each x d r).known in
        let none_left : drop o x.outputs ≡ [] = drop_of_length-le x.outputs {i = o} (omega (arith, r.outputs_kept.counted)) in
        record {
          design = e;
          holds = (w.each x d r).holds;
          is = λ onward. (w.each x d r).is onward ∙ ap (λ (ns : List Name). ask_outputs e (outputs_from x o ns) onward) none_left;
        }

pub ready_few : (k : Sheet) (n : ℕ) (names : List ℕ) (ts : List Rows) → SomeReady k n names ts → n ≤ max_outputs
ready_few k n names ts h = omega (arith, h.ready.outputs_few, h.ready.outputs_kept.counted)
