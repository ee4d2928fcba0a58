-- A walk over questions 3 to 5 in the order in which a pair is asked them: the names of the inputs, of each output, and then the
-- second text. What holds of every refusal on the way, and of what is left at the end, holds of the answer. A cover is never too deep
-- and names inputs alone, so of an output only question 4 can be answered "no". Assumes nothing.
use Rattle.std.specs.Prelude.{◌≡◌, refl, Bool, true, false, not, ◌&&◌, List, [], ◌∷◌, ◌++◌, map, ℕ, suc, ◌+◌, ◌≤◌, ◌<◌, leb, ltb, length}
use Rattle.std.proofs.Common.{sym, ap, ap₂, ◌∙◌, append_assoc, append-nil, arith, length-append, leb-true, leb-false, le-leb, lt-ltb}
use Rattle.std.proofs.Math.Option.{some}
use Rattle.std.proofs.lemmas.Bool.{not-true}
use Rattle.bits.specs.Logic.{pick}
use Rattle.bits.specs.LogicLaws.{never_both, and_left, and_right, and_both}
use Rattle.limits.specs.Limits.{max_inputs, max_bound, max_limit, max_outputs, max_depth}
use Rattle.names.specs.Name.{Name, is_name, among, distinct, all_among}
use Rattle.names.specs.Spelled.{spelled_by}
use Rattle.names.specs.Names.{all_names}
use Rattle.formula.specs.Tree.{depth, knows}
use Rattle.sheet.specs.Lines.{Output}
use Rattle.sheet.specs.Kinds.{OutputWritable}
use Rattle.sheet.specs.Examine.{Design, Examined, refused, valid, Place, at_limit, at_out, Step, no_to, next, ask, within, with_bound, with_limit}
use Rattle.sheet.specs.Examine.{at_bound, with_inputs, nothing, ask_in, ask_out, ask_bound, ask_limit, output_names, new_name, with_output, follow}
use Rattle.sheet.specs.WellFormed.{RightOutputs}
use Rattle.sheet.specs.AskedLaws.{AllYes}
use Rattle.sheet.specs.LineRightLaws.{no_output_wrong}
use Rattle.sheet.specs.FurtherOutputLaws.{outputs_more}
use Rattle.cubes.specs.TermsLaws.{cover_depth, cover_knows, cover_spelled}
use Rattle.platext.specs.Lines.{input_names_line, output_names_line}
use Rattle.platext.specs.Text.{Pla}
use Rattle.platext.specs.TextReadLaws.{pla_print_of_read}
use Rattle.panel.specs.Board.{bound_line, limit_line}
use Rattle.panel.specs.Examine.{outputs_from, outputs_of, ask_outputs, ask_names, ask_board}
use Rattle.panel.specs.Panel.{TextPassed}
use Rattle.panel.specs.OnceLaws.{design_names, names_with_output, new_once, old_twice}

-- ---- questions in turn
-- the first "no", at line n, has the property P
abbrev pub Noes : (Examined → Type 0) → ℕ → List (ℕ × Bool) → Type 0
Noes P n [] = Unit {0}
Noes P n (q ∷ qs) = (q.1 ≡ false → P (refused q.0 n)) × (q.1 ≡ true → Noes P n qs)

ask_walk : (P : Examined → Type 0) (qs : List (ℕ × Bool)) (t : Step) (n : ℕ) (k : Place → Design → Examined)
    → Noes P n qs
    → (AllYes qs → P (follow t n k))
    → P (follow (ask qs t) n k)
ask_walk P [] t n k h f = f tt
ask_walk P (q ∷ qs) t n k h f = go q.1 refl (ask_walk P qs t n k)
  where
    go : (b : Bool)
        → q.1 ≡ b
        → (Noes P n qs → (AllYes qs → P (follow t n k)) → P (follow (ask qs t) n k))
        → P (follow (pick b (ask qs t) (no_to q.0)) n k)
    go true e g = g (h.1 e) (λ y. f (e, y))
    go false e g = h.0 e

-- ---- the outputs
-- an output of which question 4 alone is open, beside the inputs ns
record RightCover (ns : List Name) (o : Output) : Type 0 where
  pub writable : OutputWritable o
  pub shallow : depth o.formula ≤ max_depth
  pub known : knows ns o.formula ≡ true

abbrev RightCovers : List Name → List Output → Type 0
RightCovers ns [] = Unit {0}
RightCovers ns (o ∷ os) = RightCover ns o × RightCovers ns os

covers_right : (x : Pla) (o : ℕ) (ns : List Name) → all_names x.inputs ≡ true → all_names ns ≡ true → RightCovers x.inputs (outputs_from x o ns)
unfolding outputs_from all_names
covers_right x o [] e f = tt
covers_right x o (n ∷ ns) e f = (
  record {
    writable = record { named = and_left (is_name n) (all_names ns) f; formed = cover_spelled x.inputs x.cubes o e };
    shallow = omega (arith, cover_depth x.inputs x.cubes o);
    known = cover_knows x.inputs x.cubes o;
  },
  covers_right x (suc o) ns e (and_right (is_name n) (all_names ns) f),
)

-- the design e is d with the outputs os after its own
record WithOutputs (d : Design) (os : List Output) (e : Design) : Type 0 where
  pub inputs_kept : e.inputs ≡ d.inputs
  pub outputs_added : e.outputs ≡ d.outputs ++ os
  pub outputs_right : RightOutputs e.inputs e.outputs
  pub names_once : distinct (design_names e) ≡ true

outputs_walk : (P : Examined → Type 0) (os : List Output) (d : Design) (onward : Design → Examined)
    → length d.outputs + length os ≤ max_outputs
    → RightCovers d.inputs os
    → RightOutputs d.inputs d.outputs
    → distinct (design_names d) ≡ true
    → (distinct (design_names d ++ output_names os) ≡ false → P (refused 4 output_names_line))
    → ((e : Design) → WithOutputs d os e → P (onward e))
    → P (ask_outputs d os onward)
unfolding ask_outputs ask_out
outputs_walk P [] d onward l c r u h f =
    f d (record { inputs_kept = refl; outputs_added = sym (append-nil d.outputs); outputs_right = r; names_once = u })
outputs_walk P (o ∷ os) d onward l c r u h f =
    let few = ltb (length d.outputs) max_outputs in
    let shallow = leb (depth o.formula) max_depth in
    let free = not (among o.name d.inputs) in
    let new = not (among o.name (output_names d.outputs)) in
    let room : length d.outputs < max_outputs = omega arith in
    let in_range = and_both few shallow (lt-ltb (length d.outputs) max_outputs room) (le-leb (depth o.formula) max_depth c.0.shallow) in
    let later : design_names (with_output d o) ++ output_names os ≡ design_names d ++ (o.name ∷ output_names os)
    = ap (λ (ns : List Name). ns ++ output_names os) (names_with_output d o) ∙ append_assoc (design_names d) (o.name ∷ []) (output_names os) in
    ask_walk P
    ((3, few && shallow) ∷ (4, new_name d o.name) ∷ (5, knows d.inputs o.formula) ∷ [])
    (next at_out (with_output d o)) output_names_line (λ _ e. ask_outputs e os onward) (
      λ e. absurd (never_both in_range e),
      λ _. (
        λ e. h (old_twice d o.name (output_names os) e),
        λ _.
            (λ e. absurd (never_both c.0.known e), λ _. tt),
      ),
    )
    (λ y.
    outputs_walk P os (with_output d o) onward
    (omega (arith, length-append d.outputs (o ∷ [])))
    c.1
    (outputs_more d.inputs d.outputs o r
    (record {
      named = c.0.writable.named;
      new = not-true (among o.name d.inputs) (and_left free new y.1.0);
      shallow = c.0.shallow;
      known = c.0.known;
      formed = c.0.writable.formed;
    })
    room
    (not-true (among o.name (output_names d.outputs)) (and_right free new y.1.0)))
    (new_once d o u y.1.0)
    (λ e. h (ap distinct (sym later) ∙ e))
    (λ e g.
    f e
    (record {
      inputs_kept = g.inputs_kept;
      outputs_added = g.outputs_added ∙ append_assoc d.outputs (o ∷ []) os;
      outputs_right = g.outputs_right;
      names_once = g.names_once;
    })))

-- ---- the names of the inputs and of the outputs
pub outputs_count : (x : Pla) (o : ℕ) (ns : List Name) → length (outputs_from x o ns) ≡ length ns
unfolding outputs_from
outputs_count x o [] = refl
outputs_count x o (n ∷ ns) = ap suc (outputs_count x (suc o) ns)

outputs_named : (x : Pla) (o : ℕ) (ns : List Name) → output_names (outputs_from x o ns) ≡ ns
unfolding outputs_from
outputs_named x o [] = refl
outputs_named x o (n ∷ ns) = ap (λ (ms : List Name). n ∷ ms) (outputs_named x (suc o) ns)

-- the design e has the names of x, none of which stands twice, and the outputs of x
pub record NamesTaken (x : Pla) (e : Design) : Type 0 where
  pub same_inputs : e.inputs ≡ x.inputs
  pub same_outputs : e.outputs ≡ outputs_of x
  pub outputs_right : RightOutputs e.inputs e.outputs
  pub names_once : distinct (x.inputs ++ x.outputs) ≡ true

pub names_walk : (P : Examined → Type 0) (p : List ℕ) (x : Pla) (onward : Design → Examined)
    → TextPassed p x
    → (distinct x.inputs ≡ false → P (refused 4 input_names_line))
    → (distinct x.inputs ≡ true → distinct (x.inputs ++ x.outputs) ≡ false → P (refused 4 output_names_line))
    → ((e : Design) → NamesTaken x e → P (onward e))
    → P (ask_names x onward)
unfolding ask_in
names_walk P p x onward h f g k =
    let written = (pla_print_of_read p x h.is_read).writable in
    let d = with_inputs nothing x.inputs in
    let count = length x.inputs in
    let in_range = and_both (leb 1 count) (leb count max_inputs) (le-leb 1 count written.inputs_some) (le-leb count max_inputs h.inputs_few) in
    let named : design_names d ++ output_names (outputs_of x) ≡ x.inputs ++ x.outputs
    = ap₂ (λ (ns ms : List Name). ns ++ ms) (append-nil x.inputs) (outputs_named x 0 x.outputs) in
    ask_walk P
    ((3, within 1 max_inputs count) ∷ (4, distinct x.inputs) ∷ [])
    (next at_bound d) input_names_line (λ _ e. ask_outputs e (outputs_of x) onward)
    (λ e. absurd (never_both in_range e), λ _. (f, λ _. tt))
    (λ y.
    outputs_walk P (outputs_of x) d onward
    (omega (arith, h.outputs_few, outputs_count x 0 x.outputs))
    (covers_right x 0 x.outputs written.inputs_named written.outputs_named)
    (no_output_wrong x.inputs [] refl)
    (ap distinct (append-nil x.inputs) ∙ y.1.0)
    (λ e. g y.1.0 (ap distinct (sym named) ∙ e))
    (λ e w.
    let all : design_names e ≡ x.inputs ++ x.outputs
    = ap₂ (λ (ns : List Name) (os : List Output). ns ++ output_names os) w.inputs_kept w.outputs_added
    ∙ ap (λ (ns : List Name). x.inputs ++ ns) (outputs_named x 0 x.outputs) in
    k e
    (record {
      same_inputs = w.inputs_kept;
      same_outputs = w.outputs_added;
      outputs_right = w.outputs_right;
      names_once = ap distinct (sym all) ∙ w.names_once;
    })))

-- ---- the second text
-- what questions 3 to 5 leave of the bound names
pub record BoundTaken (ns bs : List Name) : Type 0 where
  pub counted : within 1 max_bound (length bs) ≡ true
  pub once : distinct bs ≡ true
  pub known : all_among bs ns ≡ true

abbrev pub bound_questions : List Name → List Name → List (ℕ × Bool)
bound_questions ns bs = (3, within 1 max_bound (length bs)) ∷ (4, distinct bs) ∷ (5, all_among bs ns) ∷ []

pub board_walk : (P : Examined → Type 0) (bs : List Name) (n : ℕ) (d : Design)
    → Noes P bound_line (bound_questions d.inputs bs)
    → (BoundTaken d.inputs bs → max_limit < n → P (refused 3 limit_line))
    → (BoundTaken d.inputs bs → n ≤ max_limit → P (valid (with_limit (with_bound d (map (spelled_by d.inputs) bs)) n)))
    → P (ask_board bs n d)
unfolding ask_bound ask_limit
board_walk P bs n d h k f =
    let e = with_bound d (map (spelled_by d.inputs) bs) in
    ask_walk P (bound_questions d.inputs bs)
    (next at_limit e) bound_line (λ _ g. follow (ask_limit g (some n)) limit_line (λ _ f. valid f))
    h
    (λ y.
    let passed : BoundTaken d.inputs bs = record { counted = y.0; once = y.1.0; known = y.1.1.0 } in
    ask_walk P
    ((3, leb n max_limit) ∷ [])
    (next at_out (with_limit e n)) limit_line (λ _ f. valid f)
    (λ z. k passed (leb-false n max_limit z), λ _. tt)
    (λ z. f passed (leb-true n max_limit z.0)))
