-- The rules of a design sheet (clauses 4.3 to 4.8) as properties of a design: what questions 2 to 5 make sure of, line by line, and what a
-- valid sheet says therefore. Assumes nothing.
use Rattle.std.specs.Prelude.{◌≡◌, true, false, List, [], ℕ, ◌≤◌, ◌<◌, length, get_or}
use Rattle.limits.specs.Limits.{max_inputs, max_bound, max_limit, max_outputs, max_depth}
use Rattle.names.specs.Name.{Name, is_name, among, distinct}
use Rattle.names.specs.Spelled.{all_stand_in}
use Rattle.names.specs.Names.{all_names}
use Rattle.formula.specs.Tree.{constant, depth, knows}
use Rattle.formula.specs.Printer.{spelled}
use Rattle.sheet.specs.Lines.{Output}
use Rattle.sheet.specs.Examine.{Design, Examined, refused, valid, Step, no_to, next, Place, at_design, at_in, at_bound, at_limit, at_out, over, output_names}

-- the names of the `in` line
pub record RightInputs (ns : List Name) : Type 0 where
  pub filled : 1 ≤ length ns
  pub few : length ns ≤ max_inputs
  pub once : distinct ns ≡ true
  pub named : all_names ns ≡ true

-- the bound names, where ns are the inputs: each is one of these, letter for letter
pub record RightBound (ns ms : List Name) : Type 0 where
  pub filled : 1 ≤ length ms
  pub few : length ms ≤ max_bound
  pub once : distinct ms ≡ true
  pub known : all_stand_in ms ns ≡ true

-- an `out` line by itself
pub record RightOutput (ns : List Name) (o : Output) : Type 0 where
  pub named : is_name o.name ≡ true
  pub new : among o.name ns ≡ false
  pub shallow : depth o.formula ≤ max_depth
  pub known : knows ns o.formula ≡ true
  pub formed : spelled o.formula ≡ true

-- output o, from 0
abbrev pub output_at : List Output → ℕ → Output
output_at os o = get_or os o (record { name = []; formula = constant false })

-- all `out` lines so far
pub record RightOutputs (ns : List Name) (os : List Output) : Type 0 where
  pub few : length os ≤ max_outputs
  pub once : distinct (output_names os) ≡ true
  pub each : (o : ℕ) → o < length os → RightOutput ns (output_at os o)

-- ---- what holds of the design before the line at each place
pub record HasInputs (d : Design) : Type 0 where
  pub inputs_right : RightInputs d.inputs
  pub no_outputs : d.outputs ≡ []

pub record HasBound (d : Design) : Type 0 where
  pub inputs_right : RightInputs d.inputs
  pub bound_right : RightBound d.inputs d.bound
  pub no_outputs : d.outputs ≡ []

pub record HasLimit (d : Design) : Type 0 where
  pub inputs_right : RightInputs d.inputs
  pub bound_right : RightBound d.inputs d.bound
  pub limit_right : d.limit ≤ max_limit
  pub outputs_right : RightOutputs d.inputs d.outputs

-- and of the whole
pub record WellFormed (d : Design) : Type 0 where
  pub inputs_right : RightInputs d.inputs
  pub bound_right : RightBound d.inputs d.bound
  pub limit_right : d.limit ≤ max_limit
  pub outputs_right : RightOutputs d.inputs d.outputs
  pub some-output : 1 ≤ length d.outputs

abbrev pub Reached : Place → Design → Type 0
Reached at_design d = d.outputs ≡ []
Reached at_in d = d.outputs ≡ []
Reached at_bound d = HasInputs d
Reached at_limit d = HasBound d
Reached at_out d = HasLimit d
Reached over d = WellFormed d

-- ---- what a line comes to: one of questions 2 to 5, or a design that is right up to the next place
pub record LineQuestion (q : ℕ) : Type 0 where
  pub low : 2 ≤ q
  pub high : q ≤ 5

abbrev pub StepRight : Step → Type 0
StepRight (no_to q) = LineQuestion q
StepRight (next p d) = Reached p d

-- ---- what a sheet comes to: one of questions 1 to 5 at a line from 0 to m, 0 just for question 1; or a design that is right
pub record RightRefusal (m q l : ℕ) : Type 0 where
  pub at_least_one : 1 ≤ q
  pub at_most_five : q ≤ 5
  pub inside : l ≤ m
  pub whole_text : q ≡ 1 → l ≡ 0
  pub one_line : 2 ≤ q → 1 ≤ l

abbrev pub ExaminedRight : ℕ → Examined → Type 0
ExaminedRight m (refused q l) = RightRefusal m q l
ExaminedRight m (valid d) = WellFormed d
