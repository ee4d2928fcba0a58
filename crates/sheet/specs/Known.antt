-- What the code knows of a sheet, by the definitions. Assumes nothing.
use Rattle.std.specs.Prelude.{◌≡◌, Bool, true, false, List, [], ◌∷◌, map, ℕ, suc, ◌≤◌, ◌<◌, min, eqb, length, get_or, take, Option, Some, None, Result, Ok, Err}
use Rattle.text.specs.Bytes.{found, after, whole, close_bracket}
use Rattle.std.proofs.Math.Option as maybe
use Rattle.std.proofs.Math.Option.{some, none}
use Rattle.bits.specs.Logic.{pick}
use Rattle.limits.specs.Limits.{max_inputs, max_bound, max_limit, max_outputs, max_depth}
use Rattle.names.specs.Name.{Name, same_name, distinct, all_among}
use Rattle.names.specs.Pack.{name_of}
use Rattle.rows.specs.Words.{Rowwise}
use Rattle.formula.specs.Tree.{depth, knows}
use Rattle.formula.specs.Reader.{read_formula}
use Rattle.formula.specs.Value.{value, on_row}
use Rattle.refusal.specs.Number.{number_of}
use Rattle.refusal.specs.declared.Question.{Question}
use Rattle.cursor.specs.Item.{Kept}
use Rattle.cursor.specs.declared.NameList.{NameList}
use Rattle.sheet.specs.Lines.{Output, closed}
use Rattle.sheet.specs.Value.{output_on}
use Rattle.sheet.specs.Examine.{Design, Step, no_to, next, within, output_names}
use Rattle.sheet.specs.Examine as spec
use Rattle.sheet.specs.declared.Place.{Place}
use Rattle.sheet.specs.declared.Sheet.{Sheet}
use Rattle.sheet.specs.declared.Rows.{Rows}
use Rattle.sheet.specs.declared.Step as code
use Rattle.sheet.specs.declared.OutLine.{OutLine}

-- where a name stands first among the inputs, from 0
unfoldable pub position : List Name → Name → ℕ
position [] n = 0
position (m ∷ ms) n =
    let later = position ms n in
    pick (same_name m n) 0 (suc later)

-- the table of output o
abbrev pub table_at : List Rows → ℕ → List ℕ
table_at ts o = (get_or ts o (record { words = [] })).words

-- the code's sheet k holds what d says
pub record Holds (d : Design) (k : Sheet) : Type 0 where
  pub inputs_counted : k.inputs ≡ length d.inputs
  pub inputs_few : k.inputs ≤ max_inputs
  pub inputs_named : map name_of (take k.inputs k.names) ≡ d.inputs
  pub bound-counted : k.bounds ≡ length d.bound
  pub bound_few : k.bounds ≤ max_bound
  pub bound_placed : take k.bounds k.bound ≡ map (position d.inputs) d.bound
  pub limit_is : k.limit ≡ d.limit
  pub limit_small : k.limit ≤ max_limit
  pub outputs_counted : k.outputs ≡ length d.outputs
  pub outputs_few : k.outputs ≤ max_outputs
  pub outputs_named : map name_of (take k.outputs k.outs) ≡ output_names d.outputs
  pub tabled : (o : ℕ) → o < k.outputs → Rowwise (output_on d o) (table_at k.tables o)

-- nothing is said of a design that its inputs' names would change
pub record Fresh (d : Design) : Type 0 where
  pub no_bound : d.bound ≡ []
  pub no_outputs : d.outputs ≡ []

-- what a design says before the line at a place: up to the `in` line it is fresh
abbrev pub Fits : spec.Place → Design → Type 0
Fits spec.at_design d = Fresh d
Fits spec.at_in d = Fresh d
Fits spec.at_bound d = Unit {0}
Fits spec.at_limit d = Unit {0}
Fits spec.at_out d = Unit {0}
Fits spec.over d = Unit {0}

abbrev pub place_of : Place → spec.Place
place_of Place.Design = spec.at_design
place_of Place.In = spec.at_in
place_of Place.Bound = spec.at_bound
place_of Place.Limit = spec.at_limit
place_of Place.Out = spec.at_out
place_of Place.Over = spec.over

-- what a line comes to: the question that it is answered "no" to, or the next place and the sheet then
pub record Onward (p : spec.Place) (d : Design) (t : code.Step) : Type 0 where
  pub placed : place_of t.place ≡ p
  pub holds : Holds d t.sheet

abbrev pub StepIs : Step → Result code.Step Question → Type 0
StepIs (no_to q) (Err e) = number_of e ≡ q
StepIs (no_to q) (Ok t) = ⊥
StepIs (next p d) (Err e) = ⊥
StepIs (next p d) (Ok t) = Onward p d t

-- what a line comes to is a design that fits the next place
abbrev pub StepFits : Step → Type 0
StepFits (no_to q) = Unit {0}
StepFits (next p d) = Fits p d

-- a line of names that is nothing besides
pub record Listed (ns : List Name) (l : NameList) : Type 0 where
  pub kept : Kept ns l.count l.names

abbrev pub LineIs : maybe.Option (List Name) → Option NameList → Type 0
LineIs none None = Unit {0}
LineIs none (Some l) = ⊥
LineIs (some ns) None = ⊥
LineIs (some ns) (Some l) = Listed ns l

-- the names that are kept of a line, and the first of questions 2 to 4 that these are answered "no" to, or the line, where
-- high is the greatest count
abbrev pub kept_names : NameList → List Name
kept_names l = map name_of (take l.count l.names)

unfoldable pub first_no : ℕ → Option NameList → Result NameList Question
first_no high None = Err Question.Spelling
first_no high (Some l) =
    pick (within 1 high l.count) (pick (distinct (kept_names l)) (Ok l) (Err Question.NewNames)) (Err Question.Ranges)

abbrev pub LimitIs : maybe.Option ℕ → Option ℕ → Type 0
LimitIs none l = l ≡ None
LimitIs (some n) l = l ≡ Some n

-- whether a text is the closing bracket
abbrev pub closes_at : List ℕ → Bool
closes_at [] = false
closes_at (b ∷ []) = eqb b close_bracket
closes_at (b ∷ c ∷ s) = false

-- an `out` line after its name and the space
abbrev pub output_after : Name → List ℕ → maybe.Option Output
output_after n s = whole (closed (after (read_formula s) (λ f t. found (record { name = n; formula = f }) t)))

-- of a formula that is nested too deeply only that is known
pub record OutGood (ns : List Name) (o : Output) (l : OutLine) : Type 0 where
  pub named : name_of l.name ≡ o.name
  pub deep : l.depth ≡ min (depth o.formula) (suc max_depth)
  pub knowing : depth o.formula ≤ max_depth → l.known ≡ knows ns o.formula
  pub tabled : depth o.formula ≤ max_depth → Rowwise (λ (r : ℕ). value (on_row ns r) o.formula) l.rows

abbrev pub OutIs : List Name → maybe.Option Output → Option OutLine → Type 0
OutIs ns none None = Unit {0}
OutIs ns none (Some l) = ⊥
OutIs ns (some o) None = ⊥
OutIs ns (some o) (Some l) = OutGood ns o l

-- the places of the names ms among the inputs ns, where all of them have one
pub record Listing (ms ns : List Name) (list : List ℕ) : Type 0 where
  pub all : all_among ms ns ≡ true
  pub listed : take (length ms) list ≡ map (position ns) ms

abbrev pub PlacesAre : List Name → List Name → Option (List ℕ) → Type 0
PlacesAre ms ns None = all_among ms ns ≡ false
PlacesAre ms ns (Some list) = Listing ms ns list
