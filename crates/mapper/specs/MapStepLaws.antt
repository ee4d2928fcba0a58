-- Map's answers, one law for each way out of the code: a refusal of the examination, too many classes, no cells found, a buffer that
-- is short, or the print of the first network. What the search found is the design's, since it was asked what the design asks.
-- Assumes nothing.
use Rattle.std.specs.Prelude.{◌≡◌, refl, true, false, List, ℕ, ◌≤◌, ◌<◌, length, Option, Some, None, Ok, Err}
use Rattle.std.proofs.Common.{sym, ap₂, subst, arith}
use Rattle.std.proofs.lemmas.List.Edits.{sets}
use Rattle.limits.specs.Limits.{max_inputs, max_bound, max_outputs, max_cells}
use Rattle.sheet.specs.Examine as spec
use Rattle.sheet.specs.Examine.{Design}
use Rattle.sheet.specs.Known.{Holds}
use Rattle.sheet.specs.declared.Sheet.{Sheet}
use Rattle.design.specs.Answer.{ExaminedIs, Right}
use Rattle.design.specs.TableLaws.{valid_here, refused-here}
use Rattle.refusal.specs.Number.{number_of}
use Rattle.refusal.specs.declared.Refusal.{Refusal}
use Rattle.classes.specs.ProperLaws.{proper_of}
use Rattle.classes.specs.Proper.{Proper}
use Rattle.network.specs.Network.{Network}
use Rattle.network.specs.Printer.{print_network}
use Rattle.problem.specs.Problem.{item}
use Rattle.first.specs.First.{Answered}
use Rattle.netlines.specs.Lines.{Fitting}
use Rattle.netlines.specs.NodeLaws.{shape_fitting}
use Rattle.serving.specs.Build.{built}
use Rattle.serving.specs.TheoremA.{built-luts}
use Rattle.mapper.specs.Map.{First, MapAnswer, refused_by, mapped, OutcomeFor, too_many_classes, no_network, buffer_short, written, OutcomeOf}
use Rattle.mapper.specs.Posed.{Designed, Poses, Asked}
use Rattle.mapper.specs.MapLaws.{none_found}
use Rattle.mapper.specs.FirstLaws.{found_first}
use Rattle.mapper.specs.declared.Posed.{Posed}

pub map-refused : (x : spec.Examined) (b : List ℕ) (r : Refusal) → ExaminedIs x (Err r)
    → OutcomeOf x b (refused_by (number_of r.question) r.line) b
map-refused x b r h =
    subst (λ (y : spec.Examined). OutcomeOf y b (refused_by (number_of r.question) r.line) b) (refused-here x r h)
    (record { refusal = refl; untouched = refl })

-- where the sheet is valid it holds a design, and what was asked of the search is what the design asks
pub designed : (x : spec.Examined) (k : Sheet) → ExaminedIs x (Ok k) → Right x → Designed k
designed x k h right =
    let v = valid_here x k h in
    record { design = v.design; holds = v.holds; proper = proper_of v.design (right v.design (sym v.answered)) }

abbrev PosesHere : Sheet → Option Posed → Type 0
PosesHere k r = (d : Design) → Holds d k → Proper d → Poses d k r

pub asked : (x : spec.Examined) (k : Sheet) (r : Posed) → ExaminedIs x (Ok k) → Right x → PosesHere k (Some r) → Asked x k r
asked x k r h right poses =
    let v = valid_here x k h in
    let formed = right v.design (sym v.answered) in
    let proper = proper_of v.design formed in
    record {
      design = v.design;
      answered = v.answered;
      holds = v.holds;
      formed = formed;
      proper = proper;
      poses = poses v.design v.holds proper;
    }

pub map_classes : (x : spec.Examined) (k : Sheet) (b : List ℕ) → ExaminedIs x (Ok k) → Right x → PosesHere k None
    → OutcomeOf x b (refused_by 7 0) b
map_classes x k b h right poses =
    let v = valid_here x k h in
    let proper = proper_of v.design (right v.design (sym v.answered)) in
    subst (λ (y : spec.Examined). OutcomeOf y b (refused_by 7 0) b) v.answered
    (too_many_classes (poses v.design v.holds proper))

module _ {x : spec.Examined} {k : Sheet} {r : Posed} (s : Asked x k r) where
  abbrev d : Design
  d = s.design

  -- what the design comes to is what the examination's answer comes to
  came_to : {b : List ℕ} {a : MapAnswer} {b' : List ℕ} → OutcomeFor d b a b' → OutcomeOf x b a b'
  came_to {b = b} {a = a} {b' = b'} o = subst (λ (y : spec.Examined). OutcomeOf y b a b') s.answered o

  -- ---- what the search found, or that it found nothing
  abbrev Found : ℕ → List ℕ → List ℕ → Type 0
  Found u rows codes = Answered r.labels r.budgets r.shape.vertices k.outputs k.limit true u rows codes

  abbrev network : ℕ → List ℕ → List ℕ → Network
  network u rows codes = built d u (item rows) (item codes)

  abbrev text : ℕ → List ℕ → List ℕ → List ℕ
  text u rows codes = print_network d (network u rows codes)

  pub map_none : {u : ℕ} {rows codes : List ℕ} (b : List ℕ)
      → Answered r.labels r.budgets r.shape.vertices k.outputs k.limit false u rows codes
      → OutcomeOf x b (refused_by 8 0) b
  map_none {u} {rows} {codes} b a =
      came_to
      (no_network s.poses.few
      (none_found d r.labels r.budgets r.shape.vertices k.outputs k.limit s.poses.given u rows codes s.formed a))

  cells_few : {u : ℕ} {rows codes : List ℕ} → Found u rows codes → u ≤ max_cells
  cells_few a = let e = a.few in let f = s.holds.limit_small in omega arith

  -- what the writer asks for
  pub writer_ready : {u : ℕ} {rows codes : List ℕ} → Found u rows codes
      → (k.inputs ≤ max_inputs) × (k.bounds ≤ max_bound) × (k.outputs ≤ max_outputs) × (u ≤ max_cells) × Fitting r.shape
  writer_ready a =
      let fits : Fitting r.shape = shape_fitting d r.shape s.poses.shaped s.proper.parted s.proper.few_inputs in
      (s.holds.inputs_few, s.holds.bound_few, s.holds.outputs_few, cells_few a, fits)

  is_first : (u : ℕ) (rows codes : List ℕ) → Found u rows codes → First d (network u rows codes)
  is_first u rows codes a =
      found_first d r.labels r.budgets r.shape.vertices k.outputs k.limit s.poses.given s.formed u rows codes a (cells_few a)

  pub map_short : {u : ℕ} {rows codes : List ℕ} (b : List ℕ) (n : ℕ) → Found u rows codes
      → n ≡ length (text u rows codes) → length b < n
      → OutcomeOf x b (refused_by 9 0) b
  map_short {u} {rows} {codes} b n a e h =
      came_to (buffer_short (network u rows codes) s.poses.few (is_first u rows codes a) (omega arith))

  pub map-written : {u : ℕ} {rows codes : List ℕ} (b b' : List ℕ) (m n : ℕ) → Found u rows codes
      → m ≡ length (text u rows codes) → m ≤ length b → n ≡ length (text u rows codes) → b' ≡ sets b 0 (text u rows codes)
      → OutcomeOf x b (mapped u n) b'
  map-written {u} {rows} {codes} b b' m n a e h g w =
      let net = network u rows codes in
      let bytes = text u rows codes in
      let o : OutcomeFor d b (mapped (length net.luts) (length bytes)) (sets b 0 bytes) = written net s.poses.few (is_first u rows codes a) (omega arith) in
      came_to
      (subst (λ (y : List ℕ). OutcomeFor d b (mapped u n) y) (sym w)
      (subst (λ (y : MapAnswer). OutcomeFor d b y (sets b 0 bytes)) (ap₂ mapped (built-luts d u (item rows) (item codes)) (sym g)) o))
