-- Check and its examination, one law for each way out of the code. Assumes nothing.
use Rattle.std.specs.Prelude.{◌≡◌, refl, List, ℕ, ◌≤◌, length, Result, Ok, Err}
use Rattle.std.proofs.Common.{sym, ap, ap₂, ◌∙◌, subst}
use Rattle.refusal.specs.Number.{number_of, Refuses}
use Rattle.refusal.specs.declared.Question.{Question}
use Rattle.refusal.specs.declared.Refusal.{Refusal}
use Rattle.sheet.specs.Examine as sheets
use Rattle.sheet.specs.Examine.{Design, valid}
use Rattle.sheet.specs.Known.{Holds}
use Rattle.sheet.specs.ExaminationLaws.{valid_well_formed}
use Rattle.sheet.specs.declared.Sheet.{Sheet}
use Rattle.design.specs.Answer.{ExaminedIs, Right}
use Rattle.design.specs.TableLaws.{refused-here, valid_here}
use Rattle.classes.specs.ProperLaws.{proper_of}
use Rattle.classes.specs.Proper.{Proper}
use Rattle.classes.specs.Answer.{Counts, ClassesAre}
use Rattle.classes.specs.ShapeLaws.{proper_counts}
use Rattle.classes.specs.declared.Classes.{Classes}
use Rattle.network.specs.Network.{Network}
use Rattle.network.specs.Examine.{Answer, bad_line, network, read_network}
use Rattle.network.specs.Check.{Checked, refused_by, Pair, refused_pair, pair, examine_pair, compare_pair, check_of, check}
use Rattle.network.specs.Check.{compared}
use Rattle.network.specs.CheckLaws.{check-sheet, pair_refused, pair_bad_line}
use Rattle.netsheet.specs.Answer.{NetworkIs, ReadAs}
use Rattle.netsheet.specs.Named.{Ranged}
use Rattle.netsheet.specs.NamedLaws.{holds_ranged}
use Rattle.netsheet.specs.declared.NetworkSheet.{NetworkSheet}
use Rattle.checker.specs.Beside.{BesideIs}
use Rattle.checker.specs.Limits.{Small}
use Rattle.comparing.specs.Drawing.{places_of, Drawing, SomeDrawing}
use Rattle.checker.specs.declared.Beside.{Beside}

-- a "no" to a question at a line
abbrev pub no_at : Question → ℕ → Refusal
no_at q l = record { question = q; line = l }

pub pair_is : (t : List ℕ) (r : Result Beside Refusal) (p q : Pair) → p ≡ q → BesideIs t q r → BesideIs t p r
pair_is t r p q e h = subst (λ (y : Pair). BesideIs t y r) (sym e) h

-- ======== the examination
-- ---- the design's answer
pub refused-design : (t : List ℕ) (x : sheets.Examined) (r : Refusal) → ExaminedIs x (Err r) → BesideIs t (examine_pair x t) (Err r)
refused-design t x r h =
    pair_is t (Err r) (examine_pair x t) (refused_pair (number_of r.question) r.line)
    (ap (λ (y : sheets.Examined). examine_pair y t) (sym (refused-here x r h)) ∙ pair_refused t (number_of r.question) r.line)
    (record { number = refl; line = refl })

-- the answer x is a proper design, which k holds
pub record Designed (x : sheets.Examined) (k : Sheet) : Type 0 where
  pub design : Design
  pub is_valid : x ≡ valid design
  pub holds : Holds design k
  pub proper : Proper design
  pub some-output : 1 ≤ length design.outputs

pub designed : (x : sheets.Examined) (k : Sheet) → ExaminedIs x (Ok k) → Right x → Designed x k
designed x k h g =
    let v = valid_here x k h in
    let wf = g v.design (sym v.answered) in
    record {
      design = v.design;
      is_valid = sym v.answered;
      holds = v.holds;
      proper = proper_of v.design wf;
      some-output = wf.some-output;
    }

module _ {x : sheets.Examined} {k : Sheet} (g : Designed x k) where
  pub designed_ranged : Ranged k
  designed_ranged = holds_ranged g.design k g.holds

  pub designed_counts : Counts k
  designed_counts = proper_counts g.design k g.holds g.proper

  pub examined_as : (t : List ℕ) → examine_pair x t ≡ examine_pair (valid g.design) t
  examined_as t = ap (λ (y : sheets.Examined). examine_pair y t) g.is_valid

  -- ---- question 10
  abbrev ReadBy : List ℕ → Result NetworkSheet ℕ → Type 0
  ReadBy t n =
      (d : Design) → Holds d k → Proper d → 1 ≤ length d.outputs → NetworkIs d t (read_network d t) n

  is_read_by : (t : List ℕ) (n : Result NetworkSheet ℕ) → ReadBy t n → NetworkIs g.design t (read_network g.design t) n
  is_read_by t n r = r g.design g.holds g.proper g.some-output

  bad_here : (d : Design) (t : List ℕ) (y : Answer) (l : ℕ) → NetworkIs d t y (Err l) → y ≡ bad_line l
  bad_here d t (bad_line m) l h = ap bad_line (sym h)
  bad_here d t (network w) l h = absurd h

  pub refused_line : (t : List ℕ) (l : ℕ) → ReadBy t (Err l) → BesideIs t (examine_pair x t) (Err (no_at Question.NetworkSpelling l))
  refused_line t l s =
      pair_is t (Err (no_at Question.NetworkSpelling l)) (examine_pair x t) (refused_pair 10 l)
      (examined_as t
      ∙ pair_bad_line t g.design l
      (bad_here g.design t (read_network g.design t) l (is_read_by t (Err l) s)))
      (record { number = refl; line = refl })

  -- the network sheet t says a network, whose tables stand as n says
  pub record Networked (t : List ℕ) (n : NetworkSheet) : Type 0 where
    pub said : Network
    pub is-network : read_network g.design t ≡ network said
    pub is_read : ReadAs g.design t said n

  networked_here : (t : List ℕ) (y : Answer) (n : NetworkSheet)
      → read_network g.design t ≡ y
      → NetworkIs g.design t y (Ok n)
      → Networked t n
  networked_here t (bad_line l) n e h = absurd h
  networked_here t (network w) n e h = record { said = w; is-network = e; is_read = h }

  pub networked : (t : List ℕ) (n : NetworkSheet) → ReadBy t (Ok n) → Networked t n
  networked t n r = networked_here t (read_network g.design t) n refl (is_read_by t (Ok n) r)

  module _ {t : List ℕ} {n : NetworkSheet} (w : Networked t n) (c : Classes)
      (known : (d : Design) → Holds d k → Proper d → ClassesAre d c) where
    pub classes_are : ClassesAre g.design c
    classes_are = known g.design g.holds g.proper

    -- ---- question 11
    pub small : Small k.limit n.luts k.outputs
    small =
        record {
          low_limit = g.holds.limit_small;
          few_luts = w.is_read.held.few;
          few_outputs = g.holds.outputs_few;
        }

    -- ---- the pair
    pub drawing_here : Drawing g.design w.said t k (places_of n) c.shape
    drawing_here =
        record {
          holds = g.holds;
          proper = g.proper;
          placed = record { nodes-counted = w.is_read.nodes-counted; held = w.is_read.held };
          shaped = classes_are.shaped;
        }

-- ======== Check
module _ (t : List ℕ) where
  refused_as : (p : Pair) (r : Refusal) → BesideIs t p (Err r) → refused_by (number_of r.question) r.line ≡ compare_pair p
  refused_as (refused_pair q l) r h = ap₂ refused_by h.number h.line
  refused_as (pair d w) r h = absurd h

  pub answer_refused : (x : sheets.Examined) (r : Refusal) → BesideIs t (examine_pair x t) (Err r)
      → refused_by (number_of r.question) r.line ≡ check_of x t
  unfolding check_of
  answer_refused x r h = refused_as (examine_pair x t) r h

  module _ (b : Beside) where
    drawing_of : (p : Pair) → BesideIs t p (Ok b) → SomeDrawing t b.sheet (places_of b.network) b.shape
    drawing_of (refused_pair q l) h = absurd h
    drawing_of (pair d w) h = record { design = d; said = w; drawing = h }

    pub some_drawing : (x : sheets.Examined) → BesideIs t (examine_pair x t) (Ok b)
        → SomeDrawing t b.sheet (places_of b.network) b.shape
    some_drawing x h = drawing_of (examine_pair x t) h

    abbrev ComparedBy : Checked → Type 0
    ComparedBy a =
        (d : Design) (w : Network) → Drawing d w t b.sheet (places_of b.network) b.shape → a ≡ compared d w

    compared_as : (p : Pair) (a : Checked) → BesideIs t p (Ok b) → ComparedBy a → a ≡ compare_pair p
    compared_as (refused_pair q l) a h g = absurd h
    compared_as (pair d w) a h g = g d w h

    pub answer_compared : (x : sheets.Examined) (a : Checked) → BesideIs t (examine_pair x t) (Ok b) → ComparedBy a
        → a ≡ check_of x t
    unfolding check_of
    answer_compared x a h g = compared_as (examine_pair x t) a h g

-- ---- on a design sheet
pub sheet_right : (s : List ℕ) → Right (sheets.examine s)
sheet_right s = valid_well_formed s

pub answer_of_sheet : (s t : List ℕ) (a : Checked) → a ≡ check_of (sheets.examine s) t → a ≡ check s t
answer_of_sheet s t a h = h ∙ sym (check-sheet s t (sheets.examine s) refl)
