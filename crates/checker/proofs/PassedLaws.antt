-- Question 11 on what the code read: its limits are those of the design and the network, and so the code's line is the
-- definition's. Assumes nothing.
use Rattle.std.specs.Prelude.{refl, List, ℕ, ◌<◌, Option, Some, None, Ok, Err}
use Rattle.std.proofs.Common.{◌∙◌, arith}
use Rattle.refusal.specs.declared.Question.{Question}
use Rattle.sheet.specs.Examine as sheets
use Rattle.sheet.specs.Examine.{Design}
use Rattle.sheet.specs.Known.{Holds}
use Rattle.sheet.specs.declared.Sheet.{Sheet}
use Rattle.classes.specs.Proper.{Proper}
use Rattle.classes.specs.Width.{budget}
use Rattle.classes.specs.Answer.{ClassesAre}
use Rattle.classes.specs.declared.Classes.{Classes}
use Rattle.network.specs.Network.{Network}
use Rattle.network.specs.Check.{refused_pair, pair, examine_pair}
use Rattle.network.specs.CheckLaws.{pair_offending, drawn_pair}
use Rattle.netsheet.specs.declared.NetworkSheet.{NetworkSheet}
use Rattle.checker.specs.Beside.{BesideIs}
use Rattle.checker.specs.Limits.{LimitsAre, Judged}
use Rattle.checker.specs.CheckLaws.{no_at, pair_is, Designed, examined_as, Networked, classes_are, drawing_here}
use Rattle.checker.specs.declared.Beside.{Beside}

module _ {x : sheets.Examined} {k : Sheet} (g : Designed x k) {t : List ℕ} {n : NetworkSheet} (w : Networked g t n) (c : Classes)
    (known : (d : Design) → Holds d k → Proper d → ClassesAre d c) where
  limits_are : LimitsAre g.design w.said k.limit n.luts k.outputs n.reads c.widths
  unfolding budget
  limits_are =
      let a = g.holds.outputs_counted in
      let b = w.is_read.nodes-counted in
      record {
        limit_is = g.holds.limit_is;
        luts-counted = w.is_read.held.counted;
        nodes-counted = omega arith;
        reading = λ o l. (w.is_read.held.nodes_stand o (omega arith)).reading;
        wide = λ o l. ((classes_are g w c known).widths o (omega arith)).is;
      }

  abbrev JudgedBy : Option ℕ → Type 0
  JudgedBy l =
      (d : Design) (v : Network) → LimitsAre d v k.limit n.luts k.outputs n.reads c.widths → Judged d v l

  pub refused_limits : (l : ℕ) → JudgedBy (Some l) → BesideIs t (examine_pair x t) (Err (no_at Question.NetworkLimits l))
  refused_limits l j =
      pair_is t (Err (no_at Question.NetworkLimits l)) (examine_pair x t) (refused_pair 11 l)
      (examined_as g t ∙ pair_offending t g.design w.said l w.is-network (j g.design w.said limits_are))
      (record { number = refl; line = refl })

  abbrev beside : Beside
  beside = record { sheet = k; network = n; shape = c.shape }

  pub passed_pair : JudgedBy None → BesideIs t (examine_pair x t) (Ok beside)
  passed_pair j =
      pair_is t (Ok beside) (examine_pair x t) (pair g.design w.said)
      (drawn_pair t x g.design w.said g.is_valid (record { is_read = w.is-network; passes = j g.design w.said limits_are }))
      (drawing_here g w c known)
