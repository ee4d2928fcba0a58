-- The print of a well formed network within the limits passes questions 10 and 11, and Check says "same" of it where it has
-- the design's values; and each network sheet that passes them is a spelling of such a network. Assumes nothing.
use Rattle.std.specs.Prelude.{◌≡◌, List, ℕ, ◌≤◌, length}
use Rattle.limits.specs.Limits.{max_network}
use Rattle.sheet.specs.Examine.{Design, valid}
use Rattle.network.specs.Network.{Network}
use Rattle.network.specs.Printer.{print_network}
use Rattle.network.specs.Check.{same, check_of}
use Rattle.network.specs.Spelling.{Spells}
use Rattle.network.specs.NetworkFor.{NetworkFor, Named}
use Rattle.network.specs.Answers.{WithinLimits, Computes, Drawn}
use Rattle.network.specs.SheetLaws.{network_read_of_print, network_spelling_of_read}
use Rattle.network.specs.OffendingLaws.{offending_none, none_offending}
use Rattle.network.specs.CheckLaws.{same_check}

module _ (d : Design) (w : Network) (named : Named d) where
  pub printed_drawn : NetworkFor d w
      → WithinLimits d w
      → length (print_network d w) ≤ max_network
      → Drawn d (print_network d w) w
  printed_drawn f l k = record { is_read = network_read_of_print d w named f k; passes = none_offending d w l }

  pub printed_same : NetworkFor d w
      → WithinLimits d w
      → length (print_network d w) ≤ max_network
      → Computes d w
      → check_of (valid d) (print_network d w) ≡ same
  printed_same f l k c = same_check d (print_network d w) w (printed_drawn f l k) c

  -- what is drawn is well formed, within the limits, and its sheet spells it
  pub drawn_wellformed : (t : List ℕ) → Drawn d t w → NetworkFor d w
  drawn_wellformed t f = (network_spelling_of_read d t w f.is_read named).0

  pub drawn_within : (t : List ℕ) → Drawn d t w → WithinLimits d w
  drawn_within t f = offending_none d w f.passes

  pub drawn_spells : (t : List ℕ) → Drawn d t w → Spells d w t
  drawn_spells t f = (network_spelling_of_read d t w f.is_read named).1
