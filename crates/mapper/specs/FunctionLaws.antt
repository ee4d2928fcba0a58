-- Two networks that are first have one print and one number of tables. That Map is a function of the sheet and the buffer follows
-- in proofs/OneOutcome.antt. Assumes nothing.
use Rattle.std.specs.Prelude.{◌≡◌, length}
use Rattle.order.proofs.TotalLaws.{before_neither}
use Rattle.sheet.specs.Examine.{Design}
use Rattle.network.specs.Network.{Network}
use Rattle.network.specs.Printer.{print_network}
use Rattle.mapper.specs.Map.{First}
use Rattle.mapper.specs.PermittedLaws.{permitted_count}

-- two networks that are first have one print and one number of tables
pub first_one : (d : Design) (v w : Network)
    → First d v
    → First d w
    → (print_network d v ≡ print_network d w) × (length v.luts ≡ length w.luts)
first_one d v w f g = (
  before_neither (print_network d v) (print_network d w) (g.none_before v f.permitted) (f.none_before w g.permitted),
  permitted_count d v w f.permitted g.permitted,
)
