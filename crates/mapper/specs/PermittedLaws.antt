-- What the permitted networks of one design have in common: the number of shared tables, and for each output how many of them
-- its node reads. Assumes nothing.
use Rattle.std.specs.Prelude.{◌≡◌, ℕ, ◌<◌, length}
use Rattle.std.proofs.Common.{sym, ◌∙◌, le_antisymm}
use Rattle.sheet.specs.Examine.{Design}
use Rattle.classes.specs.Proper.{Proper}
use Rattle.network.specs.Network.{Network}
use Rattle.network.specs.Answers.{read_count}
use Rattle.serving.specs.FullReads.{reads-width}
use Rattle.mapper.specs.Map.{Permitted}

pub permitted_count : (d : Design) (v w : Network) → Permitted d v → Permitted d w → length v.luts ≡ length w.luts
permitted_count d v w p q =
    le_antisymm (p.fewest w q.wellformed q.within q.computes) (q.fewest v p.wellformed p.within p.computes)

pub permitted_reads : (d : Design) (v w : Network) (o : ℕ)
    → Proper d
    → Permitted d v
    → Permitted d w
    → o < length d.outputs
    → read_count v o ≡ read_count w o
permitted_reads d v w o f p q h =
    reads-width d v f p.wellformed p.within p.computes o h
    ∙ sym (reads-width d w f q.wellformed q.within q.computes o h)
