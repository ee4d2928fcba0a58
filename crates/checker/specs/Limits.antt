-- What question 11 is asked of, as the code holds it, and its answer as a line. Assumes nothing.
use Rattle.std.specs.Prelude.{◌≡◌, List, ℕ, ◌≤◌, ◌<◌, length, get_or, Option, Some, None}
use Rattle.std.proofs.Math.Option.{some, none}
use Rattle.limits.specs.Limits.{max_limit, max_cells, max_outputs}
use Rattle.sheet.specs.Examine.{Design}
use Rattle.classes.specs.Width.{budget}
use Rattle.network.specs.Network.{Network}
use Rattle.network.specs.Examine.{offending}
use Rattle.network.specs.NetworkFor.{node_at}
use Rattle.network.specs.Numbers.{numbers_of}

pub record Small (limit luts outputs : ℕ) : Type 0 where
  pub low_limit : limit ≤ max_limit
  pub few_luts : luts ≤ max_cells
  pub few_outputs : outputs ≤ max_outputs

-- the numbers of d and w, and for each output a mask of what it reads and its width
pub record LimitsAre (d : Design) (w : Network) (limit luts outputs : ℕ) (reads widths : List ℕ) : Type 0 where
  pub limit_is : limit ≡ d.limit
  pub luts-counted : luts ≡ length w.luts
  pub nodes-counted : outputs ≡ length w.nodes
  pub reading : (o : ℕ) → o < outputs → numbers_of luts (get_or reads o 0) ≡ (node_at w.nodes o).reads
  pub wide : (o : ℕ) → o < outputs → get_or widths o 0 ≡ budget d d.bound o

-- question 11's answer: the first line that offends, or none
abbrev pub Judged : Design → Network → Option ℕ → Type 0
Judged d w (Some l) = offending d w ≡ some l
Judged d w None = offending d w ≡ none
