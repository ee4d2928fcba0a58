-- What the examination of a design and a network sheet answers, by the definitions: whatever is done with the two together
-- starts from it. Assumes nothing.
use Rattle.std.specs.Prelude.{List, ℕ, Result, Ok, Err}
use Rattle.network.specs.Check.{Pair, refused_pair, pair}
use Rattle.refusal.specs.Number.{Refuses}
use Rattle.refusal.specs.declared.Refusal.{Refusal}
use Rattle.comparing.specs.Drawing.{Drawing, places_of}
use Rattle.checker.specs.declared.Beside as code

-- r is the pair p: the same refusal, or the design and the network as r holds them, its tables in the text t
abbrev pub BesideIs : List ℕ → Pair → Result code.Beside Refusal → Type 0
BesideIs t (refused_pair q l) (Err r) = Refuses q l r
BesideIs t (refused_pair q l) (Ok b) = ⊥
BesideIs t (pair d w) (Err r) = ⊥
BesideIs t (pair d w) (Ok b) = Drawing d w t b.sheet (places_of b.network) b.shape
