-- BLIF: what a text says (clause 12.5). A model has a name, inputs, outputs and blocks; a block has a cover, whose lines mark
-- for each of the block's inputs whether it must be 0, must be 1, or does not matter. Assumes nothing.
use Rattle.std.specs.Prelude.{Bool, List, map, ℕ}

abbrev pub Signal : Type 0
Signal = List ℕ

-- 0 or 1, or `-`
pub data Mark : Type 0 where
  must_be : Bool → Mark
  any : Mark

pub record Block : Type 0 where
  pub reads : List Signal
  pub drives : Signal
  pub cover : List (List Mark)

abbrev pub drives_of : List Block → List Signal
drives_of bs = map (λ (b : Block). b.drives) bs

pub record Model : Type 0 where
  pub name : List ℕ
  pub inputs : List Signal
  pub outputs : List Signal
  pub blocks : List Block
