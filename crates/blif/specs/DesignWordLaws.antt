-- The names of a valid design are words in BLIF. Assumes nothing.
use Rattle.std.specs.Prelude.{◌≡◌, true}
use Rattle.sheet.specs.Examine.{Design}
use Rattle.sheet.specs.WellFormed.{WellFormed}
use Rattle.network.specs.Parts.{free_of, names_of}
use Rattle.network.specs.PartLaws.{free-named}
use Rattle.network.specs.NamedLaws.{design-named}
use Rattle.blif.specs.IsWord.{all_words}
use Rattle.blif.specs.IsWordLaws.{names_words}

module _ (d : Design) (f : WellFormed d) where
  pub inputs_words : all_words d.inputs ≡ true
  inputs_words = names_words d.inputs (design-named d f).inputs_named

  pub bound-words : all_words d.bound ≡ true
  bound-words = names_words d.bound (design-named d f).bound-named

  pub frees-words : all_words (free_of d) ≡ true
  frees-words = names_words (free_of d) (free-named d.inputs d.bound (design-named d f).inputs_named)

  pub outputs_words : all_words (names_of d) ≡ true
  outputs_words = names_words (names_of d) (design-named d f).outputs_named
