-- What can be written as a PLA text: numbers that `.i`, `.o` and `.p` can give, names that are names, and cubes that have a
-- literal for each input and one byte other than 0x0A for each output. Assumes nothing.
use Rattle.std.specs.Prelude.{◌≡◌, true, List, [], ◌∷◌, ℕ, ◌^◌, ◌≤◌, ◌<◌, length}
use Rattle.limits.specs.Limits.{max_pla_digits, max_pla}
use Rattle.text.specs.Unbroken.{unbroken}
use Rattle.names.specs.Names.{all_names}
use Rattle.cubes.specs.Cube.{Cube}
use Rattle.platext.specs.Text.{Pla, print_pla}

-- a cube for i inputs and o outputs
pub record CubeFits (i o : ℕ) (c : Cube) : Type 0 where
  pub literals_counted : length c.literals ≡ i
  pub marks_counted : length c.marks ≡ o
  pub marks_unbroken : unbroken c.marks ≡ true

pub data CubesFit (i o : ℕ) : List Cube → Type 0 where
  no_cube : CubesFit i o []
  one_more : {c : Cube} {cs : List Cube} → CubeFits i o c → CubesFit i o cs → CubesFit i o (c ∷ cs)

pub record Writable (x : Pla) : Type 0 where
  pub inputs_some : 1 ≤ length x.inputs
  pub inputs_few : length x.inputs < 10 ^ max_pla_digits
  pub inputs_named : all_names x.inputs ≡ true
  pub outputs_some : 1 ≤ length x.outputs
  pub outputs_few : length x.outputs < 10 ^ max_pla_digits
  pub outputs_named : all_names x.outputs ≡ true
  pub cubes_few : length x.cubes < 10 ^ max_pla_digits
  pub cubes_fit : CubesFit (length x.inputs) (length x.outputs) x.cubes

-- the text t writes x
pub record Writes (t : List ℕ) (x : Pla) : Type 0 where
  pub writable : Writable x
  pub is_print : t ≡ print_pla x
  pub fits : length t ≤ max_pla
