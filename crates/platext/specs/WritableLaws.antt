-- Cubes that fit are each a cube that fits. Assumes nothing.
use Rattle.std.specs.Prelude.{List, ℕ, zero, suc, ◌<◌, length}
use Rattle.std.proofs.Common.{arith}
use Rattle.cubes.specs.Cube.{Cube}
use Rattle.cubes.specs.Cover.{cube_at}
use Rattle.platext.specs.Writable.{CubeFits, CubesFit, no_cube, one_more}

pub cube_fits_at : {i o : ℕ} {cs : List Cube} → CubesFit i o cs → (k : ℕ) → k < length cs → CubeFits i o (cube_at cs k)
cube_fits_at no_cube k h = absurd (omega arith)
cube_fits_at (one_more f fs) zero h = f
cube_fits_at (one_more f fs) (suc k) h = cube_fits_at fs k (omega arith)
