-- The rows and the codes of the core that a choice found. Assumes nothing.
use Rattle.std.specs.Prelude.{List, [], ℕ}
use Rattle.problem.specs.declared.Answer.{Answer}
use Rattle.problem.specs.declared.Answer.TheVariants.{Found, Nothing, Unsure}
use Rattle.readingsets.specs.declared.Core.{Core}

-- the rows of the core found, and none where none was
abbrev pub core_rows : Answer Core → List ℕ
core_rows (Found k) = k.rows
core_rows Nothing = []
core_rows Unsure = []

-- its codes
abbrev pub core_codes : Answer Core → List ℕ
core_codes (Found k) = k.codes
core_codes Nothing = []
core_codes Unsure = []
