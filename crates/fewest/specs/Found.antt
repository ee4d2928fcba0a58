-- The parts of a core, where one was found. Assumes nothing.
use Rattle.std.specs.Prelude.{List, [], ℕ, Option, Some, None}
use Rattle.fewest.specs.declared.Core.{Core}

-- how many cells it has, and 0 where none was found
abbrev pub core_count : Option Core → ℕ
core_count (Some k) = k.count
core_count None = 0

-- what its outputs read
abbrev pub core_rows : Option Core → List ℕ
core_rows (Some k) = k.rows
core_rows None = []

-- its codes
abbrev pub core_codes : Option Core → List ℕ
core_codes (Some k) = k.codes
core_codes None = []
