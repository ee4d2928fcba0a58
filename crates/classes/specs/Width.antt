-- The width of an output: the least w with room for its local classes among 2 ^ w codes; and its budget (clauses 6.10, 6.11).
-- Assumes nothing.
use Rattle.std.specs.Prelude.{List, ℕ, zero, suc, ◌^◌, leb}
use Rattle.bits.specs.Logic.{pick}
use Rattle.names.specs.Name.{Name}
use Rattle.sheet.specs.Examine.{Design}
use Rattle.classes.specs.Classes.{local_count}

-- the smallest from w on, among so many
unfoldable pub width_from : ℕ → ℕ → ℕ → ℕ
width_from zero w c = w
width_from (suc k) w c =
    let wider = width_from k (suc w) c in
    pick (leb c (2 ^ w)) w wider

unfoldable pub width_of : ℕ → ℕ
width_of c = width_from c 0 c

unfoldable pub width : Design → List Name → ℕ → ℕ
width d bs o = width_of (local_count d bs o)

-- the most shared tables that an output may read
unfoldable pub budget : Design → List Name → ℕ → ℕ
budget d bs o = width d bs o
