-- Classes of numbers under a relation: they are numbered in the order in which their first members come. The numbers of
-- vertices, of local classes and of global classes are counts of three kinds (clause 6.9). Assumes nothing.
use Rattle.std.specs.Prelude.{Bool, ℕ, zero, suc, ◌+◌, eqb, List}
use Rattle.bits.specs.Logic.{pick}
use Rattle.names.specs.Name.{Name}
use Rattle.sheet.specs.Examine.{Design}
use Rattle.classes.specs.Columns.{alike, alike_in_all, vertex_count}

-- the first number from y on, among k, that is related to x; y + k where there is none
unfoldable pub first_from : (ℕ → ℕ → Bool) → ℕ → ℕ → ℕ → ℕ
first_from same x zero y = y
first_from same x (suc k) y =
    let later = first_from same x k (suc y) in
    pick (same y x) y later

-- the first member of x's class
unfoldable pub first_like : (ℕ → ℕ → Bool) → ℕ → ℕ
first_like same x = first_from same x x 0

-- how many classes the numbers below v make: one for each first member
unfoldable pub class_count : (ℕ → ℕ → Bool) → ℕ → ℕ
class_count same zero = 0
class_count same (suc v) = class_count same v + pick (eqb (first_like same v) v) 1 0

-- the number of x's class: how many classes begin before it
unfoldable pub class_of : (ℕ → ℕ → Bool) → ℕ → ℕ
class_of same x = class_count same (first_like same x)

-- the local classes of an output (clause 6.7)
unfoldable pub local_count : Design → List Name → ℕ → ℕ
local_count d bs o = class_count (alike d bs o) (vertex_count bs)

unfoldable pub local_class : Design → List Name → ℕ → ℕ → ℕ
local_class d bs o x = class_of (alike d bs o) x

-- the global classes (clause 6.8)
unfoldable pub global_count : Design → List Name → ℕ
global_count d bs = class_count (alike_in_all d bs) (vertex_count bs)

unfoldable pub global_class : Design → List Name → ℕ → ℕ
global_class d bs x = class_of (alike_in_all d bs) x
