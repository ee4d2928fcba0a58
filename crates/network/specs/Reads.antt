-- Rising numbers, as a node has those of the tables that it reads (clause 7.2), and when they are the shared tables at the front
-- of a text. Assumes nothing.
use Rattle.std.specs.Prelude.{◌≡◌, Bool, false, List, [], ◌∷◌, ◌++◌, map, ℕ, suc, ◌≤◌, ◌<◌}
use Rattle.text.specs.Bytes.{bad, eat, bytes}
use Rattle.names.specs.Name.{Name}
use Rattle.network.specs.Printer.{led, led_all, lut_name}
use Rattle.network.specs.Reader.{none_of}

-- each number is at least i, below u, and above the one before it
pub data Rising : ℕ → ℕ → List ℕ → Type 0 where
  rising_none : {i u : ℕ} → Rising i u []
  rising_more : {i u j : ℕ} {js : List ℕ} → i ≤ j → j < u → Rising (suc j) u js → Rising i u (j ∷ js)

-- the least number that may follow rising numbers from i on
abbrev pub following : ℕ → List ℕ → ℕ
following i [] = i
following i (j ∷ js) = following (suc j) js

-- whether an item after some items is the first of its list
abbrev pub still : {A : Type 0} → Bool → List A → Bool
still first [] = first
still first (a ∷ others) = false

-- the free inputs and the end of a node's list, after the shared tables is
abbrev pub rest_of : List Name → List ℕ → List ℕ
rest_of fs is = led_all (none_of is) fs ++ bytes ") "

-- the shared tables at the front of s, by rising numbers from i on and below u, with t after them; t goes on with none of
-- the numbers that may follow
pub record ReadsFront (first : Bool) (i u : ℕ) (s is t : List ℕ) : Type 0 where
  pub rises : Rising i u is
  pub is_split : s ≡ led_all first (map lut_name is) ++ t
  pub no_more : (j : ℕ) → following i is ≤ j → j < u → eat (led (still first is) (lut_name j)) t ≡ bad
