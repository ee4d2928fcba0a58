-- Truth values (clause 1.6): the connectives before their arguments, a choice between two values of any type, and a truth
-- value as a number. Assumes nothing.
use Rattle.std.specs.Prelude.{Bool, true, false, not, ◌&&◌, ◌||◌, ℕ}

abbrev pub andb : Bool → Bool → Bool
andb a b = a && b

abbrev pub orb : Bool → Bool → Bool
orb a b = a || b

abbrev pub xorb : Bool → Bool → Bool
xorb true b = not b
xorb false b = b

-- the first value where the test holds, else the second
abbrev pub pick : {A : Type 0} → Bool → A → A → A
pick true a b = a
pick false a b = b

-- a truth value as a digit
abbrev pub bit : Bool → ℕ
bit true = 1
bit false = 0
