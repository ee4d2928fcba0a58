-- BLIF: the value of a signal of a model under values of its inputs (clause 12.6). Assumes nothing.
use Rattle.std.specs.Prelude.{Bool, true, false, ◌&&◌, ◌||◌, List, [], ◌∷◌, map, ℕ, zero, suc, length}
use Rattle.std.specs.Bool.{beq}
use Rattle.std.proofs.Math.Option.{Option, some, none}
use Rattle.bits.specs.Logic.{pick}
use Rattle.text.specs.Bytes.{same}
use Rattle.blif.specs.Model.{Signal, Mark, must_be, any, Block, Model}

-- all marks of a row agree with the values, and one such row is enough
abbrev pub agrees : Mark → Bool → Bool
agrees (must_be b) v = beq b v
agrees any v = true

abbrev pub matches : List Mark → List Bool → Bool
matches [] [] = true
matches [] (v ∷ vs) = false
matches (m ∷ ms) [] = false
matches (m ∷ ms) (v ∷ vs) = agrees m v && matches ms vs

unfoldable pub covers : List (List Mark) → List Bool → Bool
covers [] vs = false
covers (ms ∷ mss) vs = matches ms vs || covers mss vs

-- an input has its own value: the inputs' values are given in the order of the inputs
unfoldable pub given : List Signal → List Bool → Signal → Option Bool
given [] vs s = none
given (t ∷ ts) [] s = none
given (t ∷ ts) (v ∷ vs) s =
    let later = given ts vs s in
    pick (same t s) (some v) later

-- the block that drives a signal
unfoldable pub driver : List Block → Signal → Option Block
driver [] s = none
driver (b ∷ bs) s =
    let later = driver bs s in
    pick (same b.drives s) (some b) later

-- all values, if there are all
abbrev pub and_value : Option Bool → Option (List Bool) → Option (List Bool)
and_value (some v) (some vs) = some (v ∷ vs)
and_value (some v) none = none
and_value none r = none

unfoldable pub all_values : List (Option Bool) → Option (List Bool)
all_values [] = some []
all_values (v ∷ vs) = and_value v (all_values vs)

-- a block's value, once its inputs have theirs
abbrev pub on_inputs : List (List Mark) → Option (List Bool) → Option Bool
on_inputs mss (some vs) = some (covers mss vs)
on_inputs mss none = none

-- the value of what a block drives; a signal that no block drives has none
abbrev pub driven : (Signal → Option Bool) → Option Block → Option Bool
driven f (some b) = on_inputs b.cover (all_values (map f b.reads))
driven f none = none

abbrev pub or_else : Option Bool → Option Bool → Option Bool
or_else (some v) later = some v
or_else none later = later

-- a signal's value through at most k signals that stand one behind another
unfoldable pub value_within : ℕ → Model → List Bool → Signal → Option Bool
value_within zero m vs s = none
value_within (suc k) m vs s = or_else (given m.inputs vs s) (driven (value_within k m vs) (driver m.blocks s))

-- without a loop an input and all blocks are the most that can stand one behind another; in a loop no signal has a value
unfoldable pub value_in : Model → List Bool → Signal → Option Bool
value_in m vs s = value_within (suc (length m.blocks)) m vs s
