-- Texts as lists of bytes (clauses 3.1 and 3.2), and what reading at the front of a text finds. Assumes nothing.
use Rattle.std.specs.Prelude.{Bool, true, false, ◌&&◌, List, [], ◌∷◌, ℕ, eqb}
use Rattle.std.proofs.Math.Option.{Option, some, none}
use Prim.Native.Char.{code}
use Prim.Native.String.{String, [] as empty, ◌∷◌ as ◌followed◌}
use Rattle.bits.specs.Logic.{pick}

-- the bytes of a quoted text
abbrev pub bytes : String → List ℕ
bytes empty = []
bytes (◌followed◌ c s) = code c ∷ bytes s

-- what ends a line, what parts its items, and the brackets
abbrev pub newline : ℕ
newline = 0x0A

abbrev pub space : ℕ
space = 0x20

abbrev pub open_bracket : ℕ
open_bracket = 0x28

abbrev pub close_bracket : ℕ
close_bracket = 0x29

-- whether two texts are the same
unfoldable pub same : List ℕ → List ℕ → Bool
same [] [] = true
same [] (b ∷ t) = false
same (a ∷ s) [] = false
same (a ∷ s) (b ∷ t) = eqb a b && same s t

-- what reading at the front of a text finds: an item and the text after it, or no such item
pub data Read (A : Type 0) : Type 0 where
  found : A → List ℕ → Read A
  bad : Read A

-- what is read next begins right after the item that was found
abbrev pub after : {A B : Type 0} → Read A → (A → List ℕ → Read B) → Read B
after (found a s) f = f a s
after bad f = bad

-- the text w at the front
unfoldable pub eat : List ℕ → List ℕ → Read (Unit {0})
eat [] s = found tt s
eat (w ∷ ws) [] = bad
eat (w ∷ ws) (b ∷ s) =
    let rest = eat ws s in
    pick (eqb w b) rest bad

-- the item of a text that holds nothing besides
abbrev pub whole : {A : Type 0} → Read A → Option A
whole (found a []) = some a
whole (found a (b ∷ s)) = none
whole bad = none
