-- A cube of a PLA text (clause 13.4): a literal for each input, a space, and a byte for each output. What it says, how it is
-- written and how it is read. Assumes nothing.
use Rattle.std.specs.Prelude.{List, [], ◌∷◌, ◌++◌, map, ℕ, zero, suc, eqb}
use Rattle.std.proofs.Math.Option.{Option, some, none}
use Rattle.bits.specs.Logic.{pick}
use Rattle.text.specs.Bytes.{Read, found, bad, after, eat, whole, space}

-- what a cube asks of an input: 0, 1, or nothing
pub data Literal : Type 0 where
  is_zero is_one any : Literal

-- a literal for each input, and the bytes of the output part, one for each output
pub record Cube : Type 0 where
  pub literals : List Literal
  pub marks : List ℕ

-- ---- how it is written
abbrev pub literal_byte : Literal → ℕ
literal_byte is_zero = 0x30
literal_byte is_one = 0x31
literal_byte any = 0x2D

unfoldable pub print_cube : Cube → List ℕ
print_cube c = map literal_byte c.literals ++ (space ∷ c.marks)

-- ---- how it is read
abbrev pub literal_of : ℕ → Option Literal
literal_of b = pick (eqb b 0x30) (some is_zero) (pick (eqb b 0x31) (some is_one) (pick (eqb b 0x2D) (some any) none))

abbrev pub ahead : {A : Type 0} → Option A → Read (List A) → Read (List A)
ahead none r = bad
ahead (some a) r = after r (λ others s. found (a ∷ others) s)

-- so many literals
unfoldable pub read_literals : ℕ → List ℕ → Read (List Literal)
read_literals zero s = found [] s
read_literals (suc k) [] = bad
read_literals (suc k) (b ∷ s) =
    let others = read_literals k s in
    ahead (literal_of b) others

-- so many bytes, whatever they are
unfoldable pub read_bytes : ℕ → List ℕ → Read (List ℕ)
read_bytes zero s = found [] s
read_bytes (suc k) [] = bad
read_bytes (suc k) (b ∷ s) =
    let others = read_bytes k s in
    ahead (some b) others

-- a line with literals for i inputs and bytes for o outputs
unfoldable pub read_cube : ℕ → ℕ → List ℕ → Option Cube
read_cube i o l =
    whole
    (after (read_literals i l) (λ ls s.
    after (eat (space ∷ []) s) (λ _ t.
    after (read_bytes o t) (λ ms u. found (record { literals = ls; marks = ms }) u))))
