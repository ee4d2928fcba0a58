-- What the readers of a line answer, by the definitions: a line's digits are told by the place where they stand.
-- Assumes nothing.
use Rattle.std.specs.Prelude.{◌≡◌, Bool, List, [], ◌∷◌, ℕ, ◌+◌, ◌^◌, ◌≤◌, length, take, drop, Option, Some, None}
use Rattle.std.proofs.Math.Option.{some, none}
use Rattle.std.proofs.Math.Option as math
use Rattle.text.specs.Bytes.{Read, found, after, eat}
use Rattle.cursor.specs.Item.{from}
use Rattle.network.specs.Network.{Node}
use Rattle.network.specs.Printer.{print_digits}
use Rattle.network.specs.Reader.{read_digits, first_found}
use Rattle.network.specs.Numbers.{numbers_of}
use Rattle.network.specs.declared.NodeLine.{NodeLine}
use Rattle.network.specs.declared.Reads.{Reads}

-- a digit 0 or 1, and so many digits, without their values
abbrev pub eat_digit : List ℕ → Read (Unit {0})
eat_digit s = first_found (eat (0x30 ∷ []) s) (eat (0x31 ∷ []) s)

unfoldable pub eat_digits : ℕ → List ℕ → Read (Unit {0})
eat_digits n s = after (read_digits n s) (λ _ t. found tt t)

-- the n digits ds stand in a text from a place on
pub record Stands (s : List ℕ) (n at : ℕ) (ds : List Bool) : Type 0 where
  pub counted : length ds ≡ n
  pub inside : at + n ≤ length s
  pub printed : take n (drop at s) ≡ print_digits ds

-- a line whose digits were read
pub record TableRead (l : List ℕ) (n at : ℕ) (x : math.Option (List Bool)) : Type 0 where
  pub digits : List Bool
  pub is : some digits ≡ x
  pub stands : Stands l n at digits

abbrev pub TableIs : List ℕ → ℕ → Option ℕ → math.Option (List Bool) → Type 0
TableIs l n (Some at) x = TableRead l n at x
TableIs l n None x = none ≡ x

-- the shared tables of a node's list, of those below u
pub record ReadsAre (s : List ℕ) (u : ℕ) (r : Reads) (x : Read (List ℕ)) : Type 0 where
  pub inside : r.next.at ≤ length s
  pub is : found (numbers_of u r.mask) (from s r.next) ≡ x
  pub counted : r.count ≡ length (numbers_of u r.mask)
  pub few : r.count ≤ u

-- a node of which the mask says what it reads, with f free inputs, and whose digits stand in a text from a place on
pub record NodeStands (s : List ℕ) (u f mask at : ℕ) (x : Node) : Type 0 where
  pub reading : numbers_of u mask ≡ x.reads
  pub stands : Stands s (2 ^ (length x.reads + f)) at x.digits

pub record NodeRead (l : List ℕ) (u f mask at : ℕ) (x : math.Option Node) : Type 0 where
  pub node : Node
  pub is : some node ≡ x
  pub stands : NodeStands l u f mask at node

abbrev pub NodeIs : List ℕ → ℕ → ℕ → Option NodeLine → math.Option Node → Type 0
NodeIs l u f (Some r) x = NodeRead l u f r.mask r.at x
NodeIs l u f None x = none ≡ x
