-- What a network sheet says: shared tables over the bound inputs, and for each output which of them it reads and the table in
-- which it finds its value (clauses 7.1 and 7.2). Assumes nothing.
use Rattle.std.specs.Prelude.{Bool, List, ℕ}

-- an output's composition table: the numbers of the shared tables that it reads, rising, and its digits in row order
pub record Node : Type 0 where
  pub reads : List ℕ
  pub digits : List Bool

-- the digits of each shared table, and a node for each output
pub record Network : Type 0 where
  pub luts : List (List Bool)
  pub nodes : List Node
