-- What is remembered of subproblems: an entry holds the set of outputs asked about, whether no codes answer, and the rows. Only
-- that no codes answer is promised. An entry may be lost to another one at any time. Assumes nothing.
use Rattle.std.specs.Prelude.{◌≡◌, ℕ, suc, ◌+◌, ◌*◌, ◌/◌, ◌%◌, ◌<◌, false, List, length, ◌≢◌}
use Rattle.limits.specs.Limits.{search_outputs}
use Rattle.bits.specs.Digit.{on}
use Rattle.problem.specs.Problem.{item}
use Rattle.subproblems.specs.Subproblem.{Barred}

-- the entries of a cache and the numbers that each has
abbrev pub entry_count : ℕ
entry_count = 2048

abbrev pub entry_size : ℕ
entry_size = suc search_outputs

-- the head of entry i, and the row that it has for output o
abbrev pub head_at : List ℕ → ℕ → ℕ
head_at mem i = item mem (i * entry_size)

abbrev pub row_at : List ℕ → ℕ → ℕ → ℕ
row_at mem i o = item mem (i * entry_size + suc o)

-- an odd head says that no codes answer the subproblem about the outputs of its half, with the entry's rows
pub record Honest (cl given : List ℕ) (kn val v : ℕ) (mem : List ℕ) : Type 0 where
  pub long : length mem ≡ entry_count * entry_size
  pub bad : (i : ℕ) → i < entry_count → head_at mem i % 2 ≡ 1 → Barred cl given kn val v (head_at mem i / 2) (row_at mem i)

-- entry i has the first o of the rows, and the other entries are as they were
pub record Written (old : List ℕ) (i : ℕ) (rows : List ℕ) (o : ℕ) (mem : List ℕ) : Type 0 where
  pub long : length mem ≡ length old
  pub heads : (k : ℕ) → (k ≢ i) → head_at mem k ≡ head_at old k
  pub others : (k q : ℕ) → (k ≢ i) → q < search_outputs → row_at mem k q ≡ row_at old k q
  pub mine : (q : ℕ) → q < o → row_at mem i q ≡ item rows q

-- where all doesn't have cell 0, none of the first o rows of entry i reads it
pub record Joined (mem : List ℕ) (i o all : ℕ) : Type 0 where
  pub unread : on all 0 ≡ false → (q : ℕ) → q < o → on (row_at mem i q) 0 ≡ false

-- what entries say they said in old too, and of the first i only those say something whose rows don't read cell 0
pub record Unread (old : List ℕ) (i : ℕ) (mem : List ℕ) : Type 0 where
  pub long : length mem ≡ length old
  pub heads : (k : ℕ) → head_at mem k % 2 ≡ 1 → head_at mem k ≡ head_at old k
  pub rows : (k q : ℕ) → q < search_outputs → row_at mem k q ≡ row_at old k q
  pub unread : (k q : ℕ) → k < i → head_at mem k % 2 ≡ 1 → q < search_outputs → on (row_at mem k q) 0 ≡ false
