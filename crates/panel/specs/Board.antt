-- The second text (clauses 13.6 and 13.10): the `bound` line and the `limit` line as a sheet has them, no more and no less, and
-- question 2 on it. Assumes nothing.
use Rattle.std.specs.Prelude.{List, [], ◌∷◌, ℕ}
use Rattle.std.proofs.Math.Option.{Option, some, none}
use Rattle.names.specs.Name.{Name}
use Rattle.sheet.specs.Lines.{read_bound, read_limit}

abbrev pub bound_line : ℕ
bound_line = 1

abbrev pub limit_line : ℕ
limit_line = 2

-- the first misspelled line, or what the two lines say
pub data Board : Type 0 where
  misspelled : ℕ → Board
  board : List Name → ℕ → Board

abbrev pub after_limit : List Name → Option ℕ → List (List ℕ) → Board
after_limit bs none ls = misspelled limit_line
after_limit bs (some n) [] = board bs n
after_limit bs (some n) (l ∷ ls) = misspelled 3

abbrev pub after_bound : Option (List Name) → List (List ℕ) → Board
after_bound none ls = misspelled bound_line
after_bound (some bs) [] = misspelled limit_line
after_bound (some bs) (l ∷ ls) = after_limit bs (read_limit l) ls

-- a line that is missing is refused as a misspelled one, after the last
unfoldable pub read_board : List (List ℕ) → Board
read_board [] = misspelled bound_line
read_board (l ∷ ls) = after_bound (read_bound l) ls
