-- The text of some lines is no longer than the text of all: a line that is left out takes its bytes with it. Assumes nothing.
use Rattle.std.proofs.Common.{⊎_elim, arith}
use Rattle.std.specs.Prelude.{List, [], ◌∷◌, ℕ, suc, ◌≤◌, length}
use Rattle.bits.specs.Digit.{on}
use Rattle.bits.specs.LogicLaws.{either}
use Rattle.text.specs.Line.{ended_lines}
use Rattle.text.specs.EndedLaws.{ended_more_length}
use Rattle.subsets.specs.Subset.{selected}

pub fewer_lines : (s i : ℕ) (ls : List (List ℕ)) → length (ended_lines (selected s i ls)) ≤ length (ended_lines ls)
unfolding selected
fewer_lines s i [] = omega arith
fewer_lines s i (l ∷ ls) =
    let later : length (ended_lines (selected s (suc i) ls)) ≤ length (ended_lines ls) = fewer_lines s (suc i) ls in
    let all = ended_more_length l ls in
    ⊎_elim
    (λ e. rw e (omega (arith, ended_more_length l (selected s (suc i) ls))))
    (λ e. rw e (omega arith))
    (either (on s i))
