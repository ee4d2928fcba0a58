-- The design with some of its outputs, in order, and its sheet, which has only the `out` lines of the set (clause 14.6). Assumes nothing.
use Rattle.std.specs.Prelude.{List, ◌++◌, ℕ, ◌+◌, take, drop}
use Rattle.text.specs.Line.{lines, ended_lines}
use Rattle.sheet.specs.Examine.{Design}
use Rattle.subsets.specs.Subset.{selected}

-- the design with the outputs of the set s
unfoldable pub part : ℕ → Design → Design
part s d = record { inputs = d.inputs; bound = d.bound; limit = d.limit; outputs = selected s 0 d.outputs }

-- the lines before the first `out` line
abbrev pub head_lines : ℕ
head_lines = 4

-- the sheet t with m `out` lines, without those of the outputs that are not in the set s
unfoldable pub only_outs : ℕ → ℕ → List ℕ → List ℕ
only_outs s m t =
    let ls = lines t in
    ended_lines (take head_lines ls ++ (selected s 0 (take m (drop head_lines ls)) ++ drop (head_lines + m) ls))
