-- What is taken away so far is in no solution.
use Rattle.std.proofs.Common.{◌≡◌, ℕ, List, length}
use Rattle.problem.specs.Problem.{Kept, Blocks}
use Rattle.coding.proofs.bar_all.Given as goal

abbrev pub invariant-loop-o : goal.invariant-loop-o
invariant-loop-o l = (length l.dom ≡ 32)
    × ((base ms spots : List ℕ) → Blocks ms l.bs l.p.outputs → Kept l.cl base ms l.p.caps spots l.p.vertices l.p.outputs l.codes l.initial.dom l.dom)
