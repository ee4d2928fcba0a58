-- What is taken away so far is in no solution.
use Rattle.std.proofs.Common.{◌≡◌, length}
use Rattle.problem.specs.Problem.{Kept}
use Rattle.coding.proofs.settle_all.Given as goal

abbrev pub invariant-loop-o : goal.invariant-loop-o
invariant-loop-o l = (length l.dom ≡ 32) × Kept l.cl l.base l.p.ms l.p.caps l.p.spots l.p.vertices l.p.outputs l.codes l.initial.dom l.dom
