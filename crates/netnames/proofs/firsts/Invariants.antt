-- `firsts`: each turn puts one vertex down at its code. Assumes nothing.
use Prim.Native.Nat.{ℕ}
use Rattle.network.specs.Numbers.{numbers_of}
use Rattle.serving.specs.Build.{code_in}
use Rattle.netnames.specs.FirstLaws.{Filling}
use Rattle.network.specs.Shown.{item}
use Rattle.netnames.proofs.firsts.Given as goal

abbrev pub invariant-loop-x : goal.invariant-loop-x
invariant-loop-x l = Filling (λ (y : ℕ). code_in (numbers_of l.u l.mask) (item l.codes y)) l.vertices l.x l.r
