-- `read_cubes`: one line after another. Assumes nothing.
use Rattle.std.proofs.Common.{◌-◌, length}
use Rattle.platext.specs.CubesLaws.{Cubes}
use Rattle.platext.proofs.read_cubes.Given as goal

abbrev pub invariant-loop-e : goal.invariant-loop-e
invariant-loop-e l = Cubes l.s l.at l.i l.o l.start l.cubes

abbrev pub decreases-loop-e : goal.decreases-loop-e
decreases-loop-e l = length l.s - l.start
