-- `code`: each turn reads one shared table. Assumes nothing.
use mathlib.Core.Path.{◌≡◌}
use Rattle.comparing.specs.Code.{code_at}
use Rattle.comparing.proofs.code.Given as goal

abbrev pub invariant-loop-i : goal.invariant-loop-i
invariant-loop-i l = l.c ≡ code_at l.t l.lutat l.mask l.x.0 l.i
