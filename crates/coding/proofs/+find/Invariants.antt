-- A search goes deeper by one vertex that has no code, so the vertices without a code are the measure. Over the codes of the
-- vertex that was picked: it is still without a code, and each solution whose code there it may be asked to take can have it
-- among those that are left. A turn takes one of these off.
use Rattle.std.proofs.Common.{◌≡◌, ◌<◌, ◌≤◌, length}
use Rattle.limits.specs.Limits.{max_vertices}
use Rattle.problem.specs.Problem.{no_code, item}
use Rattle.holding.specs.Search.{uncoded}
use Rattle.coding.specs.Tried.{Trying}
use Rattle.coding.proofs.+find.Given as goal

abbrev pub decreases-find : goal.decreases-find
decreases-find l = uncoded l.s.codes l.p.vertices

abbrev pub invariant-loop-left : goal.invariant-loop-left
invariant-loop-left l = record {
  long : length l.s.codes ≡ max_vertices;
  inside : l.x < l.p.vertices;
  without : no_code ≤ item l.s.codes l.x;
  trying : Trying l.cl l.base l.p.ms l.p.caps l.p.spots l.p.vertices l.p.outputs l.p.kn l.p.val l.s.codes l.s.dom l.x l.can l.left;
}

abbrev pub decreases-loop-left : goal.decreases-loop-left
decreases-loop-left l = l.left
