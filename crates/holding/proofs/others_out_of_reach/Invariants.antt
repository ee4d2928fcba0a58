-- The first part that is out of reach is the one of the contract; the set of parts still to be asked about falls with each turn.
-- Assumes nothing.
use Rattle.holding.proofs.others_out_of_reach.Given as goal

abbrev pub invariant-loop-rest : goal.invariant-loop-rest
invariant-loop-rest l = Unit {0}

abbrev pub decreases-loop-rest : goal.decreases-loop-rest
decreases-loop-rest l = l.rest
