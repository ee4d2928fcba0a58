-- `cellmapper_map`: what Map answers, reported. Assumes nothing.
use Rattle.cellmapper.proofs.cellmapper_map.Goals as goal

pub returns : goal.returns
returns c = record { answer = _; outcome = c.map.ensures; reported = c.tell_map.ensures }
