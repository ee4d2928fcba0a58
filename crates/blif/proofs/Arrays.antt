-- How many names a list of names shows. Assumes nothing.
use Rattle.std.proofs.Common.{◌≡◌, ◌∙◌, ◌≤◌, length, take, length-take-le}
use Rattle.std.proofs.lemmas.List.{length-map}
use Rattle.names.specs.Pack.{name_of}
use Rattle.network.specs.Shown.{shown}
use Rattle.network.specs.declared.Names.{Names}

pub shown-counted : (n : Names) → n.count ≤ length n.list → length (shown n) ≡ n.count
shown-counted n few = length-map (take n.count n.list) name_of ∙ length-take-le n.count n.list few
