-- `map`: Map on what the panel's examination answers. Assumes nothing.
use borrow.Author.Rules.{rules}
use Rattle.panel.specs.Examine as spec
use Rattle.panel.specs.DesignLaws.{panel_well_formed}
use Rattle.pla.proofs.map.Goals as goal

pub map_of-requires : goal.map_of-requires
map_of-requires c = c.examine.ensures.examination

pub returns : goal.returns
returns c = let a = c.args in
    let p = a.pla.now in
    let b = a.board.now in
    c.map_of.ensures (spec.examine p b) c.examine.ensures.examined_is (panel_well_formed p b)
