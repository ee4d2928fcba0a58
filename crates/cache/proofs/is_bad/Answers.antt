use Rattle.cache.specs.CacheLaws.{honest_found}
use Rattle.std.proofs.Common.{refl, ◌∙◌}
use Rattle.cache.proofs.is_bad.Goals as goal

pub holds-requires : goal.holds-requires
holds-requires c = (c.requires, c.place.ensures)

pub returns : goal.returns
returns c = λ cl given kn val v s e.
    let a = c.args in
    let h = c.holds.ensures e in
    honest_found cl given kn val v a.mem.now c.place.result a.asked a.rows c.place.ensures (h.0 ∙ c.head.ensures.1 refl) h.1 s
