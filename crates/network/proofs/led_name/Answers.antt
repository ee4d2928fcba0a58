-- `led_name`: the space, where the name is not the first item, and the name. Assumes nothing.
use Rattle.std.proofs.Common.{[], ◌∷◌, drop}
use Rattle.text.specs.Bytes.{eat, space}
use Rattle.names.specs.Pack.{name_of}
use Rattle.network.specs.Given.{read_given}
use Rattle.network.specs.ChainLaws.{part_missing, part_then}
use Rattle.network.proofs.led_name.Goals as goal

pub returns-then-first : goal.returns-then-first
returns-then-first c = rw c.if-first.true c.name_at.ensures

pub returns-in_err-next : goal.returns-in_err-next
returns-in_err-next c = let a = c.args in
    rw c.from_residual.ensures
    (rw c.if-first.false (part_missing (eat (space ∷ []) (drop a.c.at a.s.now)) (read_given (name_of a.v)) c.in_err-next.ensures))

pub name_at-requires-2 : goal.name_at-requires-2
name_at-requires-2 c = c.in_ok-next.ensures.inside

pub returns : goal.returns
returns c = let a = c.args in
    rw c.if-first.false
    (part_then (eat (space ∷ []) (drop a.c.at a.s.now)) (read_given (name_of a.v)) c.in_ok-next.ensures c.name_at-2.result c.name_at-2.ensures)
