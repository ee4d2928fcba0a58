-- `name_at`: the name that is read is compared with the one that is given. Assumes nothing.
use Rattle.std.proofs.Common.{sym, ◌∙◌, drop}
use Rattle.names.specs.Pack.{name_of}
use Rattle.network.specs.ListedLaws.{given_no_name, given_same, given_other}
use Rattle.network.proofs.name_at.Goals as goal

pub returns-in_err-w : goal.returns-in_err-w
returns-in_err-w c = let a = c.args in
    rw c.from_residual.ensures
    (given_no_name (name_of a.v) (drop a.c.at a.s.now) c.in_err-w.ensures)

pub returns-then-same_name : goal.returns-then-same_name
returns-then-same_name c = let a = c.args in
    given_same (name_of a.v) (drop a.c.at a.s.now) c.in_ok-w.ensures (sym c.same_name.ensures ∙ c.if-same_name.true)

pub returns-else-same_name : goal.returns-else-same_name
returns-else-same_name c = let a = c.args in
    given_other (name_of a.v) (drop a.c.at a.s.now) c.in_ok-w.ensures (sym c.same_name.ensures ∙ c.if-same_name.false)
