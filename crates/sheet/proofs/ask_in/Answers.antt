-- `ask_in`: the names of the line, asked. Assumes nothing.
use Rattle.sheet.specs.InLaws.{in_reads}
use Rattle.sheet.proofs.ask_in.Goals as goal

pub returns : goal.returns
returns c = λ d h f.
    c.asked_in.ensures d _ (in_reads _ c.names_line.result c.names_line.ensures) h f
