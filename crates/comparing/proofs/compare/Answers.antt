use Rattle.std.proofs.Common.{refl, sym, ◌∙◌, arith}
use Rattle.sheet.specs.Known.{table_at}
use Rattle.comparing.specs.CompareLaws.{rows_few, agreed_none, rows_none, agreed_more, ended_agreed}
use Rattle.comparing.specs.CompareLaws.{answer_differs, answer_same, some_ready}
use Rattle.comparing.proofs.RowLaws.{rows_more, ended_differs}
use Rattle.comparing.proofs.compare.Goals as goal

pub loop-o-init : goal.loop-o-init
loop-o-init c = agreed_none

pub in_rows-digits-requires : goal.in_rows-digits-requires
in_rows-digits-requires c = some_ready c.requires c.loop-o.o c.loop-o-test.true

pub loop-r-init : goal.loop-r-init
loop-r-init c = rows_none c.loop-o.o

pub differs-requires : goal.differs-requires
differs-requires c = omega (arith, rows_few c.requires c.power-rows.result c.power-rows.ensures, c.loop-r-test.true)

pub loop-r-preserved : goal.loop-r-preserved
loop-r-preserved c = rows_more c.loop-o.o c.loop-r.r c.power-rows.result
    (table_at c.args.k.tables c.loop-o.o) c.in_rows-digits.result
    c.loop-o-test.true c.loop-r-test.true c.power-rows.ensures (rows_few c.requires c.power-rows.result c.power-rows.ensures)
    refl c.in_rows-digits.ensures c.loop-r.invariant (sym c.differs.ensures ∙ c.if-differs.false)

pub loop-o-preserved : goal.loop-o-preserved
loop-o-preserved c = agreed_more c.loop-o.o c.loop-r.r c.power-rows.result c.loop-o.invariant
    c.loop-o-test.true c.power-rows.ensures c.loop-r.invariant c.loop-r-test.false

pub returns-then-differs : goal.returns-then-differs
returns-then-differs c =
    let e = ended_differs c.loop-o.o c.loop-r.r c.power-rows.result
    (table_at c.args.k.tables c.loop-o.o) c.in_rows-digits.result
    c.loop-o-test.true c.loop-r-test.true c.power-rows.ensures (rows_few c.requires c.power-rows.result c.power-rows.ensures)
    refl c.in_rows-digits.ensures c.loop-o.invariant c.loop-r.invariant (sym c.differs.ensures ∙ c.if-differs.true) in
    answer_differs c.loop-o.o c.loop-r.r e c.loop-o-test.true

pub returns : goal.returns
returns c = answer_same c.loop-o.o 0 (ended_agreed c.loop-o.o 0 c.loop-o.invariant c.loop-o-test.false) c.loop-o-test.false
