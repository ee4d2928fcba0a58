-- All that questions 1 to 6 and 9 compute with, named once: under `unfolding computing` the answer for a given sheet is
-- computed. What stands here says nothing by itself. Assumes nothing.
use Rattle.rows.specs.Digits.{digits_upto}
use Rattle.sheet.specs.Computing as sheets
use Rattle.design.specs.Tabulate.{table_digits, table_of, tabulate}

unfoldable pub computing : Unit {0}
unfolding sheets.computing digits_upto table_digits table_of tabulate
computing = tt
