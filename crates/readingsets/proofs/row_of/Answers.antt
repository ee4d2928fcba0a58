use Rattle.std.proofs.Common.{ℕ, ◌+◌, ◌*◌, ◌/◌, ◌%◌, ap, arith}
use Rattle.readingsets.specs.ChoiceLaws.{number_parts}
use Rattle.readingsets.proofs.row_of.Goals as goal

pub power-end-requires : goal.power-end-requires
power-end-requires c = let h = c.requires.0 in omega arith

-- the number's parts are as large as a row's, in each of the next five

pub nonzero_div-result : goal.nonzero_div-result
nonzero_div-result c = let h = number_parts c.args.u c.args.r c.power-end.result c.requires.0 c.power-end.ensures.0 c.requires.1 in omega arith

pub overflow_mul-result : goal.overflow_mul-result
overflow_mul-result c = let h = number_parts c.args.u c.args.r c.power-end.result c.requires.0 c.power-end.ensures.0 c.requires.1 in omega arith

pub nonzero_rem-result : goal.nonzero_rem-result
nonzero_rem-result c = let h = number_parts c.args.u c.args.r c.power-end.result c.requires.0 c.power-end.ensures.0 c.requires.1 in omega arith

pub overflow_add-result : goal.overflow_add-result
overflow_add-result c = let h = number_parts c.args.u c.args.r c.power-end.result c.requires.0 c.power-end.ensures.0 c.requires.1 in omega arith

pub overflow_cast-result-2 : goal.overflow_cast-result-2
overflow_cast-result-2 c = let h = number_parts c.args.u c.args.r c.power-end.result c.requires.0 c.power-end.ensures.0 c.requires.1 in omega arith

pub returns : goal.returns
returns c = ap (λ (p : ℕ). c.args.r / p * 64 + c.args.r % p) c.power-end.ensures.0
