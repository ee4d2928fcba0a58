-- `as_operator`: each operator word by its number, and no other number holds one. Assumes nothing.
use Rattle.std.proofs.Common.{arith}
use Rattle.text.specs.Bytes.{same}
use Rattle.names.specs.Name.{operator}
use Rattle.names.specs.Pack.{unpack_within, name_of}
use Rattle.names.proofs.Operators.{operator_of, operator_none}
use Rattle.names.proofs.as_operator.Goals as goal

pub returns-in-7630702 : goal.returns-in-7630702
unfolding operator name_of unpack_within same
returns-in-7630702 c = operator_of c.in-7630702.is

pub returns-in-6581857 : goal.returns-in-6581857
unfolding operator name_of unpack_within same
returns-in-6581857 c = operator_of c.in-6581857.is

pub returns-in-29295 : goal.returns-in-29295
unfolding operator name_of unpack_within same
returns-in-29295 c = operator_of c.in-29295.is

pub returns-in-7499640 : goal.returns-in-7499640
unfolding operator name_of unpack_within same
returns-in-7499640 c = operator_of c.in-7499640.is

pub returns-in_default : goal.returns-in_default
returns-in_default c = operator_none c.args.w c.ranges.w.fits (omega arith) (omega arith) (omega arith) (omega arith)
