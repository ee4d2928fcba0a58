-- `input`: the name's place among the inputs decides. Assumes nothing.
use Rattle.std.specs.Prelude.{Some, None}
use Rattle.std.proofs.Common.{refl, sym, arith}
use Rattle.rows.specs.WordLaws.{rowwise_same}
use Rattle.formula.specs.LookupLaws.{found_inside, found_among, found-row, nowhere_among, nowhere_row}
use Rattle.formula.proofs.input.Goals as goal

pub overflow_sub-inputs : goal.overflow_sub-inputs
overflow_sub-inputs c = omega (arith, found_inside c.args.inputs.now c.args.n c.in-Some.i (Some c.in-Some.i) c.in-Some.ensures refl)

pub overflow_sub-inputs-in-Some : goal.overflow_sub-inputs-in-Some
overflow_sub-inputs-in-Some c = omega (arith, found_inside c.args.inputs.now c.args.n c.in-Some.i (Some c.in-Some.i) c.in-Some.ensures refl)

pub returns-in-Some : goal.returns-in-Some
returns-in-Some c =
    let vs = c.args.inputs.now in
    let v = c.args.n in
    let i = c.in-Some.i in
    record {
      moved = refl;
      flat = refl;
      named = sym (found_among vs v i (Some i) c.in-Some.ensures refl);
      each = rowwise_same c.input.ensures (λ r l. sym (found-row vs v i (Some i) c.in-Some.ensures refl r));
    }

pub returns-in-None : goal.returns-in-None
returns-in-None c =
    let vs = c.args.inputs.now in
    let v = c.args.n in
    record {
      moved = refl;
      flat = refl;
      named = sym (nowhere_among vs v None c.in-None.ensures refl);
      each = rowwise_same c.constant.ensures (λ r l. sym (nowhere_row vs v None c.in-None.ensures refl r));
    }
