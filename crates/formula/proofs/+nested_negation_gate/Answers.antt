use Rattle.std.specs.Prelude.{Some, None}
use Rattle.std.proofs.Common.{◌≡◌, refl, map, ◌-◌, false, true, arith}
use Rattle.names.specs.Pack.{name_of}
use Rattle.cursor.specs.Opening as spec
use Rattle.cursor.specs.Item.{from, gate_of}
use Rattle.formula.specs.Reader.{read_formula}
use Rattle.formula.specs.TurnLaws.{byte_shorter, spelled_shorter}
use Rattle.formula.specs.WalkLaws.{part_read, walk_start, walk_closed, walk_short, joined_falls, negation_is}
use Rattle.formula.specs.OpenedLaws.{opened_falls, name_is, digit_is, negation_opened, gate_is, nothing_is}
use Rattle.formula.proofs.WalkStep.{walk_step, walk_broken}
use Rattle.formula.proofs.+nested_negation_gate.Goals as goal

-- ---- nested
pub nested-returns-in_err-n : goal.nested-returns-in_err-n
nested-returns-in_err-n t c =
    let a = c.args in
    nothing_is a.left a.s.now (map name_of a.inputs.now) a.c.at _ c.in_err-n.ensures c.from_residual-in_err-n.ensures

pub nested-negation-requires : goal.nested-negation-requires
nested-negation-requires t c =
    let h = rw c.in-Not.is at c.in_ok-n.ensures in
    omega (arith, h.inside, opened_falls c.args.s.now c.args.c.at spec.not-opens c.in-Not.next h)

pub nested-gate-requires : goal.nested-gate-requires
nested-gate-requires t c =
    let h = rw c.in-Gate.is at c.in_ok-n.ensures in
    omega (arith, h.inside, opened_falls c.args.s.now c.args.c.at (spec.gate_opens (gate_of c.in-Gate.g)) c.in-Gate.next h)

pub nested-returns-in-Name : goal.nested-returns-in-Name
nested-returns-in-Name t c =
    let a = c.args in
    name_is a.left a.s.now (map name_of a.inputs.now) a.c.at c.in-Name.next c.input.result (name_of c.in-Name.n)
    (rw c.in-Name.is at c.in_ok-n.ensures) c.input.ensures

pub nested-returns-in-Digit : goal.nested-returns-in-Digit
nested-returns-in-Digit t c =
    let a = c.args in
    digit_is a.left a.s.now (map name_of a.inputs.now) a.c.at c.in-Digit.next c.constant.result c.in-Digit.b
    (rw c.in-Digit.is at c.in_ok-n.ensures) c.constant.ensures

pub nested-returns-in-Not : goal.nested-returns-in-Not
nested-returns-in-Not t c =
    let a = c.args in
    negation_opened (a.left - 1) a.left (omega arith) a.s.now (map name_of a.inputs.now) a.c.at c.in-Not.next c.negation.result
    (rw c.in-Not.is at c.in_ok-n.ensures) c.negation.ensures

pub nested-returns-in-Gate : goal.nested-returns-in-Gate
nested-returns-in-Gate t c =
    let a = c.args in
    gate_is (a.left - 1) a.left (omega arith) a.s.now (map name_of a.inputs.now) a.c.at c.in-Gate.next c.gate.result (gate_of c.in-Gate.g)
    (rw c.in-Gate.is at c.in_ok-n.ensures) c.gate.ensures

-- ---- negation
pub negation-returns : goal.negation-returns
negation-returns t c =
    let a = c.args in
    negation_is a.left a.s.now (map name_of a.inputs.now) (read_formula (from a.s.now a.c)) (Some c.in_ok-nested.field-0) (Some c.negated.result) c.closed.result
    c.requires.1 c.in_ok-nested.ensures c.negated.ensures c.closed.ensures

-- ---- gate
pub gate-returns-in_err-next : goal.gate-returns-in_err-next
gate-returns-in_err-next t c =
    let a = c.args in
    let ns = map name_of a.inputs.now in
    let q = read_formula (from a.s.now a.c) in
    let p = c.in_ok-sum.sum in
    walk_short a.left a.s.now ns (gate_of a.g) q (Some p) _ (walk_start a.left a.s.now ns (gate_of a.g) q (Some p) c.in_ok-sum.ensures) c.in_err-next.ensures
    c.from_residual-in_err-next.ensures

pub gate-loop-sum-init : goal.gate-loop-sum-init
gate-loop-sum-init t c =
    let a = c.args in
    let ns = map name_of a.inputs.now in
    let u = from a.s.now a.c in
    let p = c.in_ok-sum.sum in
    let h = c.in_ok-next.ensures in (
      record { inside = h.inside; spaced = h.is; enough = false; walked = walk_start a.left a.s.now ns (gate_of a.g) (read_formula u) (Some p) c.in_ok-sum.ensures },
      omega (
        arith,
        byte_shorter _ (from a.s.now p.next) (from a.s.now c.in_ok-next.next) h.is,
        spelled_shorter u (from a.s.now p.next) (part_read a.left a.s.now ns (read_formula u) (Some p) c.in_ok-sum.ensures),
      ),
    )

pub gate-returns-in_err-nested : goal.gate-returns-in_err-nested
gate-returns-in_err-nested t c =
    let a = c.args in
    let w = c.loop-sum.invariant.0 in
    rw c.from_residual-in_err-nested.ensures
    (walk_broken a.left a.s.now (map name_of a.inputs.now) (gate_of a.g) (read_formula (from a.s.now a.c)) c.loop-sum.sum w.enough (from a.s.now c.loop-sum.next)
    w.walked w.spaced c.in_err-nested.ensures)

pub gate-loop-sum-smaller : goal.gate-loop-sum-smaller
gate-loop-sum-smaller t c =
    let a = c.args in
    let v = from a.s.now c.loop-sum.next in
    let r = c.joined-sum.result in
    omega (
      arith,
      byte_shorter _ (from a.s.now r.next) (from a.s.now c.in-Some.further) c.in-Some.ensures.is,
      joined_falls a.left a.s.now (map name_of a.inputs.now) (gate_of a.g) v c.loop-sum.sum c.in_ok-nested.field-0 r c.in_ok-nested.ensures c.joined-sum.ensures,
    )

pub gate-loop-sum-preserved : goal.gate-loop-sum-preserved
gate-loop-sum-preserved t c =
    let a = c.args in
    let ns = map name_of a.inputs.now in
    let g = gate_of a.g in
    let i = c.loop-sum in
    let w = i.invariant.0 in
    let v = from a.s.now i.next in
    let f = c.in_ok-nested.field-0 in
    let r = c.joined-sum.result in
    let h = c.in-Some.ensures in (
      record {
        inside = h.inside;
        spaced = h.is;
        enough = true;
        walked = walk_step a.left a.s.now ns g (read_formula (from a.s.now a.c)) i.sum (Some f) (Some r) w.enough v w.walked w.spaced
            c.in_ok-nested.ensures c.joined-sum.ensures;
      },
      omega (
        arith,
        i.invariant.1,
        byte_shorter _ (from a.s.now r.next) (from a.s.now c.in-Some.further) h.is,
        joined_falls a.left a.s.now ns g v i.sum f r c.in_ok-nested.ensures c.joined-sum.ensures,
      ),
    )

pub gate-returns-in-None : goal.gate-returns-in-None
gate-returns-in-None t c =
    let a = c.args in
    let ns = map name_of a.inputs.now in
    let g = gate_of a.g in
    let q = read_formula (from a.s.now a.c) in
    let i = c.loop-sum in
    let w = i.invariant.0 in
    let f = c.in_ok-nested.field-0 in
    let r = c.joined-sum.result in
    let after = walk_step a.left a.s.now ns g q i.sum (Some f) (Some r) w.enough (from a.s.now i.next) w.walked w.spaced
    c.in_ok-nested.ensures c.joined-sum.ensures in
    walk_closed a.left a.s.now ns g q (Some r) c.closed.result c.requires.1 after c.in-None.ensures c.closed.ensures
