-- `out_line`: the head of the line, the name, the space, the formula and the bracket, each where the one before ends. Assumes nothing.
use Rattle.std.proofs.Common.{map, sym, Some, None}
use Rattle.text.specs.Bytes.{bytes}
use Rattle.names.specs.Pack.{name_of}
use Rattle.cursor.specs.MovedLaws.{moved-start}
use Rattle.cursor.specs.Item.{from}
use Rattle.sheet.specs.OutLineLaws.{out_no_head, out_no_name, out-no-space, out-after, out-no-formula, out-unclosed, out-closed}
use Rattle.sheet.proofs.out_line.Goals as goal

pub returns-in_err-c : goal.returns-in_err-c
returns-in_err-c c =
    let l = c.args.l.now in
    let ns = map name_of c.args.inputs.now in
    rw c.from_residual.ensures (out_no_head l ns (moved-start l (bytes "(out ") None c.start.result c.start.ensures c.in_err-c.ensures))

pub returns-in_err-name : goal.returns-in_err-name
returns-in_err-name c =
    let l = c.args.l.now in
    let ns = map name_of c.args.inputs.now in
    let head = moved-start l (bytes "(out ") (Some c.in_ok-c.c) c.start.result c.start.ensures c.in_ok-c.ensures in
    rw c.from_residual-in_err-name.ensures (out_no_name l ns head c.in_err-name.ensures)

pub returns-in_err-f : goal.returns-in_err-f
returns-in_err-f c =
    let l = c.args.l.now in
    let ns = map name_of c.args.inputs.now in
    let head = moved-start l (bytes "(out ") (Some c.in_ok-c.c) c.start.result c.start.ensures c.in_ok-c.ensures in
    rw c.from_residual-in_err-f.ensures (out-no-space l ns head c.in_ok-name.ensures c.in_err-f.ensures)

pub returns-in_err-p : goal.returns-in_err-p
returns-in_err-p c =
    let l = c.args.l.now in
    let ns = map name_of c.args.inputs.now in
    let head = moved-start l (bytes "(out ") (Some c.in_ok-c.c) c.start.result c.start.ensures c.in_ok-c.ensures in
    rw c.from_residual-in_err-p.ensures
    (out-after l ns head c.in_ok-name.ensures None c.in_ok-f.ensures
    (out-no-formula l ns c.in_ok-name.name (from l c.in_ok-f.f) c.in_err-p.ensures))

pub returns-then-not-closes : goal.returns-then-not-closes
returns-then-not-closes c =
    let l = c.args.l.now in
    let ns = map name_of c.args.inputs.now in
    let head = moved-start l (bytes "(out ") (Some c.in_ok-c.c) c.start.result c.start.ensures c.in_ok-c.ensures in
    out-after l ns head c.in_ok-name.ensures None c.in_ok-f.ensures
    (out-unclosed l ns c.in_ok-p.p c.in_ok-name.name (from l c.in_ok-f.f) c.in_ok-p.ensures (sym c.if-not-closes.ensures))

pub returns : goal.returns
returns c =
    let l = c.args.l.now in
    let ns = map name_of c.args.inputs.now in
    let head = moved-start l (bytes "(out ") (Some c.in_ok-c.c) c.start.result c.start.ensures c.in_ok-c.ensures in
    out-after l ns head c.in_ok-name.ensures _ c.in_ok-f.ensures
    (out-closed l ns c.in_ok-p.p c.in_ok-name.name (from l c.in_ok-f.f) c.in_ok-p.ensures (sym c.if-not-closes.ensures))
