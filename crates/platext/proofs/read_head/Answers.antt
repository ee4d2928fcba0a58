-- `read_head`: the five lines in their order. Assumes nothing.
use Rattle.platext.specs.HeadLaws.{no_inputs, no_outputs, no-input-names, no-output-names, no-count, head-right}
use Rattle.platext.proofs.Refused.{refused}
use Rattle.platext.proofs.read_head.Goals as goal

pub returns-in_err-i : goal.returns-in_err-i
returns-in_err-i c =
    let stop = no_inputs _ (rw c.in_err-i.ensures.ok_part at c.count_line.ensures) in
    rw (refused _ _ _ c.from_residual.ensures.1 (rw c.in_err-i.ensures.ok_part at c.in_err-i.ensures.value)) stop

pub returns-in_err-o : goal.returns-in_err-o
returns-in_err-o c =
    let i = rw c.in_ok-i.ensures.ok_part at c.count_line.ensures in
    let stop = no_outputs _ i (rw c.in_err-o.ensures.ok_part at c.count_line-2.ensures) in
    rw (refused _ _ _ c.from_residual-in_err-o.ensures.1 (rw c.in_err-o.ensures.ok_part at c.in_err-o.ensures.value)) stop

pub returns-in_err-inputs : goal.returns-in_err-inputs
returns-in_err-inputs c =
    let i = rw c.in_ok-i.ensures.ok_part at c.count_line.ensures in
    let o = rw c.in_ok-o.ensures.ok_part at c.count_line-2.ensures in
    let stop = no-input-names _ i o (rw c.in_err-inputs.ensures.ok_part at c.named_line.ensures) in
    rw (refused _ _ _ c.from_residual-in_err-inputs.ensures.1 (rw c.in_err-inputs.ensures.ok_part at c.in_err-inputs.ensures.value)) stop

pub returns-in_err-outputs : goal.returns-in_err-outputs
returns-in_err-outputs c =
    let i = rw c.in_ok-i.ensures.ok_part at c.count_line.ensures in
    let o = rw c.in_ok-o.ensures.ok_part at c.count_line-2.ensures in
    let ns = rw c.in_ok-inputs.ensures.ok_part at c.named_line.ensures in
    let stop = no-output-names _ i o ns.passed (rw c.in_err-outputs.ensures.ok_part at c.named_line-2.ensures) in
    rw (refused _ _ _ c.from_residual-in_err-outputs.ensures.1 (rw c.in_err-outputs.ensures.ok_part at c.in_err-outputs.ensures.value)) stop

pub returns-in_err-cubes : goal.returns-in_err-cubes
returns-in_err-cubes c =
    let i = rw c.in_ok-i.ensures.ok_part at c.count_line.ensures in
    let o = rw c.in_ok-o.ensures.ok_part at c.count_line-2.ensures in
    let ns = rw c.in_ok-inputs.ensures.ok_part at c.named_line.ensures in
    let ms = rw c.in_ok-outputs.ensures.ok_part at c.named_line-2.ensures in
    let stop = no-count _ i o ns.passed ms.passed (rw c.in_err-cubes.ensures.ok_part at c.count_line-3.ensures) in
    rw (refused _ _ _ c.from_residual-in_err-cubes.ensures.1 (rw c.in_err-cubes.ensures.ok_part at c.in_err-cubes.ensures.value)) stop

pub returns : goal.returns
returns c =
    let i = rw c.in_ok-i.ensures.ok_part at c.count_line.ensures in
    let o = rw c.in_ok-o.ensures.ok_part at c.count_line-2.ensures in
    let ns = rw c.in_ok-inputs.ensures.ok_part at c.named_line.ensures in
    let ms = rw c.in_ok-outputs.ensures.ok_part at c.named_line-2.ensures in
    let p = rw c.in_ok-cubes.ensures.ok_part at c.count_line-3.ensures in
    head-right _ i o ns.passed ms.passed _ p ns.listed ms.listed
