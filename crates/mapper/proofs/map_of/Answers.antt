-- `map_of`: one law for each way out. Assumes nothing.
use Rattle.std.proofs.Common.{arith, Ok}
use Rattle.sheet.specs.Examine as spec
use Rattle.sheet.specs.declared.Sheet.{Sheet}
use Rattle.design.specs.Answer.{ExaminedIs, Right}
use Rattle.design.specs.TableLaws.{valid_here}
use Rattle.mapper.specs.MapStepLaws.{designed, asked, map_classes, writer_ready, map_none, map_short, map-written}
use Rattle.mapper.specs.Posed.{Asked}
use Rattle.mapper.proofs.map_of.Goals as goal
use Rattle.mapper.proofs.map_of.Goals.{In-Some}

-- what was asked of the search, of each answer that the examination's holds
module _ (c : In-Some) where
  asks : (x : spec.Examined) → ExaminedIs x c.args.e → Right x → Asked x c.in_ok-k.k c.in-Some.p
  asks x h r = asked x c.in_ok-k.k c.in-Some.p (rw c.in_ok-k.was at h) r c.in-Some.ensures

  found : Asked c.requires.found c.in_ok-k.k c.in-Some.p
  found = asks c.requires.found c.requires.is c.requires.right

pub pose-requires : goal.pose-requires
pose-requires c = designed c.requires.found c.in_ok-k.k (rw c.in_ok-k.was at c.requires.is) c.requires.right

pub returns-in_default : goal.returns-in_default
returns-in_default c = λ x h r. map_classes x c.in_ok-k.k c.args.buffer.now (rw c.in_ok-k.was at h) r c.in_default.ensures

pub overflow_cast-k : goal.overflow_cast-k
overflow_cast-k c = let small = (found (goal.at.overflow_cast-k c).In-Some).holds.limit_small in
    omega arith

pub first-found-requires : goal.first-found-requires
first-found-requires c = let ready = (found (goal.at.first-found-requires c).In-Some).poses.ready in
    (ready.classes, ready.few_vertices, ready.few_outputs, ready.few_cells)

pub returns-in_default-found : goal.returns-in_default-found
returns-in_default-found c = λ x h r.
    map_none (asks (goal.at.returns-in_default-found c).In-Some x h r) c.args.buffer.now c.in_default-found.ensures

pub put_network-n-requires : goal.put_network-n-requires
put_network-n-requires c = writer_ready (found (goal.at.put_network-n-requires c).In-Some) c.in-Some-found.ensures

pub returns-then-buffer-n : goal.returns-then-buffer-n
returns-then-buffer-n c = λ x h r.
    (let s = asks (goal.at.returns-then-buffer-n c).In-Some x h r in
    let put = c.put_network-n.ensures s.design s.holds s.proper s.poses.shaped in
    map_short s c.args.buffer.now _ c.in-Some-found.ensures put.0 c.if-buffer-n.true)

pub put_network-length-requires : goal.put_network-length-requires
put_network-length-requires c = writer_ready (found (goal.at.put_network-length-requires c).In-Some) c.in-Some-found.ensures

pub returns : goal.returns
returns c = λ x h r.
    (let s = asks (goal.at.returns c).In-Some x h r in
    let tried = c.put_network-n.ensures s.design s.holds s.proper s.poses.shaped in
    let put = c.put_network-length.ensures s.design s.holds s.proper s.poses.shaped in
    map-written s c.args.buffer.now _ _ _ c.in-Some-found.ensures tried.0 c.if-buffer-n.false put.0 put.1)
