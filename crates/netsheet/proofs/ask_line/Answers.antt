-- `ask_line`: each place has its line. Assumes nothing.
use mathlib.Core.Bool.{Bool}
use Rattle.std.proofs.Common.{None}
use mathlib.Core.Path.{ap, ◌∙◌, subst}
use Rattle.netsheet.specs.declared.Place.{Place}
use Rattle.netsheet.specs.Reading.{moved, PlaceFits}
use Rattle.netsheet.specs.AskLaws.{safe_moved, network_line_lem, luts_line, node_line, count_line, end_line_lem, over_line}
use Rattle.netsheet.proofs.ask_line.Goals as goal

pub ask_node-requires : goal.ask_node-requires
ask_node-requires c = let pre = c.requires in
    let o : PlaceFits (Place.Node c.in-Node.o) = subst (λ (x : Place). PlaceFits x) c.in-Node.is pre.1.fits in
    (pre.0, pre.1.few, o, pre.2)

pub returns-in-Network : goal.returns-in-Network
returns-in-Network c = let a = c.args in
    let is = c.onward.ensures ∙ ap (λ (b : Bool). moved a.s b Place.Luts) c.equal.ensures in (
      safe_moved a.s c.onward.result _ Place.Luts is c.requires.1.few tt,
      λ t d w q n kn some-outputs. network_line_lem a.l.now t d w a.s c.onward.result kn c.in-Network.is is,
    )

pub returns-in-Luts : goal.returns-in-Luts
returns-in-Luts c = let a = c.args in (
  c.ask_lut.ensures.0,
  λ t d w q n kn some-outputs. luts_line a.l.now t d w a.s c.ask_lut.result kn c.in-Luts.is
      (λ none_yet. c.ask_lut.ensures.1 t d w q n kn.held none_yet some-outputs),
)

pub returns-in-Node : goal.returns-in-Node
returns-in-Node c = let a = c.args in (
  c.ask_node.ensures.0,
  λ t d w q n kn some-outputs. node_line a.l.now t d w a.s c.ask_node.result kn c.in-Node.o c.in-Node.is (λ here below. c.ask_node.ensures.1 t d w q n kn.held here below),
)

pub returns-in-Count : goal.returns-in-Count
returns-in-Count c = let a = c.args in
    let is = c.onward-in-Count.ensures ∙ ap (λ (b : Bool). moved a.s b Place.End) c.is_count.ensures in (
      safe_moved a.s c.onward-in-Count.result _ Place.End is c.requires.1.few tt,
      λ t d w q n kn some-outputs. count_line a.l.now t d w a.s c.onward-in-Count.result kn c.in-Count.is is,
    )

pub returns-in-End : goal.returns-in-End
returns-in-End c = let a = c.args in
    let is = c.onward-in-End.ensures ∙ ap (λ (b : Bool). moved a.s b Place.Over) c.equal-in-End.ensures in (
      safe_moved a.s c.onward-in-End.result _ Place.Over is c.requires.1.few tt,
      λ t d w q n kn some-outputs. end_line_lem a.l.now t d w a.s c.onward-in-End.result kn c.in-End.is is,
    )

pub returns-in-Over : goal.returns-in-Over
returns-in-Over c = let a = c.args in
    (tt, λ t d w q n kn some-outputs. over_line a.l.now t d w a.s None kn c.in-Over.is)
