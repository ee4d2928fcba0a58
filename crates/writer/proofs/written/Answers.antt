-- `written`: four kinds of lines, one after the other, each put down through the same borrow. Assumes nothing.
use Rattle.std.proofs.Common.{◌≡◌, ◌∙◌, ap, sym, subst, List, ℕ}
use Rattle.emit.specs.Written.{Written}
use Rattle.emit.specs.PutLaws.{put_then}
use Rattle.writer.specs.declared.Writer.{Writer}
use Rattle.writer.specs.Appended.{Appended}
use Rattle.writer.specs.AppendedLaws.{after-written}
use Rattle.writer.specs.Plans.{all_lines}
use Rattle.writer.proofs.written.Goals as goal

module _ {m : ℕ} {w r : Writer} {s : List ℕ} (a : Appended m w r s) where
  put_down : Written m w.out.now r.out.now w.at r.at s
  put_down = subst (λ (x : Writer). Written m w.out.now x.out.now w.at x.at s) (sym a.moved) (after-written w s a.short)

  kept_name : r.out.ghost_name ≡ w.out.ghost_name
  kept_name = ap (λ (x : Writer). x.out.ghost_name) a.moved

pub returns : goal.returns
unfolding all_lines
returns c =
    record {
      same_borrow = kept_name c.last.ensures ∙ kept_name c.nodes.ensures ∙ kept_name c.luts.ensures ∙ kept_name c.head.ensures;
      written =
          put_then (put_down c.head.ensures)
          (put_then (put_down c.luts.ensures) (put_then (put_down c.nodes.ensures) (put_down c.last.ensures)));
    }
