-- `put_entries`: each turn puts the entries of one code more. Assumes nothing.
use Prim.Native.Nat.{ℕ}
use lib.ListN.{length}
use Rattle.bits.specs.Values.{values_upto}
use Rattle.network.specs.Printer.{print_digits}
use Rattle.emit.specs.UptoLaws.{Texts}
use Rattle.netnames.specs.Listed.{vertex_at}
use Rattle.netlines.specs.Lines.{cell_on}
use Rattle.netlines.proofs.put_entries.Given as goal

abbrev pub invariant-loop-c : goal.invariant-loop-c
invariant-loop-c l = Texts (λ (k : ℕ). print_digits (values_upto (cell_on l.t l.vertex l.free (vertex_at l.firsts k)) (length l.free))) (length l.free) l.count l.initial.buf l.buf l.at l.p l.c
