-- Theorem A from networks to cores: a network that has a design's value on every row, each node within its budget, has a core
-- that serves. Assumes nothing.
use Rattle.std.specs.Prelude.{◌≡◌, true, ℕ, ◌+◌, ◌^◌, ◌≤◌, ◌<◌, length}
use Rattle.std.proofs.Math.Path.{sym}
use Rattle.std.proofs.Common.{subst}
use Rattle.std.proofs.Math.Logic.{⊎_elim}
use native.Mathlib.Omega.{arith}
use Rattle.sheet.specs.Examine.{Design}
use Rattle.sheet.specs.Value.{output_on}
use Rattle.cells.specs.Core.{Apart, reading}
use Rattle.classes.specs.Columns.{vertex_count}
use Rattle.classes.specs.Width.{budget}
use Rattle.network.specs.Network.{Network}
use Rattle.network.specs.Value.{network_on}
use Rattle.serving.specs.NetworkCore.{node_of, has, network_core, Conflicts, ServesDesign}
use Rattle.serving.specs.Parts.{Parts, Columns}
use Rattle.serving.specs.Tells.{one-column, codes_or_apart, apart_cell, tally_has, reading_tally}
use Rattle.classes.specs.Proper.{Proper}
use Rattle.network.specs.NetworkFor.{NetworkFor}
use Rattle.network.specs.Answers.{WithinLimits, Computes}
use Rattle.serving.specs.TheoremA.{parts_of, columns_of, rising_has}

-- ---- every value right: conflicting vertices are apart
module _ (d : Design) (w : Network) (p : Parts d.inputs d.bound) (q : Columns d)
    (right : (o r : ℕ) → o < length d.outputs → r < 2 ^ length d.inputs → network_on d w o r ≡ output_on d o r)
    (known : (o i : ℕ) → o < length d.outputs → has i (node_of w o).reads ≡ true → i < length w.luts) where
  network_tells : (o x y : ℕ) → o < length d.outputs → x < vertex_count d.bound → y < vertex_count d.bound → Conflicts d o x y → Apart o x y (network_core w)
  unfolding network_core
  network_tells o x y h a b f =
      ⊎_elim
      (λ e. absurd ((q.conflict_at o x y f).2 (one-column d w p right o x y h a b e (q.conflict_at o x y f).0 (q.conflict_at o x y f).1)))
      (λ n. apart_cell w o x y (length w.luts) 0 n.0 (omega arith) (subst (λ (k : ℕ). n.0 < k) (sym (zero-plus (length w.luts))) (known o n.0 h n.1)) n.1 n.2)
      (codes_or_apart w (node_of w o).reads x y)
    where
      zero-plus : (k : ℕ) → 0 + k ≡ k
      zero-plus k = omega arith

-- ---- how many cells an output reads
network-reading : (w : Network) (o : ℕ) → reading o (network_core w) ≤ length (node_of w o).reads
unfolding network_core
network-reading w o =
    let a = tally_has (node_of w o).reads (length w.luts) 0 in
    let b = reading_tally w o (length w.luts) 0 in
    omega arith

-- Theorem A, one way: a network with the design's value on every row, each node within its budget, has a core that serves
pub network_serves : (d : Design) (w : Network) → Parts d.inputs d.bound → Columns d
    → ((o r : ℕ) → o < length d.outputs → r < 2 ^ length d.inputs → network_on d w o r ≡ output_on d o r)
    → ((o i : ℕ) → o < length d.outputs → has i (node_of w o).reads ≡ true → i < length w.luts)
    → ((o : ℕ) → o < length d.outputs → length (node_of w o).reads ≤ budget d d.bound o)
    → ServesDesign d (network_core w)
network_serves d w p q right known within =
    record {
      tells = network_tells d w p q right known;
      within = λ o h. (let a = network-reading w o in let b = within o h in omega arith);
    }

pub drawn_serves : (d : Design) (w : Network) → Proper d → NetworkFor d w → WithinLimits d w → Computes d w → ServesDesign d (network_core w)
drawn_serves d w p f l c =
    network_serves d w (parts_of d.inputs d.bound p.parted) (columns_of d) c.agrees
    (λ o i h e. rising_has i (f.node_fits o (subst (λ (n : ℕ). o < n) (sym f.node_each) h)).rises e)
    (λ o h. l.reads-within o (subst (λ (n : ℕ). o < n) (sym f.node_each) h))
