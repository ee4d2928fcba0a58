-- What the search found, written out, is the first of the permitted networks: the core of a permitted network serves, is 0 at
-- vertex 0 and has as many cells, so its tables come no sooner than those found; and where it has these tables, each of its
-- nodes reads what comes no sooner. Assumes nothing.
use Rattle.std.specs.Prelude.{◌≡◌, refl, true, List, ℕ, ◌≤◌, ◌<◌, length}
use Rattle.std.proofs.Common.{sym, ap₂, ◌∙◌, subst}
use Rattle.limits.specs.Limits.{max_cells}
use Rattle.order.specs.Total.{NotLess}
use Rattle.cells.specs.CodesLaws.{cells-length}
use Rattle.order.specs.Order.{table_order, tables_order}
use Rattle.sheet.specs.Examine.{Design}
use Rattle.sheet.specs.WellFormed.{WellFormed}
use Rattle.classes.specs.Proper.{Proper}
use Rattle.classes.specs.ProperLaws.{proper_of}
use Rattle.network.specs.Network.{Network}
use Rattle.network.specs.NetworkFor.{node_at}
use Rattle.network.specs.NamedLaws.{design-named}
use Rattle.cells.specs.Core.{Cell, Serves, Differ, core_of}
use Rattle.cells.specs.Written.{tables_of, reads_of}
use Rattle.problem.specs.Problem.{label_at, item}
use Rattle.first.specs.First.{FirstCore, Answered}
use Rattle.serving.specs.NetworkCore.{network_core}
use Rattle.serving.specs.Tells.{core-length}
use Rattle.serving.specs.Build.{built}
use Rattle.serving.specs.TheoremA.{built-luts, parts_of}
use Rattle.serving.proofs.Serves.{drawn_serves}
use Rattle.lineorder.specs.NodeOrder.{reads_order}
use Rattle.lineorder.proofs.ChosenOrder.{chosen_order}
use Rattle.lineorder.specs.CoreDigits.{network_tables, built_tables, network_zero, reads-length, network-reads, built_core_reads}
use Rattle.lineorder.specs.First.{Settled}
use Rattle.lineorder.proofs.FirstReads.{first_from_reads}
use Rattle.mapper.specs.Map.{Permitted, First}
use Rattle.mapper.specs.PermittedLaws.{permitted_count, permitted_reads}
use Rattle.mapper.specs.Posed.{Given}
use Rattle.mapper.specs.MapLaws.{to_labels, found_permitted}

pub permitted_settled : (d : Design) (w : Network) → Proper d → Permitted d w → Settled (Permitted d) d (length w.luts)
permitted_settled d w f q = record {
  uniform = record { wellformed = λ v p. p.wellformed; counted = λ v p. permitted_count d v w p q };
  computes = λ v p. p.computes;
  reads-alike = λ v x o p r l. permitted_reads d v x o f p r l;
  blank = λ v o p l. record { unproduced = λ j g. p.unproduced o j l g };
}

module _ (d : Design) (cl budgets : List ℕ) (v m limit : ℕ) (g : Given d cl budgets v m limit) (f : WellFormed d)
    (u : ℕ) (rows codes : List ℕ) (a : Answered cl budgets v m limit true u rows codes) (few : u ≤ max_cells) where
  abbrev core : List Cell
  core = core_of u (item rows) (item codes)

  abbrev found : Network
  found = built d u (item rows) (item codes)

  permitted : Permitted d found
  permitted = found_permitted d cl budgets v m limit g f u rows codes a few

  leads : FirstCore v m (Differ (label_at cl)) (item budgets) core
  leads = a.first refl

  -- the core of a permitted network is one of those that the search considered
  drawn : (w : Network) → Permitted d w → Serves v m (Differ (label_at cl)) (item budgets) (network_core w)
  drawn w p =
      to_labels d cl budgets v m limit g (network_core w) (drawn_serves d w (proper_of d f) p.wellformed p.within p.computes)

  drawn_length : (w : Network) → Permitted d w → length (network_core w) ≡ length core
  drawn_length w p =
      core-length w
      ∙ permitted_count d w found p permitted
      ∙ built-luts d u (item rows) (item codes)
      ∙ sym (cells-length u 0 (item rows) (item codes))

  drawn_tables : (w : Network) → Permitted d w → tables_of v (network_core w) ≡ w.luts
  drawn_tables w p = subst (λ (n : ℕ). tables_of n (network_core w) ≡ w.luts) (sym g.vertices) (network_tables d w p.wellformed)

  found_tables : tables_of v core ≡ found.luts
  found_tables =
      subst (λ (n : ℕ). tables_of n core ≡ found.luts) (sym g.vertices) (built_tables d u (item rows) (item codes))

  tables_first : (w : Network) → Permitted d w → NotLess (tables_order w.luts found.luts)
  tables_first w p =
      subst NotLess (ap₂ tables_order (drawn_tables w p) found_tables)
      (leads.tables (network_core w) (drawn_length w p) (drawn w p) (network_zero w p.zero_first))

  reads_first : (w : Network) (o : ℕ)
      → Permitted d w
      → w.luts ≡ found.luts
      → o < length d.outputs
      → NotLess (reads_order (node_at w.nodes o).reads (node_at found.nodes o).reads)
  reads_first w o p e h =
      let is = (node_at w.nodes o).reads in
      let js = (node_at found.nodes o).reads in
      let bs = reads_of o (network_core w) in
      let cs = reads_of o core in
      let long : length bs ≡ length cs = reads-length o (network_core w) ∙ drawn_length w p ∙ sym (reads-length o core) in
      let digits : reads_order is js ≡ table_order cs bs =
      sym (ap₂ reads_order (network-reads d w o p.wellformed h) (built_core_reads d u (item rows) (item codes) o h))
      ∙ chosen_order 0 bs cs long in
      subst NotLess (sym digits)
      (leads.reads (network_core w) o (subst (λ (n : ℕ). o < n) (sym g.outputs) h) (drawn w p)
      (drawn_tables w p ∙ e ∙ sym found_tables))

  pub found_first : First d found
  found_first = record {
    permitted = permitted;
    none_before =
        first_from_reads (Permitted d) d (length found.luts) found (design-named d f)
        (parts_of d.inputs d.bound (proper_of d f).parted) (permitted_settled d found (proper_of d f) permitted) permitted
        tables_first reads_first;
  }
