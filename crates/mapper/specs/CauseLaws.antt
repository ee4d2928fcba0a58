-- From the search to the cause: cells serve a set of a design's outputs exactly where they serve the design with these outputs, so
-- the first set that no cells within the limit serve is the cause. Assumes nothing.
use Rattle.std.proofs.Math.Path.{sym, subst}
use Rattle.std.proofs.Common.{◌∙◌, arith}
use Rattle.std.specs.Prelude.{List, ℕ, ◌≤◌, ◌<◌, length}
use Rattle.bits.specs.LogicLaws.{true_false, true_unless}
use Rattle.limits.specs.Limits.{max_cells}
use Rattle.sheet.specs.Examine.{Design}
use Rattle.sheet.specs.WellFormed.{WellFormed}
use Rattle.classes.specs.ProperLaws.{proper_of}
use Rattle.classes.specs.Proper.{Proper}
use Rattle.classes.specs.Columns.{vertex_count, conflict}
use Rattle.classes.specs.VertexLaws.{local_no_conflict, no_conflict_local}
use Rattle.cells.specs.Core.{Cell, core_of, reading}
use Rattle.cells.specs.Codes.{row_of, code_of}
use Rattle.serving.specs.NetworkCore.{network_core, ServesDesign}
use Rattle.serving.specs.Tells.{core-length}
use Rattle.serving.specs.Build.{built}
use Rattle.serving.specs.TheoremA.{built_wellformed, built-within}
use Rattle.serving.proofs.Serves.{drawn_serves}
use Rattle.serving.proofs.Computes.{built_computes}
use Rattle.subsets.specs.Subset.{member_at, SomeOf}
use Rattle.subsets.specs.SubsetLaws.{member_below, all-some}
use Rattle.selection.specs.Selection.{part}
use Rattle.selection.specs.PartLaws.{part_count, part_all}
use Rattle.selection.specs.PartRightLaws.{part_well_formed}
use Rattle.selection.specs.PartColumnLaws.{part-conflict, part-budget}
use Rattle.unserved.specs.Unserved.{ServesSet, Fits, Lacking, FirstLacking, every_output}
use Rattle.mapper.specs.Posed.{Given}
use Rattle.mapper.specs.CoreNumberLaws.{core-numbered}
use Rattle.mapper.specs.Cause.{Served, Cause}

-- the search was given the design's classes and budgets
module _ (d : Design) (cl bs : List ℕ) (g : Given d cl bs (vertex_count d.bound) (length d.outputs) d.limit) where
  abbrev Serving : ℕ → List Cell → Type 0
  Serving s l = ServesSet cl bs (vertex_count d.bound) (length d.outputs) s l

  abbrev Fitting : ℕ → Type 0
  Fitting s = Fits cl bs (vertex_count d.bound) (length d.outputs) d.limit s

  abbrev Unfitting : ℕ → Type 0
  Unfitting s = Lacking cl bs (vertex_count d.bound) (length d.outputs) d.limit s

  -- ---- the set, and the design with its outputs
  set_serves : (s : ℕ) (l : List Cell) → Serving s l → ServesDesign (part s d) l
  unfolding part
  set_serves s l p =
      record {
        tells = λ j x y h a b e.
            (let k = subst (λ (n : ℕ). j < n) (part_count s d) h in
            let o = member_at (length d.outputs) s j in
            let i = member_below (length d.outputs) s j k in
            p.tells j x y k a b
            (λ q. true_false
            (sym e ∙ part-conflict s d j k d.bound x y
            ∙ local_no_conflict d d.bound o x y (sym (g.labels o x i a) ∙ q ∙ g.labels o y i b))));
        within = λ j h.
            (let k = subst (λ (n : ℕ). j < n) (part_count s d) h in
            let i = member_below (length d.outputs) s j k in
            subst (λ (n : ℕ). reading j l ≤ n) (g.budgeted (member_at (length d.outputs) s j) i ∙ sym (part-budget s d j k d.bound))
            (p.within j k));
      }

  serves_set : (s : ℕ) (l : List Cell) → ServesDesign (part s d) l → Serving s l
  unfolding part
  serves_set s l p =
      record {
        tells = λ j x y k a b n.
            (let h = subst (λ (n : ℕ). j < n) (sym (part_count s d)) k in
            let o = member_at (length d.outputs) s j in
            let i = member_below (length d.outputs) s j k in
            p.tells j x y h a b
            (true_unless (conflict (part s d) d.bound j x y)
            (λ e. n
            (g.labels o x i a
            ∙ no_conflict_local d d.bound o x y (sym (part-conflict s d j k d.bound x y) ∙ e)
            ∙ sym (g.labels o y i b)))));
        within = λ j k.
            (let h = subst (λ (n : ℕ). j < n) (sym (part_count s d)) k in
            let i = member_below (length d.outputs) s j k in
            subst (λ (n : ℕ). reading j l ≤ n) (part-budget s d j k d.bound ∙ sym (g.budgeted (member_at (length d.outputs) s j) i))
            (p.within j h));
      }

  -- ---- cells within the limit, and networks
  module _ (f : WellFormed d) (few : d.limit ≤ max_cells) where
    proper : (s : ℕ) → SomeOf (length d.outputs) s → Proper (part s d)
    proper s p = proper_of (part s d) (part_well_formed s d f p)

    fits_served : (s : ℕ) → SomeOf (length d.outputs) s → Fitting s → Served (part s d)
    unfolding part
    fits_served s p q =
        let l = q.cells in
        let within = q.few in
        let serves : ServesDesign (part s d) (core_of (length l) (row_of l) (code_of l))
        = subst (ServesDesign (part s d)) (sym (core-numbered l)) (set_serves s l q.serves) in
        record {
          network = built (part s d) (length l) (row_of l) (code_of l);
          wellformed = built_wellformed (part s d) (length l) (row_of l) (code_of l) (omega (arith, within, few));
          within = built-within (part s d) (length l) (row_of l) (code_of l) within serves;
          computes = built_computes (part s d) (length l) (row_of l) (code_of l) (proper s p) serves;
        }

    lacking_unserved : (s : ℕ) → SomeOf (length d.outputs) s → Unfitting s → Served (part s d) → ⊥
    unfolding part
    lacking_unserved s p q w =
        let serves = drawn_serves (part s d) w.network (proper s p) w.wellformed w.within w.computes in
        let more = q.none (network_core w.network) (serves_set s (network_core w.network) serves) in
        let cells = core-length w.network in
        let most = w.within.luts-within in
        omega (arith, more, cells, most)

    -- ---- all outputs
    every_some : SomeOf (length d.outputs) (every_output (length d.outputs))
    every_some = all-some (length d.outputs) f.some-output

    pub every_served : Fitting (every_output (length d.outputs)) → Served d
    every_served q = subst Served (part_all d) (fits_served (every_output (length d.outputs)) every_some q)

    pub every_unserved : Unfitting (every_output (length d.outputs)) → Served d → ⊥
    every_unserved q w = lacking_unserved (every_output (length d.outputs)) every_some q (subst Served (sym (part_all d)) w)

    -- ---- the first set
    pub first_cause : (s : ℕ) → FirstLacking cl bs (vertex_count d.bound) (length d.outputs) d.limit s → Cause d s
    first_cause s q =
        record {
          outputs = q.outputs;
          unserved = lacking_unserved s q.outputs q.lacking;
          smaller = λ t p h. fits_served t p (q.smaller t p h);
          earlier = λ t p h e. fits_served t p (q.earlier t p h e);
        }
