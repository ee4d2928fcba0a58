-- Of two designs with the same tables one is served where the other is, and their parts with the same set of outputs have the same
-- tables; so a refusal by 8 has the same cause on both. Assumes nothing.
use Rattle.std.specs.Prelude.{◌≡◌, List, ℕ, ◌≤◌, ◌<◌}
use Rattle.std.proofs.Math.Path.{sym, ap, subst}
use Rattle.std.proofs.Common.{◌∙◌}
use Rattle.std.proofs.Math.ListN.{length}
use Rattle.limits.specs.Limits.{max_classes}
use Rattle.names.specs.Name.{Name}
use Rattle.sheet.specs.Lines.{Output}
use Rattle.sheet.specs.Examine.{Design, output_names, with_outputs}
use Rattle.sheet.specs.Value.{output_on}
use Rattle.classes.specs.Classes.{global_count}
use Rattle.subsets.specs.Subset.{selected, size, member_at, SomeOf}
use Rattle.subsets.specs.SubsetLaws.{selected-map, member_below}
use Rattle.selection.specs.Selection.{part}
use Rattle.selection.specs.PartLaws.{part_count}
use Rattle.selection.specs.PartColumnLaws.{part-value}
use Rattle.mapper.specs.Cause.{Served, Cause, CauseAnswer, CauseFor, too_many_classes, mapped, refused_by_8}
use Rattle.pla.specs.SameTables.{SameTables}
use Rattle.pla.specs.SameTablesLaws.{SameValues, global_same}
use Rattle.pla.proofs.SameNetworksLaws.{formed_same, within_same, computes_same, second_is, second_values, counts_same, tables_back}

-- ---- the same network serves both
served_with : (d : Design) (ps : List Output) → output_names d.outputs ≡ output_names ps → SameValues d ps → Served d → Served (with_outputs d ps)
served_with d ps names values v =
    record {
      network = v.network;
      wellformed = formed_same d ps names values v.network v.wellformed;
      within = within_same d ps names values v.network v.within;
      computes = computes_same d ps names values v.network v.computes;
    }

served_same : {d e : Design} → SameTables d e → Served d → Served e
served_same {d = d} {e = e} h v = subst Served (second_is h) (served_with d e.outputs h.same_outputs (second_values h) v)

-- ---- the parts with the same set of outputs
module _ {d e : Design} (h : SameTables d e) (s : ℕ) where
  names_same : output_names (selected s 0 d.outputs) ≡ output_names (selected s 0 e.outputs)
  names_same =
      selected-map (λ (o : Output). o.name) s 0 d.outputs
      ∙ ap (λ (ns : List Name). selected s 0 ns) h.same_outputs
      ∙ sym (selected-map (λ (o : Output). o.name) s 0 e.outputs)

  parts_same : SameTables (part s d) (part s e)
  unfolding part
  parts_same =
      record {
        same_inputs = h.same_inputs;
        same-bound = h.same-bound;
        same_limit = h.same_limit;
        same_outputs = names_same;
        same_values = λ o r k l.
            (let m = length d.outputs in
            let i : o < size m s = subst (λ (n : ℕ). o < n) (part_count s d) k in
            let j : o < size (length e.outputs) s = subst (λ (n : ℕ). o < size n s) (counts_same h) i in
            part-value s d o i r
            ∙ h.same_values (member_at m s o) r (member_below m s o i) l
            ∙ ap (λ (n : ℕ). output_on e (member_at n s o) r) (counts_same h)
            ∙ sym (part-value s e o j r));
      }

-- ---- the cause
module _ {d e : Design} (h : SameTables d e) where
  some_back : (t : ℕ) → SomeOf (length e.outputs) t → SomeOf (length d.outputs) t
  some_back t p = subst (λ (n : ℕ). SomeOf n t) (sym (counts_same h)) p

  set_same : (s : ℕ) → Cause d s → Cause e s
  set_same s c =
      record {
        outputs = subst (λ (n : ℕ). SomeOf n s) (counts_same h) c.outputs;
        unserved = λ v. c.unserved (served_same (parts_same (tables_back h) s) v);
        smaller = λ t p q.
            served_same (parts_same h t) (c.smaller t (some_back t p) (subst (λ (n : ℕ). size n t < size n s) (sym (counts_same h)) q));
        earlier = λ t p q f.
            served_same (parts_same h t) (c.earlier t (some_back t p) (subst (λ (n : ℕ). size n t ≡ size n s) (sym (counts_same h)) q) f);
      }

  classes_same : global_count d d.bound ≡ global_count e e.bound
  classes_same =
      global_same d e.outputs h.same_outputs (second_values h) d.bound
      ∙ ap (λ (x : Design). global_count x x.bound) (second_is h)

  few_same : global_count d d.bound ≤ max_classes → global_count e e.bound ≤ max_classes
  few_same f = subst (λ (n : ℕ). n ≤ max_classes) classes_same f

  pub cause_same : (a : CauseAnswer) → CauseFor d a → CauseFor e a
  cause_same a (too_many_classes f) = too_many_classes (subst (λ (n : ℕ). max_classes < n) classes_same f)
  cause_same a (mapped f v) = mapped (few_same f) (served_same h v)
  cause_same a (refused_by_8 s f n c) =
      refused_by_8 s (few_same f) (λ v. n (served_same (tables_back h) v)) (set_same s c)
