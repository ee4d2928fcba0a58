-- The names of a proper design that its sheet holds, as the code gathers them for the lines to come. Assumes nothing.
use Rattle.std.specs.Prelude.{◌≡◌, map, ℕ, ◌≤◌, take}
use Rattle.std.proofs.Common.{ap₂, ◌∙◌, arith}
use Rattle.names.specs.Pack.{name_of}
use Rattle.sheet.specs.Examine.{Design}
use Rattle.sheet.specs.Known.{Holds}
use Rattle.sheet.specs.declared.Sheet.{Sheet}
use Rattle.classes.specs.Columns.{free}
use Rattle.network.specs.Shown.{item, shown}
use Rattle.network.specs.HeldNameLaws.{bound-named}
use Rattle.network.specs.declared.Names.{Names}
use Rattle.netsheet.specs.Named.{Ranged, NamedFor}

pub holds_ranged : (d : Design) (k : Sheet) → Holds d k → Ranged k
holds_ranged d k h = record { few_inputs = h.inputs_few; few_bound = h.bound_few; few_outputs = h.outputs_few }

pub names_gathered : (k : Sheet) → Ranged k → (bs fs : Names)
    → shown bs ≡ map (λ (p : ℕ). name_of (item k.names p)) (take k.bounds k.bound) → bs.count ≡ k.bounds
    → shown fs ≡ free (map name_of (take k.inputs k.names)) (shown bs) → fs.count ≤ k.inputs
    → NamedFor k (record { bounds = bs.count; bound = bs.list; frees = fs.count; free = fs.list; outputs = k.outputs; outs = k.outs })
names_gathered k r bs fs bound_is counted free_is few =
    record {
      counts = record { few_bound = omega (arith, r.few_bound); few_free = omega (arith, r.few_inputs); few_outputs = r.few_outputs };
      right = λ d h p.
          let named : shown bs ≡ d.bound = bound_is ∙ bound-named d k h p in
          record {
            bound-named = named;
            bound-counted = counted ∙ h.bound-counted;
            free-named = free_is ∙ ap₂ free h.inputs_named named;
            outs_named = h.outputs_named;
            outs_counted = h.outputs_counted;
          };
    }
