-- `bound_names`: each turn adds the name at one place more. Assumes nothing.
use mathlib.Core.List.{[]}
use mathlib.Core.Path.{◌≡◌}
use Prim.Native.Nat.{ℕ}
use Rattle.names.specs.Pack.{name_of}
use Rattle.network.specs.ShownLaws.{Growing}
use Rattle.network.specs.Shown.{shown, item}
use Rattle.network.proofs.bound_names.Given as goal

abbrev pub invariant-loop-i : goal.invariant-loop-i
invariant-loop-i l = Growing (λ (p : ℕ). name_of (item l.names p)) [] l.places l.n l.i (shown l.r) × (l.r.count ≡ l.i)
