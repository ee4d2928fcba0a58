-- An array that a function fills holds at each index what the function says of it, if no call changes what it captured.
use mathlib.Core.Path.{refl}
use Rattle.std.proofs.Common.{◌≡◌, ℕ, ◌+◌, ◌≤◌, ◌<◌, List, zero, suc, get_or, rules, arith}
use Rattle.std.specs.Array.{IsFromFnResultFrom}
use denote.Param.Members.{Mut, Called}
use Rattle.std.proofs.Math.Decide.{ℕ_discrete}
use Rattle.holding.specs.BlocksLaws.{all_ones}
use Rattle.coding.specs.Known.{Fitting}
use Rattle.readers.specs.KnownLaws.{fitted_any}
use Rattle.readers.proofs.fitting_sets.Goals as goal

module _ {F : Type 0} (g : Mut F (ℕ × Unit {0}) ℕ) (P : ℕ → ℕ → Type 0) (c : F) (called : (i x : ℕ) (d : F) → Called g c (i, tt) x d → (d ≡ c) × P i x) where
  filled : (xs : List ℕ) (i n k : ℕ) → IsFromFnResultFrom g c xs i n → i ≤ k → k < i + n → P k (get_or xs k 0)
  filled xs i zero k h a b = absurd (omega arith)
  filled xs i (suc n) k (d, x, at, call, rest) a b =
      let r = called i x d call in
      elim (ℕ_discrete k i) as (λ _. P k (get_or xs k 0)) [
        | yes e ↦ rw (e, at.1 0) r.1
        | no e ↦ filled xs (i + 1) n k (rw r.0 at rest) (omega arith) (omega arith)
      ]

pub returns-then-kn-eq0 : goal.returns-then-kn-eq0
returns-then-kn-eq0 c = let a = c.args in fitted_any a.kn a.val _ c.if-kn-eq0.true refl (all_ones 32)

pub returns-else-kn-eq0 : goal.returns-else-kn-eq0
returns-else-kn-eq0 c = let s = c.from_fn.ensures.items in record {
  long = s.long;
  fits = λ x h. filled _ (λ i r. Fitting c.args.kn c.args.val i r) _ (λ i r d k. search rules) _ 0 32 x s.each (omega arith) h;
}
