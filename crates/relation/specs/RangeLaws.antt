-- What a closure asked of all numbers below n says: `(0..n).all(|k| ..)` is true where it held of each, and false where it failed
-- at one of them. Assumes nothing.
use Rattle.std.specs.Prelude.{◌≡◌, Bool, true, false, List, ℕ, ◌+◌, ◌<◌, length, Option}
use Rattle.std.proofs.Common.{sym, ◌∙◌, subst, arith}
use Rattle.std.specs.Fn.{Called}
use Rattle.std.specs.Bool.{MatchBool}
use Rattle.std.specs.Iterator.{YieldsThen}
use Rattle.std.specs.List.{FoldsTo, AllWithin, HoldsAt, range_with_len}
use Rattle.std.specs.Option.{MatchOption}
use Rattle.std.specs.declared.ops.Range.{Range}
use Rattle.std.proofs.iter.Yields.{nat_range_steps}
use Rattle.std.proofs.lemmas.Iterator.{cases_from_all, YieldsList-from_range}
use Rattle.std.proofs.lemmas.List.FromFn.{get_or-range_with_len, length-range_with_len}
use denote.Param.Members.{Mut}
use Rattle.bits.specs.LogicLaws.{true_false}

pub all_below : {F : Type 0} {g : Mut F (ℕ × Unit {0}) Bool} {s : Range ℕ} (n : ℕ) (u : Range ℕ) (f : F) (r : Bool) (Yes No : ℕ → Type 0)
    → (xs : List ℕ) × (o : Option ℕ) × (j : F) × YieldsThen nat_range_steps s xs o u × FoldsTo (λ p x q. Called g p (x, tt) true q) f xs j
    × MatchOption o (r ≡ true) (λ x. (r ≡ false) × ((h : F) × Called g j (x, tt) false h))
    → s ≡ record { start = 0; end = n }
    → ((x : ℕ) (q : F) → Called g f (x, tt) true q → (q ≡ f) × Yes x) → ((x : ℕ) (q : F) → Called g f (x, tt) false q → No x)
    → (r ≡ true → (k : ℕ) → k < n → Yes k) × (r ≡ false → (k : ℕ) × (k < n) × No k)
all_below n u f r Yes No ran e holds fails = go r (cases_from_all u f r Yes No ran (YieldsList-from_range 0 n n e (omega arith)) holds fails)
  where
    go : (b : Bool) → MatchBool b (AllWithin Yes (range_with_len 0 n) 0 (length (range_with_len 0 n))) ((k : ℕ) × (k < length (range_with_len 0 n)) × HoldsAt No (range_with_len 0 n) k)
        → (b ≡ true → (k : ℕ) → k < n → Yes k) × (b ≡ false → (k : ℕ) × (k < n) × No k)
    go true m = (
      λ t k h. subst Yes (get_or-range_with_len 0 n k 0 h ∙ (let z : 0 + k ≡ k = omega arith in z)) (m k 0 (omega arith) (let z = length-range_with_len 0 n in omega arith)),
      λ t. absurd (true_false t),
    )
    go false m = let h : m.0 < n = (let z = length-range_with_len 0 n in let w = m.1 in omega arith) in (
      λ t. absurd (true_false (sym t)),
      λ t. (m.0, h, subst No (get_or-range_with_len 0 n m.0 0 h ∙ (let z : 0 + m.0 ≡ m.0 = omega arith in z)) (m.2 0)),
    )
