-- `count`: what the chain lets through of the numbers below u is the list of the mask's numbers. Assumes nothing.
use Rattle.std.proofs.Common.{◌≡◌, refl, ℕ, zero, suc, ◌+◌, Bool, true, false, cond, List, [], ◌∷◌, ◌++◌, length, ap, ap₂, sym, ◌∙◌, arith, rules, tests, add-zero}
use Rattle.std.specs.List.{range_with_len, filter}
use Rattle.std.proofs.lemmas.Iterator.{YieldsList-from_range}
use Rattle.std.proofs.lemmas.Iterator.Consumers.{YieldsList-from_filter, count_from_yields_List}
use Rattle.std.proofs.lemmas.List.Elements.{filter-append}
use Rattle.bits.specs.Digit.{on}
use Rattle.bits.specs.Logic.{pick}
use Rattle.network.specs.Numbers.{numbers_of}
use Rattle.checker.proofs.count.Goals as goal

range_more : (a n : ℕ) → range_with_len a (suc n) ≡ range_with_len a n ++ ((a + n) ∷ [])
range_more a zero = rw add-zero refl
range_more a (suc n) =
    ap (λ (l : List ℕ). a ∷ l)
    (range_more (a + 1) n ∙ ap (λ (k : ℕ). range_with_len (a + 1) n ++ (k ∷ [])) (next a n))
  where
    next : (a n : ℕ) → (a + 1) + n ≡ a + suc n
    next a n = omega arith

last_kept : (b : Bool) (u : ℕ) → cond b (u ∷ []) [] ≡ pick b (u ∷ []) []
last_kept true u = refl
last_kept false u = refl

numbers_kept : (m u : ℕ) → filter (on m) (range_with_len 0 u) ≡ numbers_of u m
unfolding numbers_of
numbers_kept m zero = refl
numbers_kept m (suc u) =
    ap (filter (on m)) (range_more 0 u ∙ ap (λ (k : ℕ). range_with_len 0 u ++ (k ∷ [])) (none_before u))
    ∙ filter-append (on m) (range_with_len 0 u) (u ∷ [])
    ∙ ap₂ (λ (s t : List ℕ). s ++ t) (numbers_kept m u) (last_kept (on m u) u)
  where
    none_before : (u : ℕ) → 0 + u ≡ u
    none_before u = omega arith

pub returns : goal.returns
returns c =
    let m = c.args.mask in
    let u = c.args.u in
    count_from_yields_List c.filter.result c.count.result c.count.ensures.ran
    (YieldsList-from_filter _ (on m) (YieldsList-from_range 0 u u c.filter.ensures.source (omega arith)) c.filter.ensures.closure (λ x r q k. search (rules, tests)))
    ∙ ap length (numbers_kept m u)
