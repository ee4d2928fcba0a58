-- Question 11: no line offends exactly where the lut lines are within the limit and each node reads at most its width, and
-- the line that is found is the first that offends. Assumes nothing.
use Rattle.std.specs.Prelude.{◌≡◌, ℕ, zero, suc, ◌+◌, ◌≤◌, ◌<◌, length}
use Rattle.std.proofs.Math.Path.{refl}
use Rattle.std.proofs.Common.{sym, ap, ◌∙◌, arith, le-leb}
use mathlib.Core.List.{List, [], ◌∷◌}
use Rattle.std.proofs.Math.Option.{Option, some, none}
use Rattle.std.proofs.Math.Decide.{dec_le}
use Rattle.std.proofs.lemmas.Bool.{lt-leb}
use Rattle.limits.specs.Limits.{first_lut}
use Rattle.sheet.specs.Examine.{Design}
use Rattle.classes.specs.Width.{budget}
use Rattle.network.specs.Network.{Network, Node}
use Rattle.network.specs.Examine.{wide_node, offending}
use Rattle.network.specs.NetworkFor.{node_at}
use Rattle.network.specs.Answers.{WithinLimits, Offends, lut_over, node_over, FirstOffending}
use Rattle.network.specs.FirstOfLaws.{some_none, some_is}

module _ (d : Design) where
  -- ---- the nodes xs, the first of which is that of output o and stands on line n
  abbrev most : ℕ → ℕ
  most o = budget d d.bound o

  wide-here : (o n : ℕ) (x : Node) (xs : List Node) → most o < length x.reads → wide_node d o n (x ∷ xs) ≡ some n
  unfolding wide_node
  wide-here o n x xs h = rw (lt-leb (length x.reads) (most o) h) refl

  wide-later : (o n : ℕ) (x : Node) (xs : List Node)
      → length x.reads ≤ most o
      → wide_node d o n (x ∷ xs) ≡ wide_node d (suc o) (suc n) xs
  unfolding wide_node
  wide-later o n x xs h = rw (le-leb (length x.reads) (most o) h) refl

  -- each node reads at most its width
  abbrev Narrow : ℕ → List Node → Type 0
  Narrow o xs = (k p : ℕ) → o + k ≡ p → k < length xs → length (node_at xs k).reads ≤ most p

  narrow_more : (o : ℕ) (x : Node) (xs : List Node)
      → length x.reads ≤ most o
      → Narrow (suc o) xs
      → Narrow o (x ∷ xs)
  narrow_more o x xs h f zero p q i =
      let e : p ≡ o = omega arith in
      rw e h
  narrow_more o x xs h f (suc k) p q i = f k p (omega arith) (omega arith)

  narrow_none : (o n : ℕ) (xs : List Node) → Narrow o xs → wide_node d o n xs ≡ none
  unfolding wide_node
  narrow_none o n [] f = refl
  narrow_none o n (x ∷ xs) f =
      wide-later o n x xs (f 0 o (omega arith) (omega arith))
      ∙ narrow_none (suc o) (suc n) xs (λ k p q i. f (suc k) p (omega arith) (omega arith))

  none_narrow : (o n : ℕ) (xs : List Node) → wide_node d o n xs ≡ none → Narrow o xs
  none_narrow o n [] e = λ k p q i. absurd (omega arith)
  none_narrow o n (x ∷ xs) e =
      elim (dec_le (length x.reads) (most o)) as (λ _. Narrow o (x ∷ xs)) [
        | yes h ↦ narrow_more o x xs h (none_narrow (suc o) (suc n) xs (sym (wide-later o n x xs h) ∙ e))
        | no h ↦ absurd (some_none (sym (wide-here o n x xs (omega arith)) ∙ e))
      ]

  -- the first node that reads more, k nodes on
  record WideAt (o n : ℕ) (xs : List Node) (l : ℕ) : Type 0 where
    pub k : ℕ
    pub is_line : n + k ≡ l
    pub is-node : k < length xs
    pub wide : (p : ℕ) → o + k ≡ p → most p < length (node_at xs k).reads
    pub before : (j p : ℕ) → j < k → o + j ≡ p → length (node_at xs j).reads ≤ most p

  wide_first : (o n l : ℕ) (x : Node) (xs : List Node) → most o < length x.reads → n ≡ l → WideAt o n (x ∷ xs) l
  wide_first o n l x xs h e =
      record {
        k = 0;
        is_line = omega arith;
        is-node = omega arith;
        wide = λ p q. rw (← only p q) h;
        before = λ j p i q. absurd (omega arith);
      }
    where
      only : (p : ℕ) → o + 0 ≡ p → o ≡ p
      only p q = omega arith

  wide_more : (o n l : ℕ) (x : Node) (xs : List Node)
      → length x.reads ≤ most o
      → WideAt (suc o) (suc n) xs l
      → WideAt o n (x ∷ xs) l
  wide_more o n l x xs h s =
      record {
        k = suc s.k;
        is_line = omega (arith, s.is_line);
        is-node = omega (arith, s.is-node);
        wide = λ p q. s.wide p (omega arith);
        before = λ j p i q. go j p i q;
      }
    where
      go : (j p : ℕ) → j < suc s.k → o + j ≡ p → length (node_at (x ∷ xs) j).reads ≤ most p
      go zero p i q =
          let e : p ≡ o = omega arith in
          rw e h
      go (suc j) p i q = s.before j p (omega arith) (omega arith)

  some-wide : (o n l : ℕ) (xs : List Node) → wide_node d o n xs ≡ some l → WideAt o n xs l
  unfolding wide_node
  some-wide o n l [] e = absurd (some_none (sym e))
  some-wide o n l (x ∷ xs) e =
      elim (dec_le (length x.reads) (most o)) as (λ _. WideAt o n (x ∷ xs) l) [
        | yes h ↦ wide_more o n l x xs h (some-wide (suc o) (suc n) l xs (sym (wide-later o n x xs h) ∙ e))
        | no h ↦ wide_first o n l x xs (omega arith) (some_is (sym (wide-here o n x xs (omega arith)) ∙ e))
      ]

  -- ---- the network
  module _ (w : Network) where
    luts_over : d.limit < length w.luts → offending d w ≡ some (d.limit + first_lut)
    unfolding offending
    luts_over h = rw (lt-leb (length w.luts) d.limit h) refl

    luts-kept : length w.luts ≤ d.limit → offending d w ≡ wide_node d 0 (length w.luts + first_lut) w.nodes
    unfolding offending
    luts-kept h = rw (le-leb (length w.luts) d.limit h) refl

    pub offending_none : offending d w ≡ none → WithinLimits d w
    offending_none e =
        elim (dec_le (length w.luts) d.limit) as (λ _. WithinLimits d w) [
          | yes h ↦
              record {
                luts-within = h;
                reads-within = λ o i.
                    none_narrow 0 (length w.luts + first_lut) w.nodes (sym (luts-kept h) ∙ e) o o (omega arith) i;
              }
          | no h ↦ absurd (some_none (sym (luts_over (omega arith)) ∙ e))
        ]

    pub none_offending : WithinLimits d w → offending d w ≡ none
    none_offending f =
        luts-kept f.luts-within
        ∙ narrow_none 0 (length w.luts + first_lut) w.nodes
        (λ k p q i.
        let e : p ≡ k = omega arith in
        rw e (f.reads-within k i))

    -- ---- the first offending line
    lut_first : (l : ℕ) → d.limit < length w.luts → d.limit + first_lut ≡ l → FirstOffending d w l
    lut_first l h e =
        let o : Offends d w (d.limit + first_lut) = lut_over d.limit (omega arith) h in
        record { offends = rw e at o; first = go }
      where
        go : (m : ℕ) → Offends d w m → l ≤ m
        go m (lut_over i a b) = omega arith
        go m (node_over o a b) = omega arith

    node_first : (l : ℕ)
        → length w.luts ≤ d.limit
        → WideAt 0 (length w.luts + first_lut) w.nodes l
        → FirstOffending d w l
    node_first l h s =
        let o : Offends d w (length w.luts + first_lut + s.k) = node_over s.k s.is-node (s.wide s.k (omega arith)) in
        record { offends = rw s.is_line at o; first = go }
      where
        go : (m : ℕ) → Offends d w m → l ≤ m
        go m (lut_over i a b) = absurd (omega arith)
        go m (node_over o a b) =
            elim (dec_le s.k o) as (λ _. l ≤ m) [
              | yes c ↦ omega (arith, s.is_line)
              | no c ↦ absurd (omega (arith, s.before o o (omega arith) (omega arith)))
            ]

    pub offending-some : (l : ℕ) → offending d w ≡ some l → FirstOffending d w l
    offending-some l e =
        elim (dec_le (length w.luts) d.limit) as (λ _. FirstOffending d w l) [
          | yes h ↦ node_first l h (some-wide 0 (length w.luts + first_lut) l w.nodes (sym (luts-kept h) ∙ e))
          | no h ↦ lut_first l (omega arith) (some_is (sym (luts_over (omega arith)) ∙ e))
        ]

    -- within the limits no line offends
    within_none : WithinLimits d w → (l : ℕ) → Offends d w l → ⊥
    within_none f l (lut_over i a b) = omega (arith, f.luts-within)
    within_none f l (node_over o a b) = omega (arith, f.reads-within o a)

    pub some-offending : (l : ℕ) → FirstOffending d w l → offending d w ≡ some l
    some-offending l f = go (offending d w) refl
      where
        go : (x : Option ℕ) → offending d w ≡ x → x ≡ some l
        go none e = absurd (within_none (offending_none e) l f.offends)
        go (some m) e =
            let g = offending-some m e in
            let p : m ≡ l = omega (arith, f.first m g.offends, g.first l f.offends) in
            ap some p
