-- The shared tables of a node's list, gathered into a mask: each number is looked for in turn, and what is left of the
-- list is read from what is left of the text. Assumes nothing.
use Rattle.std.specs.Prelude.{◌≡◌, refl, Bool, true, false, List, [], ◌∷◌, ◌++◌, ℕ, zero, suc, ◌+◌, ◌-◌, ◌^◌, ◌≤◌, ◌<◌, eqb, length, drop}
use Rattle.std.proofs.Common.{sym, ap, ap₂, ◌∙◌, append_assoc, append-nil, arith, add-one, ne_eqb}
use Rattle.text.specs.Bytes.{Read, found, bad, after, eat}
use Rattle.cursor.specs.Item.{At, from}
use Rattle.cursor.specs.declared.Cursor.{Cursor}
use Rattle.network.specs.Printer.{led, lut_name}
use Rattle.network.specs.Reader.{read_reads, first_found}
use Rattle.network.specs.Numbers.{numbers_of}
use Rattle.network.specs.NumbersLaws.{numbers_with, numbers-without, mask_with, mask-without, count_with}
use Rattle.network.specs.LineAnswer.{ReadsAre}

-- numbers before those that are read
abbrev with_before : List ℕ → Read (List ℕ) → Read (List ℕ)
with_before js r = after r (λ is t. found (js ++ is) t)

-- ---- the reader always finds a list
some-reads : (first : Bool) (k i : ℕ) (s : List ℕ) → (is : List ℕ) × (t : List ℕ) × (read_reads first k i s ≡ found is t)
unfolding read_reads
some-reads first zero i s = ([], s, refl)
some-reads first (suc k) i s = go (eat (led first (lut_name i)) s) (some-reads first k (suc i) s) (λ u. some-reads false k (suc i) u)
  where
    go : (e : Read (Unit {0}))
        → ((is : List ℕ) × (t : List ℕ) × (read_reads first k (suc i) s ≡ found is t))
        → ((u : List ℕ) → (is : List ℕ) × (t : List ℕ) × (read_reads false k (suc i) u ≡ found is t))
        → (is : List ℕ) × (t : List ℕ)
        × (first_found (after e (λ _ t. after (read_reads false k (suc i) t) (λ is u. found (i ∷ is) u))) (read_reads first k (suc i) s) ≡ found is t)
    go bad h g = h
    go (found x u) h g =
        let (is, t, q) = g u in
        (i ∷ is, t, ap (λ (r : Read (List ℕ)). first_found (after r (λ is u. found (i ∷ is) u)) (read_reads first k (suc i) s)) q)

-- ---- one number more
reads-without : (first : Bool) (k i : ℕ) (s : List ℕ) → bad ≡ eat (led first (lut_name i)) s → read_reads first (suc k) i s ≡ read_reads first k (suc i) s
unfolding read_reads
reads-without first k i s e = rw (← e) refl

reads_with : (first : Bool) (k i : ℕ) (s t : List ℕ) → found tt t ≡ eat (led first (lut_name i)) s
    → read_reads first (suc k) i s ≡ with_before (i ∷ []) (read_reads false k (suc i) t)
unfolding read_reads
reads_with first k i s t e =
    let (is, u, q) = some-reads false k (suc i) t in
    rw (← e, q) refl

before_twice : (js : List ℕ) (i : ℕ) (r : Read (List ℕ)) → with_before js (with_before (i ∷ []) r) ≡ with_before (js ++ (i ∷ [])) r
before_twice js i (found is t) = ap (λ (l : List ℕ). found l t) (sym (append_assoc js (i ∷ []) is))
before_twice js i bad = refl

-- of the shared tables below u, whose list is to stand from start on, those below i were looked for
pub record Gathered (s : List ℕ) (u start at mask count i : ℕ) : Type 0 where
  pub within : i ≤ u
  pub inside : at ≤ length s
  pub small : mask < 2 ^ i
  pub few : count ≤ i
  pub counted : count ≡ length (numbers_of i mask)
  pub to_come : read_reads true u 0 (drop start s) ≡ with_before (numbers_of i mask) (read_reads (eqb count 0) (u - i) i (drop at s))

nothing_before : (r : Read (List ℕ)) → r ≡ with_before [] r
nothing_before (found is t) = refl
nothing_before bad = refl

pub gathered_none : (s : List ℕ) (u start : ℕ) → start ≤ length s → Gathered s u start start 0 0 0
unfolding numbers_of
gathered_none s u start h =
    let e : u - 0 ≡ u = omega arith in
    record {
      within = omega arith;
      inside = h;
      small = omega arith;
      few = omega arith;
      counted = refl;
      to_come = rw e (nothing_before (read_reads true u 0 (drop start s)));
    }

module _ {s : List ℕ} {u start at mask count i : ℕ} (p : Gathered s u start at mask count i) (more : i < u) where
  one_less : u - i ≡ suc (u - (i + 1))
  one_less = omega arith

  by_number : read_reads true u 0 (drop start s) ≡ with_before (numbers_of i mask) (read_reads (eqb count 0) (suc (u - (i + 1))) i (drop at s))
  by_number = p.to_come ∙ ap (λ (k : ℕ). with_before (numbers_of i mask) (read_reads (eqb count 0) k i (drop at s))) one_less

  pub gathered-without : bad ≡ eat (led (eqb count 0) (lut_name i)) (drop at s) → Gathered s u start at mask count (i + 1)
  gathered-without e =
      let f = p.few in
      record {
        within = omega arith;
        inside = p.inside;
        small = mask-without i mask p.small;
        few = omega arith;
        counted = p.counted ∙ ap length (sym (numbers-without i mask p.small));
        to_come =
            by_number ∙ ap (with_before (numbers_of i mask)) (reads-without (eqb count 0) (u - (i + 1)) i (drop at s) e)
            ∙ ap₂ (λ (js : List ℕ) (j : ℕ). with_before js (read_reads (eqb count 0) (u - (i + 1)) j (drop at s)))
            (sym (numbers-without i mask p.small)) (sym (add-one i));
      }

  pub gathered_with : {c : Cursor} → At s tt c (eat (led (eqb count 0) (lut_name i)) (drop at s)) → Gathered s u start c.at (mask + 2 ^ i) (count + 1) (i + 1)
  gathered_with {c} h =
      let f = p.few in
      record {
        within = omega arith;
        inside = h.inside;
        small = mask_with i mask p.small;
        few = omega arith;
        counted = ap (λ (n : ℕ). n + 1) p.counted ∙ sym (count_with i mask p.small);
        to_come =
            by_number ∙ ap (with_before (numbers_of i mask)) (reads_with (eqb count 0) (u - (i + 1)) i (drop at s) (from s c) h.is)
            ∙ before_twice (numbers_of i mask) i (read_reads false (u - (i + 1)) (suc i) (from s c))
            ∙ ap₂ (λ (js : List ℕ) (j : ℕ). with_before js (read_reads false (u - (i + 1)) j (from s c))) (sym (numbers_with i mask p.small)) (sym (add-one i))
            ∙ ap (λ (b : Bool). with_before (numbers_of (i + 1) (mask + 2 ^ i)) (read_reads b (u - (i + 1)) (i + 1) (from s c)))
            (sym (ne_eqb (count + 1) 0 (λ q. omega arith)));
      }

pub gathered_all : {s : List ℕ} {u start at mask count i : ℕ} → Gathered s u start at mask count i → u ≤ i
    → ReadsAre s u (record { mask = mask; count = count; next = record { at = at } }) (read_reads true u 0 (drop start s))
unfolding read_reads
gathered_all {s} {u} {start} {at} {mask} {count} {i} p h =
    let e : i ≡ u = omega (arith, p.within) in
    let none_left : u - i ≡ 0 = omega arith in
    let f = p.few in
    record {
      inside = p.inside;
      is =
          sym (p.to_come
          ∙ ap (λ (k : ℕ). with_before (numbers_of i mask) (read_reads (eqb count 0) k i (drop at s))) none_left
          ∙ ap (λ (js : List ℕ). found js (drop at s)) (append-nil (numbers_of i mask) ∙ ap (λ (n : ℕ). numbers_of n mask) e));
      counted = p.counted ∙ ap (λ (n : ℕ). length (numbers_of n mask)) e;
      few = omega arith;
    }
