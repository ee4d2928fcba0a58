-- Why a cache loses no answer: it says "no codes" only of what was found to have none, in the rows that it holds, and a larger
-- set of outputs has none either. What is written over an entry replaces what it said; the other entries stay. Entries whose
-- rows don't read cell 0 stay true whatever is known of that cell, and the others are taken out. Assumes nothing.
use Rattle.std.specs.Prelude.{◌≡◌, ℕ, suc, ◌+◌, ◌-◌, ◌*◌, ◌/◌, ◌%◌, ◌^◌, ◌<◌, Bool, true, false, not, List, length, ◌==◌, ◌≢◌, bit_and, bit_or, nat_eq, slice_set, refl}
use Rattle.std.proofs.Common.{sym, ap, ◌∙◌, subst, ⊎_elim, arith, length-set, get_or-set_same, get_or-set_other}
use Rattle.std.proofs.Math.Decide.{ℕ_discrete, dec_lt}
use Rattle.bits.specs.LogicLaws.{and_both, never_both}
use Rattle.bits.specs.Digit.{digit, on}
use Rattle.bits.specs.DigitLaws.{on_and, on_or_one, on_or_none, on_zero, on_above, on_complement}
use Rattle.bits.specs.CountLaws.{less_or_equal}
use Rattle.problem.specs.Problem.{item}
use Rattle.subproblems.specs.Subproblem.{Barred}
use Rattle.subproblems.specs.SubproblemLaws.{barred_more}
use Rattle.subproblems.specs.UnreadLaws.{barred_unread}
use Rattle.cache.specs.Cache.{head_at, row_at, Honest, Written, Joined, Unread}

-- ======== an entry written
pub written_start : (old : List ℕ) (i : ℕ) (rows : List ℕ) → Written old i rows 0 old
written_start old i rows = record { long = refl; heads = λ k d. refl; others = λ k q d h. refl; mine = λ q h. absurd (omega arith) }

module _ (old : List ℕ) (i : ℕ) (rows : List ℕ) (o : ℕ) (mem : List ℕ) (b : length old ≡ 18432) (h : i < 2048) (l : o < 8) (s : Written old i rows o mem) where
  pub written_more : (n x : ℕ) → n ≡ i * 9 + suc o → x ≡ item rows o → Written old i rows (o + 1) (slice_set mem n x)
  written_more n x e f = record {
    long = length-set mem n x ∙ s.long;
    heads = λ k d. get_or-set_other mem n (k * 9) x 0 (λ q. let z : k * 9 ≡ n = q in omega arith) ∙ s.heads k d;
    others = λ k q d c. get_or-set_other mem n (k * 9 + suc q) x 0 (λ p. d (let z : k * 9 + suc q ≡ n = p in omega arith)) ∙ s.others k q d c;
    mine = λ q c. go q (ℕ_discrete q o) c;
  }
    where
      go : (q : ℕ) → Dec (q ≡ o) → q < o + 1 → row_at (slice_set mem n x) i q ≡ item rows q
      go q (yes p) c = ap (item (slice_set mem n x)) (let z : i * 9 + suc q ≡ n = omega arith in z) ∙ get_or-set_same mem n x 0 (let z = s.long in omega arith) ∙ f ∙ ap (item rows) (sym p)
      go q (no p) c = get_or-set_other mem n (i * 9 + suc q) x 0 (λ w. p (let z : i * 9 + suc q ≡ n = w in omega arith)) ∙ s.mine q
          (omega arith)

-- ======== an entry without its head
module _ (mem : List ℕ) (i : ℕ) where
  less_same : length mem ≡ 18432 → i < 2048 → head_at (slice_set mem (i * 9) 0) i ≡ 0
  less_same b h = get_or-set_same mem (i * 9) 0 0 (omega arith)

  less_other : (k : ℕ) → (k ≢ i) → head_at (slice_set mem (i * 9) 0) k ≡ head_at mem k
  less_other k d = get_or-set_other mem (i * 9) (k * 9) 0 0 (λ p. d (let z : k * 9 ≡ i * 9 = p in omega arith))

  less_rows : (k q : ℕ) → q < 8 → row_at (slice_set mem (i * 9) 0) k q ≡ row_at mem k q
  less_rows k q h = get_or-set_other mem (i * 9) (k * 9 + suc q) 0 0 (λ p. let z : k * 9 + suc q ≡ i * 9 = p in omega arith)

  -- the first entries that say nothing are one more
  pub less_heads : length mem ≡ 18432 → i < 2048 → ((k : ℕ) → k < i → head_at mem k ≡ 0) → (k : ℕ) → k < i + 1 → head_at (slice_set mem (i * 9) 0) k ≡ 0
  less_heads b h s k l = go (ℕ_discrete k i)
    where
      go : Dec (k ≡ i) → head_at (slice_set mem (i * 9) 0) k ≡ 0
      go (yes p) = ap (head_at (slice_set mem (i * 9) 0)) p ∙ less_same b h
      go (no d) = less_other k d ∙ s k (omega arith)

-- ======== entries whose rows don't read cell 0
pub joined-start : (mem : List ℕ) (i : ℕ) → Joined mem i 0 0
joined-start mem i = record { unread = λ e q h. absurd (omega arith) }

pub joined_more : (mem : List ℕ) (i o all row : ℕ) → row ≡ row_at mem i o → Joined mem i o all → Joined mem i (o + 1) (bit_or all row)
joined_more mem i o all row e s = record { unread = λ f q h. go f q h (on row 0) refl }
  where
    go : on (bit_or all row) 0 ≡ false → (q : ℕ) → q < o + 1 → (b : Bool) → on row 0 ≡ b → on (row_at mem i q) 0 ≡ false
    go f q h true r = absurd (never_both (on_or_one all row 0 r) f)
    go f q h false r = ⊎_elim (s.unread (sym (on_or_none all row 0 r) ∙ f) q)
        (λ p. subst (λ (q : ℕ). on (row_at mem i q) 0 ≡ false) (sym p) (ap (λ (z : ℕ). on z 0) (sym e) ∙ r)) (less_or_equal q o (omega arith))

pub joined_all : (mem : List ℕ) (i all : ℕ) → Joined mem i 8 all → (all % 2 == 1) ≡ false → (o : ℕ) → o < 8 → on (row_at mem i o) 0 ≡ false
unfolding on digit
joined_all mem i all s e = s.unread (ap (λ (z : ℕ). nat_eq z 1) (let z : all / 1 % 2 ≡ all % 2 = omega arith in z) ∙ e)

pub unread_start : (old : List ℕ) → Unread old 0 old
unread_start old = record { long = refl; heads = λ k e. refl; rows = λ k q h. refl; unread = λ k q h. absurd (omega arith) }

module _ (old : List ℕ) (i : ℕ) (mem : List ℕ) (s : Unread old i mem) where
  pub unread_same : ((q : ℕ) → q < 8 → on (row_at mem i q) 0 ≡ false) → Unread old (i + 1) mem
  unread_same off = record {
    long = s.long;
    heads = s.heads;
    rows = s.rows;
    unread = λ k q h odd l. ⊎_elim (λ b. s.unread k q b odd l) (λ p. subst (λ (k : ℕ). on (row_at mem k q) 0 ≡ false) (sym p) (off q l)) (less_or_equal k i (omega arith));
  }

  pub unread_less : length old ≡ 18432 → i < 2048 → Unread old (i + 1) (slice_set mem (i * 9) 0)
  unread_less b h = record {
    long = length-set mem (i * 9) 0 ∙ s.long;
    heads = λ k odd. let d = other k odd in less_other mem i k d ∙ s.heads k (ap (λ (z : ℕ). z % 2) (sym (less_other mem i k d)) ∙ odd);
    rows = λ k q l. less_rows mem i k q l ∙ s.rows k q l;
    unread = λ k q c odd l.
        let d = other k odd in
        ap (λ (z : ℕ). on z 0) (less_rows mem i k q l)
        ∙ s.unread k q (below k d c) (ap (λ (z : ℕ). z % 2) (sym (less_other mem i k d)) ∙ odd) l;
  }
    where
      other : (k : ℕ) → head_at (slice_set mem (i * 9) 0) k % 2 ≡ 1 → k ≢ i
      other k odd p = let x = less_same mem i (s.long ∙ b) h in let y = ap (head_at (slice_set mem (i * 9) 0)) p in omega arith

      below : (k : ℕ) → (k ≢ i) → k < i + 1 → k < i
      below k d c = ⊎_elim (λ l. l) (λ p. absurd (d p)) (less_or_equal k i (omega arith))

module _ (cl given : List ℕ) (kn val v : ℕ) where
  -- a cache that says nothing
  pub honest_empty : (mem : List ℕ) → length mem ≡ 18432 → ((i : ℕ) → i < 2048 → head_at mem i ≡ 0) → Honest cl given kn val v mem
  honest_empty mem long z = record { long = long; bad = λ i h e. absurd (let q = z i h in omega arith) }

  pub honest_start : (mem : List ℕ) → length mem ≡ 18432 → ((i : ℕ) → item mem i ≡ 0) → Honest cl given kn val v mem
  honest_start mem long z = honest_empty mem long (λ i h. z (i * 9))

  -- what an odd head and its rows say
  pub honest_found : (mem : List ℕ) (i a : ℕ) (rows : List ℕ) → i < 2048 → head_at mem i ≡ a * 2 + 1 → ((o : ℕ) → o < 8 → row_at mem i o ≡ item rows o)
      → Honest cl given kn val v mem → Barred cl given kn val v a (item rows)
  honest_found mem i a rows h e same s = barred_more cl given kn val v (head_at mem i / 2) a (row_at mem i) (item rows)
      (λ o b. subst (λ (z : ℕ). on z o ≡ true) (let z : head_at mem i / 2 ≡ a = omega arith in z)) (λ o b q. same o b)
      (s.bad i h (let z : head_at mem i % 2 ≡ 1 = omega arith in z))

  -- an entry with the same head and rows as one of an honest cache
  kept : (old mem : List ℕ) (k : ℕ) → k < 2048 → head_at mem k ≡ head_at old k → ((q : ℕ) → q < 8 → row_at mem k q ≡ row_at old k q)
      → Honest cl given kn val v old → head_at mem k % 2 ≡ 1 → Barred cl given kn val v (head_at mem k / 2) (row_at mem k)
  kept old mem k h e same s odd = barred_more cl given kn val v (head_at old k / 2) (head_at mem k / 2) (row_at old k) (row_at mem k)
      (λ o b. subst (λ (z : ℕ). on (z / 2) o ≡ true) (sym e)) (λ o b q. sym (same o b))
      (s.bad k h (ap (λ (z : ℕ). z % 2) (sym e) ∙ odd))

  -- the rows of entry i and then its head: what it says is known
  pub honest_written : (old mem : List ℕ) (i a w : ℕ) (ok : Bool) (rows : List ℕ) → i < 2048 → (ok ≡ true → w ≡ a * 2) → (ok ≡ false → w ≡ a * 2 + 1)
      → Written old i rows 8 mem → (ok ≡ false → Barred cl given kn val v a (item rows)) → Honest cl given kn val v old
      → Honest cl given kn val v (slice_set mem (i * 9) w)
  honest_written old mem i a w ok rows h good bad s b honest = record {
    long = length-set mem (i * 9) w ∙ s.long ∙ honest.long;
    bad = λ k l. at k l (ℕ_discrete k i) ok refl;
  }
    where
      new : head_at (slice_set mem (i * 9) w) i ≡ w
      new = get_or-set_same mem (i * 9) w 0 (let z = s.long in let y = honest.long in omega arith)

      row : (k q : ℕ) → q < 8 → row_at (slice_set mem (i * 9) w) k q ≡ row_at mem k q
      row k q l = get_or-set_other mem (i * 9) (k * 9 + suc q) w 0 (λ p. let z : k * 9 + suc q ≡ i * 9 = p in omega arith)

      at : (k : ℕ) → k < 2048 → Dec (k ≡ i) → (b : Bool) → ok ≡ b → head_at (slice_set mem (i * 9) w) k % 2 ≡ 1
          → Barred cl given kn val v (head_at (slice_set mem (i * 9) w) k / 2) (row_at (slice_set mem (i * 9) w) k)
      at k l (no d) c e odd = kept old (slice_set mem (i * 9) w) k l
          (get_or-set_other mem (i * 9) (k * 9) w 0 (λ p. d (let z : k * 9 ≡ i * 9 = p in omega arith)) ∙ s.heads k d)
          (λ q g. row k q g ∙ s.others k q d g) honest odd
      at k l (yes p) true e odd = absurd (let x = good e in let y = new in let z = ap (head_at (slice_set mem (i * 9) w)) p in omega arith)
      at k l (yes p) false e odd = subst (λ (k : ℕ). Barred cl given kn val v (head_at (slice_set mem (i * 9) w) k / 2) (row_at (slice_set mem (i * 9) w) k)) (sym p)
          (barred_more cl given kn val v a (head_at (slice_set mem (i * 9) w) i / 2) (item rows) (row_at (slice_set mem (i * 9) w) i)
          (λ o g. subst (λ (z : ℕ). on z o ≡ true) (let x = bad e in let y = new in let z : a ≡ head_at (slice_set mem (i * 9) w) i / 2 = omega arith in z))
          (λ o g q. sym (row i o g ∙ s.mine o g)) (b e))

  -- an entry that says nothing any more
  pub honest_less : (mem : List ℕ) (i : ℕ) → i < 2048 → Honest cl given kn val v mem → Honest cl given kn val v (slice_set mem (i * 9) 0)
  honest_less mem i h s = record {
    long = length-set mem (i * 9) 0 ∙ s.long;
    bad = λ k l. at k l (ℕ_discrete k i);
  }
    where
      at : (k : ℕ) → k < 2048 → Dec (k ≡ i) → head_at (slice_set mem (i * 9) 0) k % 2 ≡ 1 → Barred cl given kn val v (head_at (slice_set mem (i * 9) 0) k / 2) (row_at (slice_set mem (i * 9) 0) k)
      at k l (yes p) odd = absurd (let y = less_same mem i s.long h in let z = ap (head_at (slice_set mem (i * 9) 0)) p in omega arith)
      at k l (no d) odd = kept mem (slice_set mem (i * 9) 0) k l (less_other mem i k d) (less_rows mem i k) s odd

  -- what is said of subproblems that don't read cell 0 holds whatever is known of it
  pub honest_unread : (kn' val' : ℕ) (old mem : List ℕ) → (on kn 0 ≡ true → on val 0 ≡ false) → Unread old 2048 mem → Honest cl given kn val v old → Honest cl given kn' val' v mem
  honest_unread kn' val' old mem free s honest = record {
    long = s.long ∙ honest.long;
    bad = λ k h odd. barred_unread cl given kn val kn' val' v (head_at mem k / 2) (row_at mem k) free (λ q l. s.unread k q h odd l)
        (kept old mem k h (s.heads k odd) (s.rows k) honest odd);
  }

  -- what no codes answer for a set of outputs, none answer for a larger one
  pub barred_among : (a among : ℕ) (rows : ℕ → ℕ) → ((o : ℕ) → on a o ≡ true → on among o ≡ true) → Barred cl given kn val v a rows → Barred cl given kn val v among rows
  barred_among a among rows sub s = barred_more cl given kn val v a among rows rows (λ o h. sub o) (λ o h e. refl) s

-- ======== sets of outputs
pub within_of : (a among : ℕ) → a < 256 → among < 256 → bit_and a (2 ^ 8 - 1 - among) ≡ 0 → (o : ℕ) → on a o ≡ true → on among o ≡ true
within_of a among h l e o i = go (dec_lt o 8) (on among o) refl
  where
    go : Dec (o < 8) → (b : Bool) → on among o ≡ b → on among o ≡ true
    go c true q = q
    go (no d) false q = absurd (never_both i (on_above 8 a o h (omega arith)))
    go (yes d) false q = absurd (never_both
        (on_and a (2 ^ 8 - 1 - among) o ∙ and_both (on a o) (on (2 ^ 8 - 1 - among) o) i (on_complement 8 among o l d ∙ ap not q))
        (ap (λ (z : ℕ). on z o) e ∙ on_zero o))
