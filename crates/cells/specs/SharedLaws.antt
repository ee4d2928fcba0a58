-- What every core that tells apart says of its codes over the shared cells; the way back numbers the classes (see numbering). In a block
-- all shared cells that the output reads agree, so its classes differ in the private cells: there are at most 2 to their number. Pairs
-- of a class and a block differ in what the output reads, so there are at most 2 to the number of cells that it reads. Classes that
-- each need blocks need them side by side, so what they need adds up. Assumes nothing.
use Rattle.std.specs.Prelude.{◌≡◌, refl, Bool, true, false, List, [], ◌++◌, ◌⊎◌, length}
use Rattle.std.proofs.Common.{sym, ap, ◌∙◌, subst, inl, inr, arith, length-append}
use Prim.Native.Nat.{ℕ, zero, suc, ◌+◌, ◌^◌, ◌≤◌, ◌<◌}
use Rattle.std.proofs.Math.Decide.{ℕ_discrete}
use Rattle.bits.specs.Logic.{andb, orb}
use Rattle.bits.specs.LogicLaws.{true_false, and_true}
use Rattle.bits.specs.Digit.{on}
use Rattle.bits.specs.DigitLaws.{on_and}
use Rattle.bits.specs.Count.{count, sum}
use Rattle.cells.specs.PigeonLaws.{agree_and, and_agree, pigeon}
use Rattle.cells.specs.Core.{Within}
use Rattle.cells.specs.ListLaws.{all_append, all_map, pairs_append, pairs_map}
use Rattle.cells.specs.Lists.{All, Pairs}
use Rattle.cells.specs.Codes.{Coded, Agree}
use Rattle.cells.specs.Shared.{Split, block, shared_code, Group}

module _ (v j u : ℕ) (part cls : ℕ → ℕ → ℕ) (rows shared private : ℕ → ℕ) (sh : ℕ) (s : Split j u rows shared private sh) (f : ℕ → ℕ) (c : Coded v j (Within part cls) rows f) where
  -- a digit that o reads in a shared cell is the same in the code and in its shared part
  shared_digit : (o i x : ℕ) → o < j → on (shared o) i ≡ true → on (shared_code sh f x) i ≡ on (f x) i
  shared_digit o i x h e = on_and (f x) sh i ∙ ap (λ (b : Bool). andb (on (f x) i) b) (s.among o i h e) ∙ and_true (on (f x) i)

  same_block : (o x y : ℕ) → o < j → block shared (shared_code sh f) o x ≡ block shared (shared_code sh f) o y → Agree u (shared o) (f x) (f y)
  same_block o x y h e i l m = sym (shared_digit o i x h m) ∙ and_agree u (shared o) (shared_code sh f x) (shared_code sh f y) e i l m ∙ shared_digit o i y h m

  agree_block : (o x y : ℕ) → o < j → Agree u (rows o) (f x) (f y) → block shared (shared_code sh f) o x ≡ block shared (shared_code sh f) o y
  agree_block o x y h a = agree_and u (shared o) (shared_code sh f x) (shared_code sh f y) (s.short_shared o h) (λ i l m.
      shared_digit o i x h m ∙ a i l (s.whole o i h ∙ ap (λ (b : Bool). orb b (on (private o) i)) m) ∙ sym (shared_digit o i y h m))

  both : (o x y : ℕ) → o < j → Agree u (shared o) (f x) (f y) → Agree u (private o) (f x) (f y) → Agree u (rows o) (f x) (f y)
  both o x y h a b i l m = go (on (shared o) i) refl (on (private o) i) refl (sym (s.whole o i h) ∙ m)
    where
      go : (p : Bool) → on (shared o) i ≡ p → (q : Bool) → on (private o) i ≡ q → orb (on (shared o) i) (on (private o) i) ≡ true → on (f x) i ≡ on (f y) i
      go true ep q eq e = a i l ep
      go false ep true eq e = b i l eq
      go false ep false eq e = absurd (true_false (sym e ∙ ap (λ (t : Bool). orb t (on (private o) i)) ep ∙ eq))

  agree_class : (o x y : ℕ) → o < j → x < v → y < v → part o (cls o x) ≡ part o (cls o y) → Agree u (rows o) (f x) (f y) → cls o x ≡ cls o y
  agree_class o x y h p q e a = go (ℕ_discrete (cls o x) (cls o y))
    where
      go : Dec (cls o x ≡ cls o y) → cls o x ≡ cls o y
      go (yes d) = d
      go (no d) = absurd (c.tells o x y h p q (e, d) (agree_and u (rows o) (f x) (f y) (s.short o h) a))

  -- a block holds at most 2 to the private cells classes of one part
  pub crowd_bound : (o t k : ℕ) (xs : List ℕ) → o < j → All (λ (x : ℕ). (x < v) × (part o (cls o x) ≡ t) × (block shared (shared_code sh f) o x ≡ k)) xs
      → Pairs (λ (x y : ℕ). cls o x ≡ cls o y → ⊥) xs → length xs ≤ 2 ^ count (on (private o)) u
  crowd_bound o t k xs h a p = pigeon f (private o) u xs (pairs_map (λ (x : ℕ). (x < v) × (part o (cls o x) ≡ t) × (block shared (shared_code sh f) o x ≡ k)) (λ (x y : ℕ). cls o x ≡ cls o y → ⊥)
      (λ (x y : ℕ). Agree u (private o) (f x) (f y) → ⊥) xs
      (λ x y m n r b. r (agree_class o x y h m.0 n.0 (m.1 ∙ sym n.1) (both o x y h (same_block o x y h (m.2 ∙ sym n.2)) b))) a p)

  -- there are at most 2 to the cells read pairs of a class of one part and a block
  pub places_bound : (o t : ℕ) (xs : List ℕ) → o < j → All (λ (x : ℕ). (x < v) × (part o (cls o x) ≡ t)) xs
      → Pairs (λ (x y : ℕ). cls o x ≡ cls o y → block shared (shared_code sh f) o x ≡ block shared (shared_code sh f) o y → ⊥) xs → length xs ≤ 2 ^ count (on (rows o)) u
  places_bound o t xs h a p = pigeon f (rows o) u xs (pairs_map (λ (x : ℕ). (x < v) × (part o (cls o x) ≡ t))
      (λ (x y : ℕ). cls o x ≡ cls o y → block shared (shared_code sh f) o x ≡ block shared (shared_code sh f) o y → ⊥) (λ (x y : ℕ). Agree u (rows o) (f x) (f y) → ⊥) xs
      (λ x y m n r b. r (agree_class o x y h m.0 n.0 (m.1 ∙ sym n.1) b) (agree_block o x y h b)) a p)

-- ---- the classes of an output with Q, each in as many blocks as it needs, need as many places together
module _ (v : ℕ) (label key : ℕ → ℕ) (Q : ℕ → Type 0) where
  -- n places taken by classes below k with Q
  abbrev Gathered : ℕ → ℕ → Type 0
  Gathered k n = (xs : List ℕ) × All (λ (x : ℕ). (x < v) × (label x < k) × Q (label x)) xs × Pairs (λ (x y : ℕ). label x ≡ label y → key x ≡ key y → ⊥) xs × (n ≤ length xs)

  pub gather : (need : ℕ → ℕ) (n : ℕ) → ((l : ℕ) → l < n → (need l ≡ 0) ⊎ (Q l × Group v label key l (need l))) → Gathered n (sum need n)
  unfolding sum
  gather need zero h = ([], tt, tt, omega arith)
  gather need (suc n) h = go (gather need n (λ l k. h l (omega arith))) (h n (omega arith))
    where
      In : ℕ → ℕ → Type 0
      In k x = (x < v) × (label x < k) × Q (label x)

      R : ℕ → ℕ → Type 0
      R x y = label x ≡ label y → key x ≡ key y → ⊥

      up : (xs : List ℕ) → All (In n) xs → All (In (suc n)) xs
      up xs a = all_map (In n) (In (suc n)) xs (λ x p. (p.0, (let z = p.1 in omega arith), p.2)) a

      go : Gathered n (sum need n) → (need n ≡ 0) ⊎ (Q n × Group v label key n (need n)) → Gathered (suc n) (sum need n + need n)
      go r (inl z) = (r.0, up r.0 r.1, r.2, (let a = r.3 in omega arith))
      go r (inr (is, q)) = (
        r.0 ++ q.0,
        all_append (In (suc n)) r.0 q.0
            (up r.0 r.1)
            (all_map (λ (x : ℕ). (x < v) × (label x ≡ n)) (In (suc n)) q.0 (λ x p. (p.0, (let z = p.1 in omega arith), subst Q (sym p.1) is)) q.1),
        pairs_append R r.0 q.0 r.2
            (pairs_map (λ (x : ℕ). (x < v) × (label x ≡ n)) (λ (x y : ℕ). key x ≡ key y → ⊥) R q.0 (λ x y a b d e. d) q.1 q.2)
            (all_map (In n) (λ (x : ℕ). All (R x) q.0) r.0 (λ x a. all_map (λ (y : ℕ). (y < v) × (label y ≡ n)) (R x) q.0 (λ y b e k. let z = a.1 in let w = b.1 in omega arith)
            q.1) r.1),
        (let a = r.3 in let b = q.3 in simp length-append (omega arith)),
      )
