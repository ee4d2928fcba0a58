-- What may be changed in a core that serves, for any conflict: seeing the tables through a map of vertices (so that each is constant on
-- joint classes), reading more cells up to the budget, and adding idle cells. Each change keeps every pair of vertices apart that was
-- apart. Assumes nothing.
use Rattle.std.specs.Prelude.{◌≡◌, refl, Bool, true, false, not, List, [], ◌∷◌, ℕ, zero, suc, ◌+◌, ◌-◌, min, ◌≤◌, ◌<◌, ltb, length}
use Rattle.std.proofs.Common.{sym, ap, subst, inl, inr, ⊎_elim, arith, ltb-true, ltb-false}
use Rattle.bits.specs.Logic.{orb, bit}
use Rattle.bits.specs.LogicLaws.{bit_le}
use Rattle.cells.specs.Core.{Cell, Apart, reading, Serves}
use Rattle.cells.specs.Free.{retabled, filled, padded}

-- ---- a change of each cell's table
pub retabled-length : (g : Cell → ℕ → Bool) (l : List Cell) → length (retabled g l) ≡ length l
unfolding retabled
retabled-length g [] = refl
retabled-length g (c ∷ l) = ap suc (retabled-length g l)

retabled-reading : (g : Cell → ℕ → Bool) (o : ℕ) (l : List Cell) → reading o (retabled g l) ≡ reading o l
unfolding retabled reading
retabled-reading g o [] = refl
retabled-reading g o (c ∷ l) = ap (λ (n : ℕ). bit (c.readers o) + n) (retabled-reading g o l)

-- where equal new values at x' and y' come only from equal old values at x and y
retabled-apart : (g : Cell → ℕ → Bool) (o x y x' y' : ℕ) → ((c : Cell) → g c x' ≡ g c y' → c.table x ≡ c.table y) → (l : List Cell) → Apart o x y l → Apart o x' y' (retabled g l)
unfolding retabled
retabled-apart g o x y x' y' k [] a = a
retabled-apart g o x y x' y' k (c ∷ l) a = ⊎_elim (λ p. inl (p.0, λ e. p.1 (k c e))) (λ r. inr (retabled-apart g o x y x' y' k l r)) a

-- ---- seen through a map of vertices: with rep x the first vertex of x's joint class, each table is constant on joint
-- classes; with a list of representatives and back, the problem of the joint classes is the problem
pub mapped_serves : (rep : ℕ → ℕ) (v v' m : ℕ) (Conflict Conflict' : ℕ → ℕ → ℕ → Type 0) (budget : ℕ → ℕ)
    → ((x : ℕ) → x < v' → rep x < v)
    → ((o x y : ℕ) → o < m → x < v' → y < v' → Conflict' o x y → Conflict o (rep x) (rep y)) → (l : List Cell)
    → Serves v m Conflict budget l → Serves v' m Conflict' budget (retabled (λ c x. c.table (rep x)) l)
mapped_serves rep v v' m Conflict Conflict' budget b h l s = record {
  tells = λ o x y i p q k. retabled-apart (λ c x. c.table (rep x)) o (rep x) (rep y) x y (λ c e. e) l (s.tells o (rep x) (rep y) i (b x p) (b y q) (h o x y i p q k));
  within = λ o i. subst (λ (n : ℕ). n ≤ budget o) (sym (retabled-reading (λ c x. c.table (rep x)) o l)) (s.within o i);
}

-- ---- reading more: output o reads d o more cells, where there are so many
pub filled-length : (d : ℕ → ℕ) (l : List Cell) → length (filled d l) ≡ length l
unfolding filled
filled-length d [] = refl
filled-length d (c ∷ l) = ap suc (filled-length (λ (o : ℕ). d o - bit (not (c.readers o))) l)

pub filled_apart : (o x y : ℕ) (d : ℕ → ℕ) (l : List Cell) → Apart o x y l → Apart o x y (filled d l)
unfolding filled
filled_apart o x y d [] a = a
filled_apart o x y d (c ∷ l) a = ⊎_elim (λ p. inl (ap (λ (b : Bool). orb b (ltb 0 (d o))) p.0, p.1)) (λ r. inr (filled_apart o x y (λ (o : ℕ). d o - bit (not (c.readers o))) l r)) a

reading-le : (o : ℕ) (l : List Cell) → reading o l ≤ length l
unfolding reading
reading-le o [] = omega arith
reading-le o (c ∷ l) = let h = reading-le o l in let b = bit_le (c.readers o) in omega arith

pub filled-reading : (o : ℕ) (d : ℕ → ℕ) (l : List Cell) → reading o (filled d l) ≡ min (reading o l + d o) (length l)
unfolding filled reading
filled-reading o d [] = omega arith
filled-reading o d (c ∷ l) = go (c.readers o) refl (ltb 0 (d o)) refl (filled-reading o (λ (o : ℕ). d o - bit (not (c.readers o))) l) (reading-le o l)
  where
    n : ℕ
    n = reading o (filled (λ (o : ℕ). d o - bit (not (c.readers o))) l)

    go : (b : Bool) → c.readers o ≡ b → (t : Bool) → ltb 0 (d o) ≡ t
        → n ≡ min (reading o l + (d o - bit (not (c.readers o)))) (length l) → reading o l ≤ length l
        → bit (orb b t) + n ≡ min (bit b + reading o l + d o) (suc (length l))
    go true e t f ih h = let q : bit (not (c.readers o)) ≡ 0 = ap (λ (z : Bool). bit (not z)) e in omega arith
    go false e true f ih h = let q : bit (not (c.readers o)) ≡ 1 = ap (λ (z : Bool). bit (not z)) e in let k = ltb-true 0 (d o) f in omega arith
    go false e false f ih h = let q : bit (not (c.readers o)) ≡ 1 = ap (λ (z : Bool). bit (not z)) e in let k = ltb-false 0 (d o) f in omega arith

-- ---- adding idle cells
pub padded-length : (n : ℕ) (l : List Cell) → length (padded n l) ≡ n + length l
unfolding padded
padded-length zero l = omega arith
padded-length (suc n) l = let e = padded-length n l in omega arith

pub padded_serves : (n v m : ℕ) (Conflict : ℕ → ℕ → ℕ → Type 0) (budget : ℕ → ℕ) (l : List Cell) → Serves v m Conflict budget l → Serves v m Conflict budget (padded n l)
unfolding padded reading
padded_serves n v m Conflict budget l s = record {
  tells = λ o x y i p q k. apart n o x y (s.tells o x y i p q k);
  within = λ o i. subst (λ (z : ℕ). z ≤ budget o) (sym (same n o)) (s.within o i);
}
  where
    apart : (n o x y : ℕ) → Apart o x y l → Apart o x y (padded n l)
    apart zero o x y a = a
    apart (suc n) o x y a = inr (apart n o x y a)

    same : (n o : ℕ) → reading o (padded n l) ≡ reading o l
    same zero o = refl
    same (suc n) o = let e = same n o in omega arith
