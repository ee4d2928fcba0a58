-- Two lists of cells put together: a pair is told apart by both together exactly when one of the lists tells it apart, and what
-- an output reads of each adds up. Assumes nothing.
use Rattle.std.specs.Prelude.{◌≡◌, List, [], ◌∷◌, ◌++◌, ◌⊎◌, ℕ, ◌+◌}
use Rattle.std.proofs.Common.{inl, inr, ⊎_elim, arith}
use Rattle.cells.specs.Core.{Cell, Apart, reading}

pub reading-append : (o : ℕ) (l k : List Cell) → reading o (l ++ k) ≡ reading o l + reading o k
unfolding reading
reading-append o [] k = omega arith
reading-append o (c ∷ l) k = let e = reading-append o l k in omega arith

pub apart-append : (o x y : ℕ) (l k : List Cell) → Apart o x y (l ++ k) → Apart o x y l ⊎ Apart o x y k
apart-append o x y [] k a = inr a
apart-append o x y (c ∷ l) k (inl p) = inl (inl p)
apart-append o x y (c ∷ l) k (inr r) = ⊎_elim (λ a. inl (inr a)) inr (apart-append o x y l k r)

pub apart_left : (o x y : ℕ) (l k : List Cell) → Apart o x y l → Apart o x y (l ++ k)
apart_left o x y [] k a = absurd a
apart_left o x y (c ∷ l) k (inl p) = inl p
apart_left o x y (c ∷ l) k (inr r) = inr (apart_left o x y l k r)

pub apart_right : (o x y : ℕ) (l k : List Cell) → Apart o x y k → Apart o x y (l ++ k)
apart_right o x y [] k a = a
apart_right o x y (c ∷ l) k a = inr (apart_right o x y l k a)
