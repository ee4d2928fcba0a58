-- Cores that are too small to serve. One cell has two values, so it cannot tell three vertices apart pairwise; and of three
-- outputs that read one cell each, two read the same where there are two cells only. Assumes nothing.
use Rattle.std.specs.Prelude.{◌≡◌, refl, Bool, true, false, List, [], ◌∷◌, ◌⊎◌, ℕ, ◌+◌, ◌≤◌, length}
use Rattle.std.proofs.Common.{sym, ap, ◌∙◌, inl, inr, ⊎_elim, arith}
use Rattle.bits.specs.LogicLaws.{true_false}
use Rattle.bits.specs.Logic.{bit}
use Rattle.cells.specs.Core.{Cell, Apart, reading}

-- a cell has two values at x and y
abbrev Tells : Cell → ℕ → ℕ → Type 0
Tells c x y = c.table x ≡ c.table y → ⊥

-- ---- one cell at least
pub one_cell : (l : List Cell) (o x y : ℕ) → Apart o x y l → 1 ≤ length l
one_cell [] o x y a = absurd a
one_cell (c ∷ l) o x y a = omega arith

-- ---- two cells at least, where three vertices are told apart pairwise, by whichever outputs
three_values : (p q r : Bool) → (p ≡ q → ⊥) → (p ≡ r → ⊥) → (q ≡ r → ⊥) → ⊥
three_values true true r f g h = f refl
three_values true false true f g h = g refl
three_values true false false f g h = h refl
three_values false false r f g h = f refl
three_values false true false f g h = g refl
three_values false true true f g h = h refl

apart_tells : (c : Cell) (o x y : ℕ) → Apart o x y (c ∷ []) → Tells c x y
apart_tells c o x y a = ⊎_elim (λ p. p.1) (λ n. absurd n) a

pub two_cells : (l : List Cell) (o p q x y z : ℕ) → Apart o x y l → Apart p x z l → Apart q y z l → 2 ≤ length l
two_cells [] o p q x y z f g h = absurd f
two_cells (c ∷ []) o p q x y z f g h =
    absurd (three_values (c.table x) (c.table y) (c.table z) (apart_tells c o x y f) (apart_tells c p x z g) (apart_tells c q y z h))
two_cells (c ∷ d ∷ l) o p q x y z f g h = omega arith

-- ---- three cells at least, where three outputs that read one cell each tell these vertices apart
record One (c d : Cell) (o : ℕ) (e : Cell) : Type 0 where
  told : (x y : ℕ) → Apart o x y (c ∷ d ∷ []) → Tells e x y

-- an output that reads one of two cells uses the first alone or the second alone
which : (c d : Cell) (o : ℕ) → reading o (c ∷ d ∷ []) ≤ 1 → One c d o c ⊎ One c d o d
unfolding reading
which c d o h = go (c.readers o) refl (d.readers o) refl h
  where
    not_read : (e : Cell) → e.readers o ≡ false → e.readers o ≡ true → ⊥
    not_read e f g = true_false (sym g ∙ f)

    go : (a : Bool) → c.readers o ≡ a → (b : Bool) → d.readers o ≡ b → bit (c.readers o) + (bit (d.readers o) + 0) ≤ 1 → One c d o c ⊎ One c d o d
    go true f true g h =
        let i : bit (c.readers o) ≡ 1 = ap bit f in
        let j : bit (d.readers o) ≡ 1 = ap bit g in
        absurd (omega (arith, i, j, h))
    go a f false g h = inl (record { told = λ x y t. ⊎_elim (λ p. p.1) (λ r. ⊎_elim (λ p. absurd (not_read d g p.0)) (λ n. absurd n) r) t })
    go false f true g h = inr (record { told = λ x y t. ⊎_elim (λ p. absurd (not_read c f p.0)) (λ r. ⊎_elim (λ p. p.1) (λ n. absurd n) r) t })

-- each of three outputs tells another one of x, y, z from the two others, so that any two of them tell all three apart
pub record Triangle (l : List Cell) (o p q x y z : ℕ) : Type 0 where
  pub o_reads : reading o l ≤ 1
  pub p_reads : reading p l ≤ 1
  pub q_reads : reading q l ≤ 1
  pub o_zx : Apart o z x l
  pub o_zy : Apart o z y l
  pub p_yx : Apart p y x l
  pub p_yz : Apart p y z l
  pub q_xy : Apart q x y l
  pub q_xz : Apart q x z l

pub three_cells : (l : List Cell) (o p q x y z : ℕ) → Triangle l o p q x y z → 3 ≤ length l
three_cells [] o p q x y z t = absurd t.o_zx
three_cells (c ∷ []) o p q x y z t = let h = two_cells (c ∷ []) q q p x y z t.q_xy t.q_xz t.p_yz in absurd (omega (arith, h))
three_cells (c ∷ d ∷ []) o p q x y z t =
    absurd (go (which c d o t.o_reads) (which c d p t.p_reads) (which c d q t.q_reads))
  where
    turned : (e : Cell) (u v : ℕ) → Tells e u v → Tells e v u
    turned e u v f g = f (sym g)

    values : (e : Cell) → Tells e x y → Tells e x z → Tells e y z → ⊥
    values e = three_values (e.table x) (e.table y) (e.table z)

    o_and_p : (e : Cell) → One c d o e → One c d p e → ⊥
    o_and_p e f g = values e (turned e y x (g.told y x t.p_yx)) (turned e z x (f.told z x t.o_zx)) (g.told y z t.p_yz)

    o_and_q : (e : Cell) → One c d o e → One c d q e → ⊥
    o_and_q e f g = values e (g.told x y t.q_xy) (g.told x z t.q_xz) (turned e z y (f.told z y t.o_zy))

    p_and_q : (e : Cell) → One c d p e → One c d q e → ⊥
    p_and_q e f g = values e (g.told x y t.q_xy) (g.told x z t.q_xz) (f.told y z t.p_yz)

    go : One c d o c ⊎ One c d o d → One c d p c ⊎ One c d p d → One c d q c ⊎ One c d q d → ⊥
    go (inl f) (inl g) k = o_and_p c f g
    go (inl f) (inr g) (inl h) = o_and_q c f h
    go (inl f) (inr g) (inr h) = p_and_q d g h
    go (inr f) (inr g) k = o_and_p d f g
    go (inr f) (inl g) (inr h) = o_and_q d f h
    go (inr f) (inl g) (inl h) = p_and_q c g h
three_cells (c ∷ d ∷ e ∷ l) o p q x y z t = omega arith
