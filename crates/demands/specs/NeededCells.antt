-- How many cells a design needs at least, from the conflicts of its outputs. Assumes nothing.
use Rattle.std.specs.Prelude.{◌≡◌, Bool, true, ◌&&◌, List, ℕ, ◌≤◌, ◌<◌, ltb, length}
use Rattle.std.proofs.Common.{subst, ltb-true}
use Rattle.bits.specs.LogicLaws.{and_left, and_right}
use Rattle.sheet.specs.Examine.{Design}
use Rattle.cells.specs.Core.{Cell, Apart, reading}
use Rattle.classes.specs.Columns.{conflict, vertex_count}
use Rattle.classes.specs.Width.{budget}
use Rattle.serving.specs.NetworkCore.{ServesDesign}
use Rattle.demands.specs.CellBounds.{one_cell, two_cells, three_cells}

-- every core that serves the design d has u cells at least
pub record AtLeast (u : ℕ) (d : Design) : Type 0 where
  pub cells : (l : List Cell) → ServesDesign d l → u ≤ length l

-- whether output o is there and has a conflict of vertices x and y
abbrev pub conflicting : Design → ℕ → ℕ → ℕ → Bool
conflicting d o x y =
    ltb o (length d.outputs) && (ltb x (vertex_count d.bound) && (ltb y (vertex_count d.bound) && conflict d d.bound o x y))

module _ (d : Design) where
  -- they are an output and two vertices
  pub conflicting_below : (o x y : ℕ)
      → conflicting d o x y ≡ true
      → (o < length d.outputs) × (x < vertex_count d.bound) × (y < vertex_count d.bound)
  conflicting_below o x y e =
      let v = vertex_count d.bound in
      let k = conflict d d.bound o x y in
      let i = ltb o (length d.outputs) in
      let f = and_right i (ltb x v && (ltb y v && k)) e in
      let g = and_right (ltb x v) (ltb y v && k) f in (
        ltb-true o (length d.outputs) (and_left i (ltb x v && (ltb y v && k)) e),
        ltb-true x v (and_left (ltb x v) (ltb y v && k) f),
        ltb-true y v (and_left (ltb y v) k g),
      )

  pub told : (o x y : ℕ) → conflicting d o x y ≡ true → (l : List Cell) → ServesDesign d l → Apart o x y l
  told o x y e l s =
      let v = vertex_count d.bound in
      let k = conflict d d.bound o x y in
      let f = and_right (ltb o (length d.outputs)) (ltb x v && (ltb y v && k)) e in
      let g = and_right (ltb x v) (ltb y v && k) f in
      let (h, a, b) = conflicting_below o x y e in
      s.tells o x y h a b (and_right (ltb y v) k g)

  -- one where there is a conflict
  pub one-needed : (o x y : ℕ) → conflicting d o x y ≡ true → AtLeast 1 d
  one-needed o x y e = record { cells = λ l s. one_cell l o x y (told o x y e l s) }

  -- two where three vertices conflict pairwise, in whichever outputs
  pub two-needed : (o p q x y z : ℕ) → conflicting d o x y ≡ true → conflicting d p x z ≡ true → conflicting d q y z ≡ true → AtLeast 2 d
  two-needed o p q x y z e f g =
      record { cells = λ l s. two_cells l o p q x y z (told o x y e l s) (told p x z f l s) (told q y z g l s) }

  -- an output that is there and may read one cell, and its conflicts of a vertex with two others
  pub record OneRead (o x y z : ℕ) : Type 0 where
    pub width_1 : budget d d.bound o ≡ 1
    pub first : conflicting d o x y ≡ true
    pub second : conflicting d o x z ≡ true

  reads_one : {o x y z : ℕ} → OneRead o x y z → (l : List Cell) → ServesDesign d l → reading o l ≤ 1
  reads_one {o = o} {x = x} {y = y} h l s =
      subst (λ (n : ℕ). reading o l ≤ n) h.width_1 (s.within o (conflicting_below o x y h.first).0)

  -- three where each of three outputs may read one cell, and each has conflicts of another vertex with the two others
  pub three_needed : (o p q x y z : ℕ) → OneRead o z x y → OneRead p y x z → OneRead q x y z → AtLeast 3 d
  three_needed o p q x y z f g h =
      record {
        cells = λ l s.
            three_cells l o p q x y z
            (record {
              o_reads = reads_one f l s;
              p_reads = reads_one g l s;
              q_reads = reads_one h l s;
              o_zx = told o z x f.first l s;
              o_zy = told o z y f.second l s;
              p_yx = told p y x g.first l s;
              p_yz = told p y z g.second l s;
              q_xy = told q x y h.first l s;
              q_xz = told q x z h.second l s;
            });
      }
