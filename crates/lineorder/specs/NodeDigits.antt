-- The digits of a node follow from the shared tables, from those that it reads, and from the design: a digit whose code some
-- vertex produces is the design's value there, and every other digit is 0. Assumes nothing.
use Rattle.std.specs.Prelude.{◌≡◌, refl, Bool, false, List, [], ◌∷◌, ◌++◌, map, ◌⊎◌, ℕ, zero, suc, ◌+◌, ◌*◌, ◌/◌, ◌%◌, ◌^◌, ◌<◌, length, get_or}
use Rattle.std.proofs.Common.{sym, ap, ap₂, ◌∙◌, inl, inr, ⊎_elim, arith, mod-lt, div-add-mod', pow_pos}
use Rattle.std.proofs.Math.Decide.{ℕ_discrete}
use Rattle.rows.specs.Row.{row_of, values_of}
use Rattle.rows.specs.RowLaws.{row_values, length_values}
use Rattle.sheet.specs.Examine.{Design}
use Rattle.sheet.specs.Value.{output_on}
use Rattle.classes.specs.Columns.{free, join_row, vertex_count, free_count}
use Rattle.network.specs.Network.{Network}
use Rattle.network.specs.NetworkFor.{node_at}
use Rattle.network.specs.Answers.{Computes}
use Rattle.network.specs.Value.{lut_at, code_at}
use Rattle.serving.specs.Parts.{Parts}
use Rattle.serving.specs.Tells.{node_at_lem}
use Rattle.serving.specs.Compose.{row-append}

-- ======== definitions
-- every digit of the node of output o whose code no vertex produces is 0
pub record Blank (d : Design) (w : Network) (o : ℕ) : Type 0 where
  pub unproduced : (j : ℕ)
      → ((x : ℕ) → x < vertex_count d.bound → code_at w (node_at w.nodes o).reads x ≡ j / free_count d.inputs d.bound → ⊥)
      → get_or (node_at w.nodes o).digits j false ≡ false

-- ======== laws
-- ---- a vertex with a code, or none
found_or_none : (f : ℕ → ℕ) (c n : ℕ) → ((x : ℕ) × (x < n) × (f x ≡ c)) ⊎ ((x : ℕ) → x < n → f x ≡ c → ⊥)
found_or_none f c zero = inr (λ x h e. absurd (omega arith))
found_or_none f c (suc n) =
    ⊎_elim (λ q. inl (q.0, (let h = q.1 in omega arith), q.2)) (λ g. here (ℕ_discrete (f n) c) g) (found_or_none f c n)
  where
    here : Dec (f n ≡ c)
        → ((x : ℕ) → x < n → f x ≡ c → ⊥)
        → ((x : ℕ) × (x < suc n) × (f x ≡ c)) ⊎ ((x : ℕ) → x < suc n → f x ≡ c → ⊥)
    here (yes e) g = inl (n, omega arith, e)
    here (no k) g = inr (λ x h e. at x h e (ℕ_discrete x n))
      where
        at : (x : ℕ) → x < suc n → f x ≡ c → Dec (x ≡ n) → ⊥
        at x h e (yes q) = k (sym (ap f q) ∙ e)
        at x h e (no q) = g x (omega arith) e

-- ---- lists with equal items
pub equal_items : (a b : List Bool) → length a ≡ length b → ((j : ℕ) → j < length a → get_or a j false ≡ get_or b j false) → a ≡ b
equal_items [] [] e h = refl
equal_items [] (y ∷ b) e h = absurd (omega (arith, e))
equal_items (x ∷ a) [] e h = absurd (omega (arith, e))
equal_items (x ∷ a) (y ∷ b) e h =
    ap₂ (λ (z : Bool) (l : List Bool). z ∷ l) (h 0 (omega arith))
    (equal_items a b (let g : suc (length a) ≡ suc (length b) = e in omega arith) (λ j l. h (suc j) (omega arith)))

-- ---- the digits of a node
module _ (d : Design) (p : Parts d.inputs d.bound) where
  -- a digit whose code vertex x produces
  produced : (w : Network) (o x j : ℕ)
      → Computes d w
      → o < length d.outputs
      → x < vertex_count d.bound
      → code_at w (node_at w.nodes o).reads x ≡ j / free_count d.inputs d.bound
      → get_or (node_at w.nodes o).digits j false
      ≡ output_on d o (join_row d.inputs d.bound x (j % free_count d.inputs d.bound))
  produced w o x j c h l e =
      let n = length (free d.inputs d.bound) in
      let z = j % 2 ^ n in
      let b : z < 2 ^ n = mod-lt j (pow_pos n) in
      let codes = map (λ i. lut_at w i x) (node_at w.nodes o).reads in
      let place : row_of (codes ++ values_of n z) ≡ j =
      row-append codes (values_of n z)
      ∙ ap₂ (λ (k r : ℕ). row_of codes * 2 ^ k + r) (length_values n z) (row_values n z b)
      ∙ ap (λ (k : ℕ). k * 2 ^ n + z) e
      ∙ div-add-mod' j (2 ^ n) in
      sym (ap (λ (k : ℕ). get_or (node_at w.nodes o).digits k false) place)
      ∙ sym (node_at_lem d w p o x z l b)
      ∙ c.agrees o (join_row d.inputs d.bound x z) h (p.inside x z)

  pub digits_follow : (v w : Network) (o : ℕ)
      → Computes d v
      → Computes d w
      → Blank d v o
      → Blank d w o
      → o < length d.outputs
      → v.luts ≡ w.luts
      → (node_at v.nodes o).reads ≡ (node_at w.nodes o).reads
      → length (node_at v.nodes o).digits ≡ length (node_at w.nodes o).digits
      → (node_at v.nodes o).digits ≡ (node_at w.nodes o).digits
  digits_follow v w o cv cw bv bw h t r l = equal_items (node_at v.nodes o).digits (node_at w.nodes o).digits l (λ j _. at j)
    where
      one_code : (x : ℕ) → code_at v (node_at v.nodes o).reads x ≡ code_at w (node_at w.nodes o).reads x
      one_code x = ap₂ (λ (ts : List (List Bool)) (is : List ℕ). row_of (map (λ i. get_or (get_or ts i []) x false) is)) t r

      at : (j : ℕ) → get_or (node_at v.nodes o).digits j false ≡ get_or (node_at w.nodes o).digits j false
      at j =
          ⊎_elim
          (λ q.
          produced v o q.0 j cv h q.1 q.2
          ∙ sym (produced w o q.0 j cw h q.1 (sym (one_code q.0) ∙ q.2)))
          (λ g. bv.unproduced j g ∙ sym (bw.unproduced j (λ x m e. g x m (one_code x ∙ e))))
          (found_or_none (code_at v (node_at v.nodes o).reads) (j / free_count d.inputs d.bound) (vertex_count d.bound))
