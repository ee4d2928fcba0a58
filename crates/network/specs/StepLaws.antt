-- The examination of a network sheet, a line at a time: what a line comes to, and what a sheet without a bad line says from
-- each place on. Assumes nothing.
use Rattle.std.specs.Prelude.{◌≡◌, Bool, ℕ, suc, ◌≤◌, ◌<◌, ltb, length}
use Rattle.std.proofs.Math.Path.{refl}
use Rattle.std.proofs.Common.{sym, ap₂, ◌∙◌, arith, lt-ltb, le-ltb}
use Rattle.std.proofs.Math.Bool.{true, false}
use mathlib.Core.List.{List, [], ◌∷◌}
use Rattle.std.proofs.Math.Option.{some, none}
use Rattle.bits.specs.Logic.{pick}
use Rattle.text.specs.Bytes.{same}
use Rattle.text.specs.BytesLaws.{same_self, same_equal}
use Rattle.limits.specs.Limits.{max_cells}
use Rattle.sheet.specs.Lines.{end_line}
use Rattle.sheet.specs.Examine.{Design}
use Rattle.network.specs.Network.{Network, Node}
use Rattle.network.specs.Printer.{print_count}
use Rattle.network.specs.Reader.{read_lut}
use Rattle.network.specs.Examine.{Place, at_luts, at_node, at_count, at_end_lem, over, misspelled, next, with_lut, with_node, after_node, ask_node}
use Rattle.network.specs.Examine.{lut_step, ask_lut, ask_line, bad_line, network, ask_lines}
use Rattle.network.specs.Parts.{node_read, last_lines}

pub bad_network : {n : ℕ} {w : Network} → bad_line n ≡ network w → ⊥
bad_network e =
    let z : ◌≡◌ {A = ℕ} 0 1 = cc in
    omega arith

network_is : {v w : Network} → network v ≡ network w → v ≡ w
network_is e = cc

module _ (d : Design) where
  -- ---- from a line to the next one
  pub line_next : (p q : Place) (v w : Network) (n : ℕ) (l : List ℕ) (ls : List (List ℕ))
      → ask_line d p v l ≡ next q w
      → ask_lines d true p v n (l ∷ ls) ≡ ask_lines d true q w (suc n) ls
  unfolding ask_lines
  line_next p q v w n l ls e = rw e refl

  pub line_bad : (p : Place) (v : Network) (n : ℕ) (l : List ℕ) (ls : List (List ℕ))
      → ask_line d p v l ≡ misspelled
      → ask_lines d true p v n (l ∷ ls) ≡ bad_line n
  unfolding ask_lines
  line_bad p v n l ls e = rw e refl

  -- ---- a line that is one text
  fixed_by : (x : Bool) (p q : Place) (v w : Network) (n : ℕ) (l m : List ℕ) (ls : List (List ℕ))
      → same l m ≡ x
      → ask_line d p v l ≡ pick x (next q v) misspelled
      → ask_lines d true p v n (l ∷ ls) ≡ network w
      → (l ≡ m) × (ask_lines d true q v (suc n) ls ≡ network w)
  fixed_by true p q v w n l m ls s a e = (same_equal l m s, sym (line_next p q v v n l ls a) ∙ e)
  fixed_by false p q v w n l m ls s a e = absurd (bad_network (sym (line_bad p v n l ls a) ∙ e))

  pub fixed_line : (p q : Place) (v w : Network) (n : ℕ) (l m : List ℕ) (ls : List (List ℕ))
      → ask_line d p v l ≡ pick (same l m) (next q v) misspelled
      → ask_lines d true p v n (l ∷ ls) ≡ network w
      → (l ≡ m) × (ask_lines d true q v (suc n) ls ≡ network w)
  fixed_line p q v w n l m ls = fixed_by (same l m) p q v w n l m ls refl

  -- ---- the count and the end
  pub last_read : (v : Network) (n : ℕ) → ask_lines d true at_count v n (last_lines (length v.luts)) ≡ network v
  unfolding ask_line ask_lines
  last_read v n = rw (same_self (print_count (length v.luts)), same_self end_line) refl

  over_said : (v w : Network) (n : ℕ) (ls : List (List ℕ))
      → ask_lines d true over v n ls ≡ network w
      → (ls ≡ []) × (v ≡ w)
  unfolding ask_line ask_lines
  over_said v w n [] e = (refl, network_is e)
  over_said v w n (l ∷ ls) e = absurd (bad_network e)

  end_said : (v w : Network) (n : ℕ) (ls : List (List ℕ))
      → ask_lines d true at_end_lem v n ls ≡ network w
      → (ls ≡ end_line ∷ []) × (v ≡ w)
  unfolding ask_line ask_lines
  end_said v w n [] e = absurd (bad_network e)
  end_said v w n (l ∷ ls) e =
      let (i, f) = fixed_line at_end_lem over v w n l end_line ls refl e in
      let (j, q) = over_said v w (suc n) ls f in
      (ap₂ (λ (x : List ℕ) (xs : List (List ℕ)). x ∷ xs) i j, q)

  pub last-said : (v w : Network) (n : ℕ) (ls : List (List ℕ))
      → ask_lines d true at_count v n ls ≡ network w
      → (ls ≡ last_lines (length v.luts)) × (v ≡ w)
  unfolding ask_line ask_lines
  last-said v w n [] e = absurd (bad_network e)
  last-said v w n (l ∷ ls) e =
      let (i, f) = fixed_line at_count at_end_lem v w n l (print_count (length v.luts)) ls refl e in
      let (j, q) = end_said v w (suc n) ls f in
      (ap₂ (λ (x : List ℕ) (xs : List (List ℕ)). x ∷ xs) i j, q)

  -- ---- the node of output o
  pub node_next : (v : Network) (o : ℕ) (l : List ℕ) (x : Node)
      → node_read d v o l ≡ some x
      → ask_line d (at_node o) v l ≡ next (after_node d o) (with_node v x)
  unfolding ask_line ask_node
  node_next v o l x e = rw e refl

  pub node_bad : (v : Network) (o : ℕ) (l : List ℕ) → node_read d v o l ≡ none → ask_line d (at_node o) v l ≡ misspelled
  unfolding ask_line ask_node
  node_bad v o l e = rw e refl

  -- ---- a lut line, or the first node
  pub lut_next : (v : Network) (l : List ℕ) (t : List Bool)
      → length v.luts < max_cells
      → read_lut d.bound (length v.luts) l ≡ some t
      → ask_line d at_luts v l ≡ next at_luts (with_lut v t)
  unfolding ask_line ask_lut
  lut_next v l t h e = rw (lt-ltb (length v.luts) max_cells h, e) refl

  pub lut_many : (v : Network) (l : List ℕ)
      → max_cells ≤ length v.luts
      → ask_line d at_luts v l ≡ ask_line d (at_node 0) v l
  unfolding ask_line ask_lut
  lut_many v l h = rw (le-ltb (length v.luts) max_cells h) refl

  pub lut_none : (v : Network) (l : List ℕ)
      → read_lut d.bound (length v.luts) l ≡ none
      → ask_line d at_luts v l ≡ ask_line d (at_node 0) v l
  unfolding ask_line ask_lut
  lut_none v l e = go (ltb (length v.luts) max_cells)
    where
      go : (x : Bool)
          → pick x (lut_step v (read_lut d.bound (length v.luts) l) (ask_node d v 0 l)) (ask_node d v 0 l) ≡ ask_node d v 0 l
      go true = rw e refl
      go false = refl

  -- the lines from at_luts on are read as those from the first node on
  pub same_lines : (p q : Place) (v : Network) (n : ℕ) (l : List ℕ) (ls : List (List ℕ))
      → ask_line d p v l ≡ ask_line d q v l
      → ask_lines d true p v n (l ∷ ls) ≡ ask_lines d true q v n (l ∷ ls)
  unfolding ask_lines
  same_lines p q v n l ls e = rw e refl
