-- One line of a network sheet: what the code holds after a line of each kind is what the line comes to. Assumes nothing.
use Rattle.std.specs.Prelude.{◌≡◌, Bool, Option, Some, None, ℕ, suc, ◌+◌, ◌^◌, ◌≤◌, ◌<◌, ltb, length, get_or, take}
use Rattle.std.proofs.Math.Path.{refl, ap, ap₂}
use Rattle.std.proofs.Common.{sym, subst, ◌∙◌, arith, add-one, length-append, lt-ltb, le-ltb, ltb-true, ltb-false}
use Rattle.std.proofs.Math.Bool.{true, false}
use mathlib.Core.List.{List, [], ◌∷◌, ◌++◌, map}
use Rattle.std.proofs.Math.Option.{some, none}
use Rattle.std.proofs.Math.Option as math
use Rattle.std.proofs.lemmas.List.{length-map}
use Rattle.bits.specs.Logic.{pick}
use Rattle.text.specs.Bytes.{same}
use Rattle.limits.specs.Limits.{max_cells, max_outputs}
use Rattle.names.specs.Name.{Name}
use Rattle.names.specs.Pack.{name_of}
use Rattle.sheet.specs.Lines.{end_line}
use Rattle.sheet.specs.Examine.{Design, output_names}
use Rattle.network.specs.Network.{Network, Node}
use Rattle.network.specs.Printer.{network_line, print_count}
use Rattle.network.specs.Reader.{read_lut, read_node}
use Rattle.network.specs.Examine as spec
use Rattle.network.specs.Examine.{Step, misspelled, next, ask_node, ask_lut, ask_line, node_step, lut_step, with_node}
use Rattle.network.specs.LineAnswer.{TableIs, TableRead, NodeRead, NodeStands, Stands}
use Rattle.netsheet.specs.Answer.{frees}
use Rattle.netsheet.specs.Named.{NamedIs}
use Rattle.netsheet.specs.Reading.{place_of, moved, lut_added, after_node, node_added, PlaceFits, Safe, AnySafe, PartOf, HeldBy, Staged, Known, StepIs, maybe_lut}
use Rattle.network.specs.HeldNameLaws.{held_name}
use Rattle.netsheet.specs.HeldLaws.{held_lut, held-node}
use Rattle.netsheet.specs.declared.Named.{Named}
use Rattle.netsheet.specs.declared.Place.{Place}
use Rattle.netsheet.specs.declared.Reading.{Reading}

-- ---- whatever the design, what the code holds stays within its ranges
pub safe_moved : (s : Reading) (r : Option Reading) (b : Bool) (p : Place) → r ≡ moved s b p → s.sheet.luts ≤ max_cells → PlaceFits p → AnySafe r
safe_moved s r b p e h f = rw e (go b)
  where
    go : (b : Bool) → AnySafe (moved s b p)
    go true = record { few = h; fits = f }
    go false = tt

pub safe_lut : (s r : Reading) (p : ℕ) → r ≡ lut_added s p → s.sheet.luts < max_cells → Safe r
safe_lut s r p e h = rw e (record { few = omega arith; fits = tt })

next_fits : (o outputs : ℕ) → outputs ≤ max_outputs → PlaceFits (after_node o outputs)
next_fits o outputs few = go (ltb (o + 1) outputs) refl
  where
    go : (b : Bool) → ltb (o + 1) outputs ≡ b → PlaceFits (pick b (Place.Node (o + 1)) Place.Count)
    go true e = let h = ltb-true (o + 1) outputs e in omega arith
    go false e = tt

pub safe_node : (s r : Reading) (o mask p outputs : ℕ) → r ≡ node_added s o mask p outputs → s.sheet.luts ≤ max_cells → outputs ≤ max_outputs → Safe r
safe_node s r o mask p outputs e h few = rw e (record { few = h; fits = next_fits o outputs few })

-- ---- the place after a node
module _ (d : Design) (o outputs : ℕ) (counted : outputs ≡ length d.outputs) where
  next_placed : place_of (after_node o outputs) ≡ spec.after_node d o
  next_placed =
      go (ltb (o + 1) outputs)
      ∙ ap (λ (b : Bool). pick b (spec.at_node (suc o)) spec.at_count) (ap₂ ltb (add-one o) counted)
    where
      go : (b : Bool) → place_of (pick b (Place.Node (o + 1)) Place.Count) ≡ pick b (spec.at_node (suc o)) spec.at_count
      go true = ap spec.at_node (add-one o)
      go false = refl

next_staged : (d : Design) (o : ℕ) (w : Network) → length w.nodes ≡ suc o → o < length d.outputs → Staged d (spec.after_node d o) w
next_staged d o w e h = go (ltb (suc o) (length d.outputs)) refl
  where
    go : (b : Bool) → ltb (suc o) (length d.outputs) ≡ b → Staged d (pick b (spec.at_node (suc o)) spec.at_count) w
    go true f = (e, ltb-true (suc o) (length d.outputs) f)
    go false f = let g = ltb-false (suc o) (length d.outputs) f in omega arith

-- ---- a node line
module _ (l t : List ℕ) (at : ℕ) (d : Design) (w : Network) (k : Named) (s : Reading) (q : PartOf t at l) (n : NamedIs d k) (h : HeldBy d t w s) where
  module _ (o : ℕ) (here : length w.nodes ≡ o) (below : o < length d.outputs) where
    abbrev asked : math.Option Node
    asked = read_node (name_of (get_or k.outs o 0)) (map name_of (take k.frees k.free)) s.sheet.luts l

    output_name : get_or (output_names d.outputs) o [] ≡ name_of (get_or k.outs o 0)
    output_name =
        ap (λ (ns : List Name). get_or ns o []) (sym n.outs_named) ∙ sym (held_name k.outs k.outputs o (omega (arith, n.outs_counted)))

    by_names : ask_node d w o l ≡ node_step d w o asked
    unfolding ask_node
    by_names =
        ap₂ (λ (m : Name) (fs : List Name). node_step d w o (read_node m fs (length w.luts) l)) output_name (sym n.free-named)
        ∙ ap (λ (u : ℕ). node_step d w o (read_node (name_of (get_or k.outs o 0)) (map name_of (take k.frees k.free)) u l)) (sym h.counted)

    pub node_bad : none ≡ asked → StepIs d t (ask_node d w o l) None
    node_bad e = subst (λ (x : Step). StepIs d t x None) (sym (by_names ∙ ap (node_step d w o) (sym e))) tt

    frees-counted : length (take k.frees k.free) ≡ frees d
    frees-counted = sym (length-map (take k.frees k.free) name_of) ∙ ap length n.free-named

    pub node_good : {mask p : ℕ} (r : Reading) → NodeRead l s.sheet.luts (length (take k.frees k.free)) mask p asked
        → r ≡ node_added s o mask (at + p) k.outputs → length s.sheet.reads ≡ max_outputs → length s.sheet.nodeat ≡ max_outputs → o < max_outputs
        → StepIs d t (ask_node d w o l) (Some r)
    node_good {mask} {p} r x f room place small =
        let stands : NodeStands l s.sheet.luts (frees d) mask p x.node = subst (λ (m : ℕ). NodeStands l s.sheet.luts m mask p x.node) frees-counted x.stands in
        let long : length (w.nodes ++ (x.node ∷ [])) ≡ suc o = length-append w.nodes (x.node ∷ []) ∙ ap (λ (m : ℕ). m + 1) here ∙ add-one o in
        subst (λ (y : Step). StepIs d t y (Some r)) (sym (by_names ∙ ap (node_step d w o) (sym x.is)))
        (rw f
        (record {
          placed = next_placed d o k.outputs n.outs_counted;
          staged = next_staged d o (with_node w x.node) long below;
          held = held-node h q stands here (omega arith) (omega arith);
        }))

  -- ---- a lut line, or the first node
  abbrev lut_asked : math.Option (List Bool)
  lut_asked = maybe_lut (map name_of (take k.bounds k.bound)) s.sheet.luts l

  by_lut : ask_lut d w l ≡ lut_step w lut_asked (ask_node d w 0 l)
  unfolding ask_lut
  by_lut =
      go (ltb (length w.luts) max_cells)
      ∙ ap₂ (λ (u : ℕ) (bs : List Name). lut_step w (maybe_lut bs u l) (ask_node d w 0 l)) (sym h.counted) (sym n.bound-named)
    where
      go : (b : Bool)
          → pick b (lut_step w (read_lut d.bound (length w.luts) l) (ask_node d w 0 l)) (ask_node d w 0 l)
          ≡ lut_step w (pick b (read_lut d.bound (length w.luts) l) none) (ask_node d w 0 l)
      go true = refl
      go false = refl

  pub lut_bad : (r : Option Reading) → none ≡ lut_asked → StepIs d t (ask_node d w 0 l) r → StepIs d t (ask_lut d w l) r
  lut_bad r e f = subst (λ (x : Step). StepIs d t x r) (sym (by_lut ∙ ap (λ (x : math.Option (List Bool)). lut_step w x (ask_node d w 0 l)) (sym e))) f

  pub lut_good : {p : ℕ} (r : Reading) → TableRead l (2 ^ k.bounds) p lut_asked → r ≡ lut_added s (at + p) → s.sheet.luts < max_cells
      → length s.sheet.lutat ≡ max_cells → length w.nodes ≡ 0 → StepIs d t (ask_lut d w l) (Some r)
  lut_good {p} r x f few room none_yet =
      let stands : Stands l (2 ^ length d.bound) p x.digits = subst (λ (m : ℕ). Stands l (2 ^ m) p x.digits) n.bound-counted x.stands in
      subst (λ (y : Step). StepIs d t y (Some r)) (sym (by_lut ∙ ap (λ (y : math.Option (List Bool)). lut_step w y (ask_node d w 0 l)) (sym x.is)))
      (rw f (record { placed = refl; staged = none_yet; held = held_lut h q stands few room none_yet }))

-- ---- where there may be one more lut line
pub no_more_luts : (bs : List Name) (u : ℕ) (l : List ℕ) → max_cells ≤ u → none ≡ maybe_lut bs u l
no_more_luts bs u l h = ap (λ (b : Bool). pick b (read_lut bs u l) none) (sym (le-ltb u max_cells h))

pub one_more_lut : (bs : List Name) (u : ℕ) (l : List ℕ) (r : Option ℕ) (n m : ℕ) → u < max_cells → n ≡ m
    → TableIs l (2 ^ n) r (read_lut bs u l) → TableIs l (2 ^ m) r (maybe_lut bs u l)
one_more_lut bs u l r n m h e f =
    subst (λ (x : math.Option (List Bool)). TableIs l (2 ^ m) r x) (ap (λ (b : Bool). pick b (read_lut bs u l) none) (sym (lt-ltb u max_cells h)))
    (subst (λ (k : ℕ). TableIs l (2 ^ k) r (read_lut bs u l)) e f)

pub lut_few : (bs : List Name) (u : ℕ) (l : List ℕ) {n p : ℕ} → TableRead l n p (maybe_lut bs u l) → u < max_cells
lut_few bs u l x = go (ltb u max_cells) refl x.is
  where
    go : (b : Bool) → ltb u max_cells ≡ b → some x.digits ≡ pick b (read_lut bs u l) none → u < max_cells
    go true e f = ltb-true u max_cells e
    go false e f = let z : ◌≡◌ {A = ℕ} 0 1 = cc in omega arith

-- ---- a line that is always the same
module _ (l t : List ℕ) (d : Design) (w : Network) (s : Reading) (r : Option Reading) (kn : Known d t w s) where
  fixed_line : (b : Bool) (p : Place) → r ≡ moved s b p → Staged d (place_of p) w → StepIs d t (pick b (next (place_of p) w) misspelled) r
  fixed_line true p e g = rw e (record { placed = refl; staged = g; held = kn.held })
  fixed_line false p e g = rw e tt

  staged_at : (p : Place) → s.place ≡ p → Staged d (place_of p) w
  staged_at p e = subst (λ (x : Place). Staged d (place_of x) w) e kn.staged

  pub network_line_lem : s.place ≡ Place.Network → r ≡ moved s (same l network_line) Place.Luts → StepIs d t (ask_line d (place_of s.place) w l) r
  unfolding ask_line
  network_line_lem e f = rw e (fixed_line (same l network_line) Place.Luts f (staged_at Place.Network e))

  pub count_line : s.place ≡ Place.Count → r ≡ moved s (same l (print_count s.sheet.luts)) Place.End → StepIs d t (ask_line d (place_of s.place) w l) r
  unfolding ask_line
  count_line e f =
      rw e
      (subst (λ (u : ℕ). StepIs d t (pick (same l (print_count u)) (next spec.at_end_lem w) misspelled) r) kn.held.counted
      (fixed_line (same l (print_count s.sheet.luts)) Place.End f (staged_at Place.Count e)))

  pub end_line_lem : s.place ≡ Place.End → r ≡ moved s (same l end_line) Place.Over → StepIs d t (ask_line d (place_of s.place) w l) r
  unfolding ask_line
  end_line_lem e f = rw e (fixed_line (same l end_line) Place.Over f (staged_at Place.End e))

  pub over_line : s.place ≡ Place.Over → StepIs d t (ask_line d (place_of s.place) w l) None
  unfolding ask_line
  over_line e = rw e tt

  -- ---- a lut line and a node line
  pub luts_line : s.place ≡ Place.Luts → (length w.nodes ≡ 0 → StepIs d t (ask_lut d w l) r) → StepIs d t (ask_line d (place_of s.place) w l) r
  unfolding ask_line
  luts_line e f = rw e (f (staged_at Place.Luts e))

  pub node_line : (o : ℕ) → s.place ≡ Place.Node o → (length w.nodes ≡ o → o < length d.outputs → StepIs d t (ask_node d w o l) r)
      → StepIs d t (ask_line d (place_of s.place) w l) r
  unfolding ask_line
  node_line o e f = let g : Staged d (spec.at_node o) w = staged_at (Place.Node o) e in rw e (f g.0 g.1)
