-- What is held of a network sheet, one table more: what stands in a line stands in the text, and a table's place is kept
-- with those before it. Assumes nothing.
use Rattle.std.specs.Prelude.{◌≡◌, Bool, List, [], ◌∷◌, ◌++◌, ℕ, ◌+◌, ◌-◌, ◌^◌, ◌<◌, length, get_or, take, drop, set}
use Rattle.std.proofs.Common.{sym, ap, subst, ◌∙◌, ⊎_elim, arith, length-append, length-drop, drop-drop, get_or-set_same, get_or-set_other}
use Rattle.std.proofs.Math.ListN.{get_or-append}
use Rattle.std.proofs.lemmas.List.{drop-append-le, take-append-le, get_or_at}
use Rattle.limits.specs.Limits.{max_cells}
use Rattle.bits.specs.CountLaws.{less_or_equal}
use Rattle.network.specs.Network.{Network, Node}
use Rattle.network.specs.Examine.{with_lut, with_node}
use Rattle.network.specs.LineAnswer.{Stands, NodeStands}
use Rattle.netsheet.specs.Answer.{Held}
use Rattle.netsheet.specs.Reading.{PartOf}

-- ---- from a line to the text
module _ {t : List ℕ} {at : ℕ} {l : List ℕ} (q : PartOf t at l) where
  stands_in_text : {n p : ℕ} {ds : List Bool} → Stands l n p ds → Stands t n (at + p) ds
  stands_in_text {n} {p} {ds} h =
      let i = q.inside in
      let j = h.inside in
      let left : length (drop p l) ≡ length l - p = length-drop p l in
      record {
        counted = h.counted;
        inside = omega arith;
        printed =
            ap (take n) (sym (drop-drop p at t) ∙ ap (drop p) q.is ∙ drop-append-le p l q.later (omega arith))
            ∙ take-append-le n (drop p l) q.later (omega arith)
            ∙ h.printed;
      }

  node_in_text : {u f mask p : ℕ} {x : Node} → NodeStands l u f mask p x → NodeStands t u f mask (at + p) x
  node_in_text h = record { reading = h.reading; stands = stands_in_text h.stands }

-- ---- one more at the end of a list
kept_before : {A : Type 0} (xs : List A) (x d : A) (i : ℕ) → i < length xs → get_or xs i d ≡ get_or (xs ++ (x ∷ [])) i d
kept_before xs x d i h = sym (get_or-append xs (x ∷ []) d i h)

kept-last : {A : Type 0} (xs : List A) (x d : A) (i : ℕ) → i ≡ length xs → x ≡ get_or (xs ++ (x ∷ [])) i d
kept-last xs x d i e = sym (get_or_at xs x [] d i (sym e))

place_before : (ps : List ℕ) (n i p : ℕ) → i < n → get_or ps i 0 ≡ get_or (set ps n p) i 0
place_before ps n i p h = sym (get_or-set_other ps n i p 0 (λ e. omega arith))

place_last : (ps : List ℕ) (n i p : ℕ) → n < length ps → i ≡ n → p ≡ get_or (set ps n p) i 0
place_last ps n i p h e = sym (ap (λ (j : ℕ). get_or (set ps n p) j 0) e ∙ get_or-set_same ps n p 0 h)

module _ {t : List ℕ} {b f : ℕ} {w : Network} {u : ℕ} {lutat reads nodeat : List ℕ} (h : Held t b f w u lutat reads nodeat)
    {at : ℕ} {l : List ℕ} (q : PartOf t at l) {p : ℕ} where
  pub held_lut : {ds : List Bool} → Stands l (2 ^ b) p ds → u < max_cells → length lutat ≡ max_cells → length w.nodes ≡ 0
      → Held t b f (with_lut w ds) (u + 1) (set lutat u (at + p)) reads nodeat
  held_lut {ds} s few room none_yet =
      let c = h.counted in
      record {
        counted = ap (λ (n : ℕ). n + 1) c ∙ sym (length-append w.luts (ds ∷ []));
        few = omega arith;
        luts_stand = λ i g.
            ⊎_elim
            (λ k.
            subst (λ (a : ℕ). Stands t (2 ^ b) a (get_or (w.luts ++ (ds ∷ [])) i [])) (place_before lutat u i (at + p) k)
            (subst (λ (x : List Bool). Stands t (2 ^ b) (get_or lutat i 0) x) (kept_before w.luts ds [] i (omega arith)) (h.luts_stand i k)))
            (λ e.
            subst (λ (a : ℕ). Stands t (2 ^ b) a (get_or (w.luts ++ (ds ∷ [])) i [])) (place_last lutat u i (at + p) (omega arith) e)
            (subst (λ (x : List Bool). Stands t (2 ^ b) (at + p) x) (kept-last w.luts ds [] i (e ∙ c)) (stands_in_text q s)))
            (less_or_equal i u (omega arith));
        nodes_stand = λ o g. absurd (omega arith);
      }

  pub held-node : {mask : ℕ} {x : Node} {o : ℕ} → NodeStands l u f mask p x → length w.nodes ≡ o → o < length reads → o < length nodeat
      → Held t b f (with_node w x) u lutat (set reads o mask) (set nodeat o (at + p))
  held-node {mask} {x} {o} s here room place =
      let nobody : Node = record { reads = []; digits = [] } in
      let long : length (w.nodes ++ (x ∷ [])) ≡ o + 1 = length-append w.nodes (x ∷ []) ∙ ap (λ (n : ℕ). n + 1) here in
      record {
        counted = h.counted;
        few = h.few;
        luts_stand = h.luts_stand;
        nodes_stand = λ i g.
            ⊎_elim
            (λ k.
            subst (λ (m : ℕ). NodeStands t u f m (get_or (set nodeat o (at + p)) i 0) (get_or (w.nodes ++ (x ∷ [])) i nobody)) (place_before reads o i mask k)
            (subst (λ (a : ℕ). NodeStands t u f (get_or reads i 0) a (get_or (w.nodes ++ (x ∷ [])) i nobody)) (place_before nodeat o i (at + p) k)
            (subst (λ (y : Node). NodeStands t u f (get_or reads i 0) (get_or nodeat i 0) y) (kept_before w.nodes x nobody i (omega arith)) (h.nodes_stand i (omega arith)))))
            (λ e.
            subst (λ (m : ℕ). NodeStands t u f m (get_or (set nodeat o (at + p)) i 0) (get_or (w.nodes ++ (x ∷ [])) i nobody)) (place_last reads o i mask room e)
            (subst (λ (a : ℕ). NodeStands t u f mask a (get_or (w.nodes ++ (x ∷ [])) i nobody)) (place_last nodeat o i (at + p) place e)
            (subst (λ (y : Node). NodeStands t u f mask (at + p) y) (kept-last w.nodes x nobody i (e ∙ sym here)) (node_in_text q s))))
            (less_or_equal i o (omega arith));
      }
