-- One operand more in the loop over the operands of a gate: what is known of the operands so far holds with it. Assumes nothing.
use Rattle.std.specs.Prelude.{◌≡◌, refl, Bool, true, false, List, [], ◌∷◌, ◌++◌, ℕ, ◌<◌, min, max, drop, Option, Some, None}
use Rattle.std.proofs.Common.{sym, ap, ap₂, ◌∙◌, subst, arith}
use Rattle.bits.specs.Logic.{andb}
use Rattle.text.specs.Bytes.{Read, found, bad, after, eat, space}
use Rattle.text.specs.EatLaws.{bad_found}
use Rattle.names.specs.Name.{Name}
use Rattle.rows.specs.WordLaws.{rowwise_same, rowwise_two}
use Rattle.cursor.specs.Opening.{Gate}
use Rattle.formula.specs.Tree.{Formula, Operands, none, more, depth, depths, knows, knows_all}
use Rattle.formula.specs.Reader.{read_formula, read_operands, close_gate}
use Rattle.formula.specs.Value.{value, values, on_row, combine}
use Rattle.formula.specs.Gates.{two}
use Rattle.formula.specs.Onto.{onto}
use Rattle.formula.specs.GateLaws.{combine_snoc}
use Rattle.formula.specs.ValueLaws.{onto_snoc, values_snoc, depths_snoc, knows_snoc}
use Rattle.formula.specs.Part.{Good, PartIs, Both, Joined, gate_on}
use Rattle.formula.specs.Walk.{before, non_empty, Going, going, WalkOf, then}
use Rattle.formula.specs.TurnLaws.{operand_after}
use Rattle.formula.specs.declared.Part.{Part}

-- ---- operands put before others
before_snoc : (fs : List Formula) (f : Formula) (r : Read Operands) → before fs (after r (λ os t. found (more f os) t)) ≡ before (fs ++ (f ∷ [])) r
before_snoc fs f (found os t) = ap (λ (x : Operands). found x t) (sym (onto_snoc fs f os))
before_snoc fs f bad = refl

-- ---- one operand more
-- the text after e goes on with a space and an operand at v
step_read : (fs : List Formula) (u t v : List ℕ) → read_operands u ≡ before fs (read_operands t) → found tt v ≡ eat (space ∷ []) t
    → read_operands u ≡ before fs (after (read_formula v) (λ f t. after (read_operands t) (λ os w. found (more f os) w)))
step_read fs u t v e n = e ∙ ap (before fs) (operand_after t v n)

those : (a b c m : ℕ) → max a (max b c) < m → max a b < m
those a b c m l = omega arith

last : (a b c m : ℕ) → max a (max b c) < m → c < m
last a b c m l = omega arith

min-max : (a b m : ℕ) → max (min a m) (min b m) ≡ min (max a b) m
min-max a b m = omega arith

max_assoc : (a b c : ℕ) → max (max a b) c ≡ max a (max b c)
max_assoc a b c = omega arith

joined_going : (k : ℕ) (s : List ℕ) (ns : List Name) (g : Gate) (e : Formula) (u : List ℕ) (fs : List Formula) (p q r : Part) (f : Formula)
    (t v : List ℕ) → Going k s ns g e u fs p → found tt v ≡ eat (space ∷ []) (drop p.next.at s) → read_formula v ≡ found f t
    → Good k s ns f t q → Joined g p q r → Going k s ns g e u (fs ++ (f ∷ [])) r
joined_going k s ns g e u fs p q r f t v w n x h j =
    let d : depths (onto (fs ++ (f ∷ [])) none) ≡ max (depths (onto fs none)) (depth f) = depths_snoc fs f in
    record {
      here =
          step_read fs u (drop p.next.at s) v w.here n
          ∙ ap (λ (y : Read Formula). before fs (after y (λ f t. after (read_operands t) (λ os w. found (more f os) w)))) x
          ∙ before_snoc fs f (read_operands t)
          ∙ ap (λ (l : List ℕ). before (fs ++ (f ∷ [])) (read_operands l)) (sym h.rest ∙ ap (λ k. drop k.at s) (sym j.moved));
      deep =
          j.deep ∙ ap₂ max w.deep h.deep
          ∙ min-max (max (depth e) (depths (onto fs none))) (depth f) k
          ∙ ap (λ (m : ℕ). min m k) (max_assoc (depth e) (depths (onto fs none)) (depth f) ∙ ap (max (depth e)) (sym d));
      named =
          λ l.
          let m = subst (λ (x : ℕ). max (depth e) x < k) d l in
          j.named ∙ ap₂ andb (w.named (those (depth e) (depths (onto fs none)) (depth f) k m)) (h.names (last (depth e) (depths (onto fs none)) (depth f) k m))
          ∙ and_assoc (knows ns e) (knows_all ns (onto fs none)) (knows ns f)
          ∙ ap (andb (knows ns e)) (sym (knows_snoc ns fs f));
      rows =
          λ l.
          let m = subst (λ (x : ℕ). max (depth e) x < k) d l in
          rowwise_same
          (rowwise_two (two g) j.each (w.rows (those (depth e) (depths (onto fs none)) (depth f) k m)) (h.rows (last (depth e) (depths (onto fs none)) (depth f) k m)))
          (λ i _. sym (combine_snoc g (value (on_row ns i) e ∷ values (on_row ns i) (onto fs none)) (value (on_row ns i) f))
          ∙ ap (λ (vs : List Bool). combine g (value (on_row ns i) e ∷ vs)) (sym (values_snoc (on_row ns i) fs f)));
    }
  where
    and_assoc : (a b c : Bool) → andb (andb a b) c ≡ andb a (andb b c)
    and_assoc true b c = refl
    and_assoc false b c = refl

non_empty_snoc : (fs : List Formula) (f : Formula) → true ≡ non_empty (fs ++ (f ∷ []))
non_empty_snoc [] f = refl
non_empty_snoc (x ∷ fs) f = refl

walk_on : (k : ℕ) (s : List ℕ) (ns : List Name) (g : Gate) (e : Formula) (u : List ℕ) (fs : List Formula) (p : Part) (q r : Option Part)
    (v : List ℕ) (x : Read Formula) → Going k s ns g e u fs p → found tt v ≡ eat (space ∷ []) (drop p.next.at s) → read_formula v ≡ x
    → PartIs k s ns x q → Both (Joined g p) q r → WalkOf k s ns g (found e u) r true
walk_on k s ns g e u fs p (Some q) (Some r) v (found f t) w n x h j =
    going (fs ++ (f ∷ [])) (non_empty_snoc fs f) (joined_going k s ns g e u fs p q r f t v w n x h j)
walk_on k s ns g e u fs p (Some q) None v (found f t) w n x h j = absurd j
walk_on k s ns g e u fs p None r v (found f t) w n x h j = absurd (bad_found h)
walk_on k s ns g e u fs p (Some q) r v bad w n x h j = absurd h
walk_on k s ns g e u fs p None (Some r) v bad w n x h j = absurd j
walk_on k s ns g e u fs p None None v bad w n x h j =
    sym
    (step_read fs u (drop p.next.at s) v w.here n
    ∙ ap (λ (y : Read Formula). before fs (after y (λ f t. after (read_operands t) (λ os w. found (more f os) w)))) x)

pub walk_step : (k : ℕ) (s : List ℕ) (ns : List Name) (g : Gate) (y : Read Formula) (p : Part) (q r : Option Part) (enough : Bool) (v : List ℕ)
    → WalkOf k s ns g y (Some p) enough → found tt v ≡ then s (Some p) space → PartIs k s ns (read_formula v) q → Both (Joined g p) q r
    → WalkOf k s ns g y r true
walk_step k s ns g (found e u) p q r enough v (going fs _ w) n h j = walk_on k s ns g e u fs p q r v (read_formula v) w n refl h j
walk_step k s ns g bad p q r enough v w n h j = absurd w

-- where what stands after a space is no operand
pub walk_broken : (k : ℕ) (s : List ℕ) (ns : List Name) (g : Gate) (y : Read Formula) (p : Part) (enough : Bool) (v : List ℕ)
    → WalkOf k s ns g y (Some p) enough → found tt v ≡ eat (space ∷ []) (drop p.next.at s) → bad ≡ read_formula v → bad ≡ gate_on g y
walk_broken k s ns g (found e u) p enough v (going fs _ w) n x =
    ap (λ (o : Read Operands). after o (λ fs t. close_gate g e fs t))
    (walk_on k s ns g e u fs p None None v bad w n (sym x) refl tt)
walk_broken k s ns g bad p enough v w n x = absurd w
