-- The loop over the operands of a gate keeps what is known after each operand, and at the closing bracket the gate comes to what
-- the definitions say: a broken operand breaks the gate, and otherwise depth, names and values are those of all operands so far.
-- Assumes nothing.
use Rattle.std.specs.Prelude.{◌≡◌, refl, Bool, true, false, not, ◌&&◌, List, [], ◌∷◌, ℕ, suc, ◌≤◌, ◌<◌, min, max, length, drop, Option, Some, None}
use Rattle.std.proofs.Common.{sym, ap, ◌∙◌, subst, arith}
use Rattle.bits.specs.Logic.{andb}
use Rattle.bits.specs.LogicLaws.{true_false}
use Rattle.limits.specs.Limits.{max_depth}
use Rattle.text.specs.Bytes.{Read, found, bad, after, eat, close_bracket, space}
use Rattle.text.specs.EatLaws.{bad_found, found-rest}
use Rattle.names.specs.Name.{Name}
use Rattle.rows.specs.Words.{Rowwise}
use Rattle.rows.specs.WordLaws.{rowwise_same, rowwise_one}
use Rattle.cursor.specs.Opening.{Gate}
use Rattle.cursor.specs.Item.{At, MovedIs, from}
use Rattle.cursor.specs.declared.Cursor.{Cursor}
use Rattle.formula.specs.Tree.{Formula, negation, gate, Operands, none, depth, depths, knows, knows_all}
use Rattle.formula.specs.Reader.{read_formula, read_operands, close_gate, close_not}
use Rattle.formula.specs.Value.{value, on_row}
use Rattle.formula.specs.Onto.{onto}
use Rattle.formula.specs.GateLaws.{combine_one}
use Rattle.formula.specs.Part.{PartIs, Both, read_so_far, Skimmed, Unread, ClosedBy, Closed, Negated, Joined, deepened, gate_on}
use Rattle.formula.specs.Skim.{spelling}
use Rattle.formula.specs.Walk.{before, Going, going, WalkOf, then}
use Rattle.formula.specs.TurnLaws.{spelled_shorter, no_operand_after}
use Rattle.formula.specs.declared.Part.{Part}

-- ---- what was read so far
pub part_read : (k : ℕ) (s : List ℕ) (ns : List Name) (q : Read Formula) (p : Option Part) → PartIs k s ns q p → read_so_far s p ≡ spelling q
part_read k s ns (found f t) (Some p) h = ap (λ (l : List ℕ). found tt l) h.rest
part_read k s ns (found f t) None h = absurd (bad_found h)
part_read k s ns bad (Some p) h = absurd h
part_read k s ns bad None h = refl

so_far_good : (s : List ℕ) (p : Option Part) (q : Part) → p ≡ Some q → read_so_far s p ≡ found tt (drop q.next.at s)
so_far_good s p q e = rw e refl

so_far_bad : (s : List ℕ) (p : Option Part) → p ≡ None → read_so_far s p ≡ bad
so_far_bad s p e = rw e refl

-- ---- the loop
pub walk_start : (k : ℕ) (s : List ℕ) (ns : List Name) (g : Gate) (q : Read Formula) (p : Option Part) → PartIs k s ns q p
    → WalkOf k s ns g q p false
unfolding depth knows value
walk_start k s ns g (found e u) (Some p) h =
    going [] refl record {
      here = ap read_operands (sym h.rest) ∙ before_none (read_operands (drop p.next.at s));
      deep = h.deep ∙ ap (λ (d : ℕ). min d k) (omega arith);
      named = λ l. h.names (omega (arith, l)) ∙ and_one (knows ns e);
      rows = λ l. rowwise_same (h.rows (omega (arith, l))) (λ r _. sym (combine_one g (value (on_row ns r) e)));
    }
  where
    before_none : (r : Read Operands) → r ≡ before [] r
    before_none (found os t) = refl
    before_none bad = refl

    and_one : (b : Bool) → b ≡ andb b true
    and_one true = refl
    and_one false = refl
walk_start k s ns g (found e u) None h = absurd (bad_found h)
walk_start k s ns g bad (Some p) h = absurd h
walk_start k s ns g bad None h = tt

-- ---- a byte after what was read
pub then_good : (s : List ℕ) (p : Option Part) (q : Part) (b : ℕ) → p ≡ Some q → then s p b ≡ eat (b ∷ []) (drop q.next.at s)
then_good s p q b e = ap (λ (x : Read (Unit {0})). after x (λ _ t. eat (b ∷ []) t)) (so_far_good s p q e)

pub then_bad : (s : List ℕ) (p : Option Part) (b : ℕ) → p ≡ None → then s p b ≡ bad
then_bad s p b e = ap (λ (x : Read (Unit {0})). after x (λ _ t. eat (b ∷ []) t)) (so_far_bad s p e)

pub followed_by : (s : List ℕ) (p : Option Part) (q : Part) (b : ℕ) (m : Option Cursor) → p ≡ Some q → MovedIs s m (eat (b ∷ []) (drop q.next.at s))
    → MovedIs s m (then s p b)
followed_by s p q b m e h = subst (λ (x : Read (Unit {0})). MovedIs s m x) (sym (then_good s p q b e)) h

pub followed_by_nothing : (s : List ℕ) (p : Option Part) (b : ℕ) → p ≡ None → bad ≡ then s p b
followed_by_nothing s p b e = sym (then_bad s p b e)

-- ---- past the closing bracket
-- the part p just before the closing bracket of f: the values and names are f's, and the depth lacks f's own bracket
record Whole (k : ℕ) (ns : List Name) (f : Formula) (p : Part) : Type 0 where
  deep : deepened p.depth ≡ min (depth f) (suc k)
  named : depth f < suc k → p.known ≡ knows ns f
  rows : depth f < suc k → Rowwise (λ (r : ℕ). value (on_row ns r) f) p.rows

closed_is : (k : ℕ) (s : List ℕ) (ns : List Name) (f : Formula) (p : Part) (r : Option Part) → Whole k ns f p → Closed s (Some p) r
    → PartIs (suc k) s ns (after (eat (close_bracket ∷ []) (drop p.next.at s)) (λ _ t. found f t)) r
closed_is k s ns f p r w c = by (eat (close_bracket ∷ []) (drop p.next.at s)) r c
  where
    by : (x : Read (Unit {0})) (r : Option Part) → ClosedBy s (Some p) r x → PartIs (suc k) s ns (after x (λ _ t. found f t)) r
    by (found _ t) (Some r) h =
        record {
          inside = h.inside;
          rest = h.rest;
          deep = h.deep ∙ w.deep;
          names = λ l. h.named ∙ w.named l;
          rows = λ l. subst (λ (v : List ℕ). Rowwise (λ (i : ℕ). value (on_row ns i) f) v) (sym h.same) (w.rows l);
        }
    by (found _ t) None h = absurd (bad_found h)
    by bad (Some r) h = absurd h
    by bad None h = refl

closed_broken : (s : List ℕ) (p r : Option Part) → p ≡ None → Closed s p r → r ≡ None
closed_broken s p r e c = by r (subst (λ (x : Option Part). ClosedBy s x r (then s x close_bracket)) e c)
  where
    by : (r : Option Part) → ClosedBy s None r bad → r ≡ None
    by (Some r) h = absurd h
    by None h = refl

-- no formula, where none was read
closed_nothing : (k : ℕ) (s : List ℕ) (ns : List Name) (r : Option Part) → Closed s None r → PartIs k s ns bad r
closed_nothing k s ns r c = subst (λ (x : Option Part). PartIs k s ns bad x) (sym (closed_broken s None r refl c)) refl

-- what the code does at the closing bracket
pub closed_at : (s : List ℕ) (p r : Part) (c : Cursor) (x : Read (Unit {0})) → At s tt c x → r.next ≡ c
    → r.depth ≡ deepened p.depth → r.known ≡ p.known → r.rows ≡ p.rows → ClosedBy s (Some p) (Some r) x
closed_at s p r c x h moved deep named same =
    subst (λ (y : Read (Unit {0})). ClosedBy s (Some p) (Some r) y) h.is
    (record {
      inside = subst (λ (d : Cursor). d.at ≤ length s) (sym moved) h.inside;
      rest = ap (λ (d : Cursor). drop d.at s) moved;
      deep = deep;
      named = named;
      same = same;
    })

pub unclosed : (s : List ℕ) (p r : Option Part) (x : Read (Unit {0})) → bad ≡ x → r ≡ None → ClosedBy s p r x
unclosed s p r x e h = subst (λ (y : Option Part). ClosedBy s p y x) (sym h) (by p)
  where
    by : (p : Option Part) → ClosedBy s p None x
    by (Some p) = e
    by None = e

-- ---- a negation
pub negation_is : (k : ℕ) (s : List ℕ) (ns : List Name) (q : Read Formula) (p n r : Option Part) → k ≤ max_depth → PartIs k s ns q p
    → Both Negated p n → Closed s n r → PartIs (suc k) s ns (after q (λ f u. close_not f u)) r
unfolding depth knows value
negation_is k s ns (found f u) (Some p) (Some n) r z h m c =
    subst (λ (l : List ℕ). PartIs (suc k) s ns (close_not f l) r) (ap (λ k. drop k.at s) m.moved ∙ h.rest)
    (closed_is k s ns (negation f) n r whole c)
  where
    whole : Whole k ns (negation f) n
    whole =
        let d : n.depth ≡ min (depth f) k = m.deep ∙ h.deep in
        record {
          deep = omega (arith, d, z);
          named = λ l. m.named ∙ h.names (omega (arith, l));
          rows = λ l. rowwise_one not m.each (h.rows (omega (arith, l)));
        }
negation_is k s ns (found f u) (Some p) None r z h m c = absurd m
negation_is k s ns (found f u) None n r z h m c = absurd (bad_found h)
negation_is k s ns bad (Some p) n r z h m c = absurd h
negation_is k s ns bad None (Some n) r z h m c = absurd m
negation_is k s ns bad None None r z h m c = closed_nothing (suc k) s ns r c

-- ---- a gate
gate_whole : (k : ℕ) (s : List ℕ) (ns : List Name) (g : Gate) (e : Formula) (u : List ℕ) (f : Formula) (fs : List Formula) (p : Part)
    → k ≤ max_depth → Going k s ns g e u (f ∷ fs) p → Whole k ns (gate g e f (onto fs none)) p
unfolding depth knows value
gate_whole k s ns g e u f fs p z w =
    let d : p.depth ≡ min (max (depth e) (max (depth f) (depths (onto fs none)))) k = w.deep in
    record {
      deep = omega (arith, d, z);
      named = λ l. w.named (omega (arith, l)) ∙ and_same (knows ns e) (knows_all ns (onto (f ∷ fs) none));
      rows = λ l. w.rows (omega (arith, l));
    }
  where
    and_same : (a b : Bool) → andb a b ≡ (a && b)
    and_same true b = refl
    and_same false b = refl

read_all : (k : ℕ) (s : List ℕ) (ns : List Name) (g : Gate) (e : Formula) (u : List ℕ) (fs : List Formula) (p : Part)
    → Going k s ns g e u fs p → bad ≡ eat (space ∷ []) (drop p.next.at s) → read_operands u ≡ found (onto fs none) (drop p.next.at s)
read_all k s ns g e u fs p w n =
    w.here ∙ ap (before fs) (no_operand_after (drop p.next.at s) n)

pub walk_closed : (k : ℕ) (s : List ℕ) (ns : List Name) (g : Gate) (y : Read Formula) (p r : Option Part) → k ≤ max_depth
    → WalkOf k s ns g y p true → bad ≡ then s p space → Closed s p r → PartIs (suc k) s ns (gate_on g y) r
walk_closed k s ns g (found e u) (Some p) r z (going [] m w) n c = absurd (true_false m)
walk_closed k s ns g (found e u) (Some p) r z (going (f ∷ fs) m w) n c =
    subst (λ (o : Read Operands). PartIs (suc k) s ns (after o (λ fs t. close_gate g e fs t)) r)
    (sym (read_all k s ns g e u (f ∷ fs) p w n))
    (closed_is k s ns (gate g e f (onto fs none)) p r (gate_whole k s ns g e u f fs p z w) c)
walk_closed k s ns g (found e u) None r z w n c =
    subst (λ (o : Read Operands). PartIs (suc k) s ns (after o (λ fs t. close_gate g e fs t)) r) w (closed_nothing (suc k) s ns r c)
walk_closed k s ns g bad (Some p) r z w n c = absurd w
walk_closed k s ns g bad None r z w n c = closed_nothing (suc k) s ns r c

-- a gate has two operands or more
gate_short : (k : ℕ) (s : List ℕ) (ns : List Name) (g : Gate) (y : Read Formula) (p : Option Part)
    → WalkOf k s ns g y p false → bad ≡ then s p space → bad ≡ gate_on g y
gate_short k s ns g (found e u) (Some p) (going [] m w) n =
    sym (ap (λ (o : Read Operands). after o (λ fs t. close_gate g e fs t)) (read_all k s ns g e u [] p w n))
gate_short k s ns g (found e u) (Some p) (going (f ∷ fs) m w) n = absurd (true_false (sym m))
gate_short k s ns g (found e u) None w n = ap (λ (o : Read Operands). after o (λ fs t. close_gate g e fs t)) w
gate_short k s ns g bad (Some p) w n = absurd w
gate_short k s ns g bad None w n = refl

pub walk_short : (k : ℕ) (s : List ℕ) (ns : List Name) (g : Gate) (y : Read Formula) (p r : Option Part)
    → WalkOf k s ns g y p false → bad ≡ then s p space → r ≡ None → PartIs (suc k) s ns (gate_on g y) r
walk_short k s ns g y p r w n e = rw e (gate_short k s ns g y p w n)

-- ---- a formula that was only skimmed
pub unread_is : (k : ℕ) (s : List ℕ) (ns : List Name) (q : Read Formula) (m : Option Cursor) (p : Option Part) → k ≡ 0
    → MovedIs s m (spelling q) → Unread m p → PartIs k s ns q p
unread_is k s ns (found f t) (Some c) (Some p) z h u =
    record {
      inside = subst (λ (d : Cursor). d.at ≤ length s) (sym u.moved) h.inside;
      rest = ap (λ (d : Cursor). drop d.at s) u.moved ∙ found-rest h.is;
      deep = omega (arith, u.flat, z);
      names = λ l. absurd (omega (arith, l, z));
      rows = λ l. absurd (omega (arith, l, z));
    }
unread_is k s ns (found f t) (Some c) None z h u = absurd u
unread_is k s ns (found f t) None p z h u = absurd (bad_found h)
unread_is k s ns bad (Some c) p z h u = absurd (bad_found (sym h.is))
unread_is k s ns bad None (Some p) z h u = absurd u
unread_is k s ns bad None None z h u = refl

pub unread_part : (k : ℕ) (s : List ℕ) (ns : List Name) (q : Read Formula) (c : Cursor) (p : Part) → k ≡ 0 → At s tt c (spelling q)
    → Skimmed c p → PartIs k s ns q (Some p)
unread_part k s ns q c p = unread_is k s ns q (Some c) (Some p)

-- ---- what is left of the text
pub joined_read : (s : List ℕ) (g : Gate) (p : Part) (q r : Option Part) → Both (Joined g p) q r → read_so_far s r ≡ read_so_far s q
joined_read s g p (Some q) (Some r) j = ap (λ (d : Cursor). found tt (drop d.at s)) j.moved
joined_read s g p (Some q) None j = absurd j
joined_read s g p None (Some r) j = absurd j
joined_read s g p None None j = refl

pub joined_falls : (k : ℕ) (s : List ℕ) (ns : List Name) (g : Gate) (v : List ℕ) (p q r : Part) → PartIs k s ns (read_formula v) (Some q)
    → Joined g p q r → length (from s r.next) < length v
joined_falls k s ns g v p q r h j = rw j.moved (spelled_shorter v (from s q.next) (part_read k s ns (read_formula v) (Some q) h))
