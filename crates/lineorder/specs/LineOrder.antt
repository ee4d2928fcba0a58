-- Texts of lines compare line by line, each line with its 0x0A: a line has no 0x0A inside, so no ended line is the beginning
-- of another. The lines need not be of one length. Assumes nothing.
use Rattle.std.specs.Prelude.{◌≡◌, refl, true, not, List, [], ◌∷◌, ◌++◌, eqb}
use Rattle.std.proofs.Common.{sym, ap, ◌∙◌, eq-eqb}
use Prim.Native.Nat.{ℕ, Ordering, compare}
use Rattle.std.proofs.lemmas.Bool.{not-true}
use Rattle.bits.specs.LogicLaws.{true_false, and_left, and_right}
use Rattle.text.specs.LineLaws.{unbroken-tail}
use Rattle.text.specs.Bytes.{newline}
use Rattle.text.specs.Unbroken.{unbroken, all_unbroken}
use Rattle.order.specs.Order.{then, list_order, byte_order}
use Rattle.order.specs.OrderLaws.{compare_total, then_then}
use Rattle.order.proofs.TotalLaws.{bytes_total}
use Rattle.text.specs.Line.{ended_lines}

-- ======== definitions
-- the order of two lines with their ends
unfoldable pub line_order : List ℕ → List ℕ → Ordering
line_order a b = byte_order (a ++ (newline ∷ [])) (b ++ (newline ∷ []))

-- ======== laws
pub line_self : (a : List ℕ) → line_order a a ≡ Ordering.eq
unfolding line_order
line_self a = bytes_total.self (a ++ (newline ∷ []))

-- bytes that differ decide, whatever follows
differing : (x y : ℕ) (o p q : Ordering) → (x ≡ y → ⊥) → then (compare x y) o ≡ then (then (compare x y) p) q
differing x y o p q h = go (compare x y) refl
  where
    go : (c : Ordering) → compare x y ≡ c → then c o ≡ then (then c p) q
    go Ordering.lt e = refl
    go Ordering.eq e = absurd (h (compare_total.equal x y e))
    go Ordering.gt e = refl

no_end : (x : ℕ) (a : List ℕ) → unbroken (x ∷ a) ≡ true → x ≡ newline → ⊥
unfolding unbroken
no_end x a h e =
    true_false (sym (eq-eqb x newline e) ∙ not-true (eqb x newline) (and_left (not (eqb x newline)) (unbroken a) h))

line_first : (a b s t : List ℕ)
    → unbroken a ≡ true
    → unbroken b ≡ true
    → byte_order (a ++ (newline ∷ s)) (b ++ (newline ∷ t)) ≡ then (line_order a b) (byte_order s t)
unfolding list_order line_order
line_first [] [] s t g h = refl
line_first [] (y ∷ b) s t g h =
    differing newline y (byte_order s (b ++ (newline ∷ t))) (byte_order [] (b ++ (newline ∷ []))) (byte_order s t) (λ e. no_end y b h (sym e))
line_first (x ∷ a) [] s t g h =
    differing x newline (byte_order (a ++ (newline ∷ s)) t) (byte_order (a ++ (newline ∷ [])) []) (byte_order s t) (no_end x a g)
line_first (x ∷ a) (y ∷ b) s t g h =
    ap (then (compare x y)) (line_first a b s t (unbroken-tail x a g) (unbroken-tail y b h))
    ∙ sym (then_then (compare x y) (line_order a b) (byte_order s t))

some_more : (a s : List ℕ) → (byte_order [] (a ++ (newline ∷ s)) ≡ Ordering.lt) × (byte_order (a ++ (newline ∷ s)) [] ≡ Ordering.gt)
unfolding list_order
some_more [] s = (refl, refl)
some_more (x ∷ a) s = (refl, refl)

pub ended_order : (ls ms : List (List ℕ))
    → all_unbroken ls ≡ true
    → all_unbroken ms ≡ true
    → byte_order (ended_lines ls) (ended_lines ms) ≡ list_order line_order ls ms
unfolding list_order ended_lines all_unbroken
ended_order [] [] g h = refl
ended_order [] (m ∷ ms) g h = (some_more m (ended_lines ms)).0
ended_order (l ∷ ls) [] g h = (some_more l (ended_lines ls)).1
ended_order (l ∷ ls) (m ∷ ms) g h =
    line_first l m (ended_lines ls) (ended_lines ms) (and_left (unbroken l) (all_unbroken ls) g) (and_left (unbroken m) (all_unbroken ms) h)
    ∙ ap (then (line_order l m))
    (ended_order ls ms (and_right (unbroken l) (all_unbroken ls) g) (and_right (unbroken m) (all_unbroken ms) h))

-- lists of lines that are equal
pub lines_self : (ls : List (List ℕ)) → list_order line_order ls ls ≡ Ordering.eq
unfolding list_order
lines_self [] = refl
lines_self (l ∷ ls) = ap (λ (o : Ordering). then o (list_order line_order ls ls)) (line_self l) ∙ lines_self ls
