-- The formulas say what the cubes say: a conjunction of literals is 1 on the rows that they cover, and an output's disjunction on
-- the rows of its on-set. Different names keep one input's digit from another's. The formulas are nested three deep at the most,
-- name inputs alone, and can be written. Assumes nothing.
use Rattle.std.specs.Prelude.{◌≡◌, refl, Bool, true, false, not, ◌&&◌, ◌||◌, List, [], ◌∷◌, map, ℕ, suc, ◌≤◌, ◌<◌, length}
use Rattle.std.proofs.Common.{sym, ap, ap₂, ◌∙◌, arith}
use Rattle.std.proofs.lemmas.Bool.{not-true}
use Rattle.bits.specs.Logic.{pick}
use Rattle.bits.specs.LogicLaws.{and_left, and_right, and_both, or_second, neither_first, neither_second}
use Rattle.bits.specs.Digit.{on}
use Rattle.names.specs.Name.{Name, is_name, same_name, among, distinct, all_among}
use Rattle.names.specs.Names.{all_names}
use Rattle.names.specs.SameLaws.{same_name_self, same_name_turned}
use Rattle.cursor.specs.Opening.{Gate, and_gate, or_gate}
use Rattle.formula.specs.Tree.{Formula, depth, depths, knows, knows_all}
use Rattle.formula.specs.Printer.{spelled, spelled_all}
use Rattle.formula.specs.Value.{every, some, combine, value, values, on_row}
use Rattle.formula.specs.GateLaws.{combine_one}
use Rattle.cubes.specs.Cube.{Literal, is_zero, is_one, any, Cube}
use Rattle.cubes.specs.Cover.{covers, marked, cover_on, cube_at}
use Rattle.cubes.specs.Terms.{operands_of, joined, literal_formulas, cube_formula, on_set, cover_formula}

-- ---- formulas under a gate
values_of : (v : Name → Bool) (fs : List Formula) → values v (operands_of fs) ≡ map (value v) fs
unfolding values
values_of v [] = refl
values_of v (f ∷ fs) = ap (λ (l : List Bool). value v f ∷ l) (values_of v fs)

joined-value : (v : Name → Bool) (g : Gate) (b : Bool) (fs : List Formula)
    → combine g [] ≡ b
    → value v (joined g b fs) ≡ combine g (map (value v) fs)
unfolding joined value
joined-value v g b [] h = sym h
joined-value v g b (f ∷ []) h = sym (combine_one g (value v f))
joined-value v g b (e ∷ f ∷ fs) h = ap (λ (l : List Bool). combine g (value v e ∷ value v f ∷ l)) (values_of v fs)

all-value : (v : Name → Bool) (fs : List Formula) → value v (joined and_gate true fs) ≡ every (map (value v) fs)
unfolding combine
all-value v fs = joined-value v and_gate true fs refl

some-value : (v : Name → Bool) (fs : List Formula) → value v (joined or_gate false fs) ≡ some (map (value v) fs)
unfolding combine
some-value v fs = joined-value v or_gate false fs refl

-- ---- the inputs' values on a row
-- each name has the row's digit that its place gives, the first name the highest
abbrev Placed : (Name → Bool) → List Name → ℕ → Type 0
Placed v [] r = Unit {0}
Placed v (n ∷ ns) r = (v n ≡ on r (length ns)) × Placed v ns r

-- a further name in front changes no other's value
placed_behind : (m : Name) (ms ns : List Name) (r : ℕ) → among m ns ≡ false → Placed (on_row ms r) ns r → Placed (on_row (m ∷ ms) r) ns r
unfolding among on_row
placed_behind m ms [] r e p = tt
placed_behind m ms (n ∷ ns) r e p =
    let other = same_name_turned n m (neither_first (same_name n m) (among m ns) e) in (
      ap (λ (b : Bool). pick b (on r (length ms)) (on_row ms r n)) other ∙ p.0,
      placed_behind m ms ns r (neither_second (same_name n m) (among m ns) e) p.1,
    )

row_placed : (ns : List Name) (r : ℕ) → distinct ns ≡ true → Placed (on_row ns r) ns r
unfolding distinct on_row
row_placed [] r e = tt
row_placed (n ∷ ns) r e =
    let new = not-true (among n ns) (and_left (not (among n ns)) (distinct ns) e) in (
      ap (λ (b : Bool). pick b (on r (length ns)) (on_row ns r n)) (same_name_self n),
      placed_behind n ns ns r new (row_placed ns r (and_right (not (among n ns)) (distinct ns) e)),
    )

-- ---- a cube
literals_value : (v : Name → Bool) (ns : List Name) (ls : List Literal) (r : ℕ)
    → length ls ≡ length ns
    → Placed v ns r
    → every (map (value v) (literal_formulas ns ls)) ≡ covers ls r
unfolding literal_formulas value covers
literals_value v [] [] r e p = refl
literals_value v [] (l ∷ ls) r e p = absurd (omega arith)
literals_value v (n ∷ ns) [] r e p = absurd (omega arith)
literals_value v (n ∷ ns) (is_zero ∷ ls) r e p =
    let k : length ls ≡ length ns = omega arith in
    ap₂ (λ (a b : Bool). not a && b) (p.0 ∙ ap (on r) (sym k)) (literals_value v ns ls r k p.1)
literals_value v (n ∷ ns) (is_one ∷ ls) r e p =
    let k : length ls ≡ length ns = omega arith in
    ap₂ (λ (a b : Bool). a && b) (p.0 ∙ ap (on r) (sym k)) (literals_value v ns ls r k p.1)
literals_value v (n ∷ ns) (any ∷ ls) r e p = literals_value v ns ls r (omega arith) p.1

pub cube-value : (ns : List Name) (ls : List Literal) (r : ℕ)
    → distinct ns ≡ true
    → length ls ≡ length ns
    → value (on_row ns r) (joined and_gate true (literal_formulas ns ls)) ≡ covers ls r
cube-value ns ls r e k = all-value (on_row ns r) (literal_formulas ns ls) ∙ literals_value (on_row ns r) ns ls r k (row_placed ns r e)

-- ---- an output
set_value : (ns : List Name) (cs : List Cube) (o r : ℕ)
    → distinct ns ≡ true
    → ((k : ℕ) → k < length cs → length (cube_at cs k).literals ≡ length ns)
    → some (map (value (on_row ns r)) (map (cube_formula ns) (on_set o cs))) ≡ cover_on cs o r
unfolding on_set cover_on
set_value ns [] o r e h = refl
set_value ns (c ∷ cs) o r e h =
    go (marked c o) (cube-value ns c.literals r e (h 0 (omega arith))) (set_value ns cs o r e (λ k l. h (suc k) (omega arith)))
  where
    go : (b : Bool)
        → value (on_row ns r) (cube_formula ns c) ≡ covers c.literals r
        → some (map (value (on_row ns r)) (map (cube_formula ns) (on_set o cs))) ≡ cover_on cs o r
        → some (map (value (on_row ns r)) (map (cube_formula ns) (pick b (c ∷ on_set o cs) (on_set o cs))))
        ≡ (b && covers c.literals r) || cover_on cs o r
    go true p q = ap₂ (λ (a b : Bool). a || b) p q
    go false p q = q

pub cover_value : (ns : List Name) (cs : List Cube) (o r : ℕ)
    → distinct ns ≡ true
    → ((k : ℕ) → k < length cs → length (cube_at cs k).literals ≡ length ns)
    → value (on_row ns r) (cover_formula ns cs o) ≡ cover_on cs o r
unfolding cover_formula
cover_value ns cs o r e h = some-value (on_row ns r) (map (cube_formula ns) (on_set o cs)) ∙ set_value ns cs o r e h

-- ---- what holds of every formula under a gate
abbrev Each : {A : Type 0} → (A → Type 0) → List A → Type 0
Each P [] = Unit {0}
Each P (x ∷ xs) = P x × Each P xs

each_map : {A B : Type 0} (P : B → Type 0) (f : A → B) (xs : List A) → ((x : A) → P (f x)) → Each P (map f xs)
each_map P f [] h = tt
each_map P f (x ∷ xs) h = (h x, each_map P f xs h)

-- how deep
depths_of : (d : ℕ) (fs : List Formula) → Each (λ f. depth f ≤ d) fs → depths (operands_of fs) ≤ d
unfolding depths
depths_of d [] h = omega arith
depths_of d (f ∷ fs) h = omega (arith, h.0, depths_of d fs h.1)

joined_depth : (g : Gate) (b : Bool) (d : ℕ) (fs : List Formula) → Each (λ f. depth f ≤ d) fs → depth (joined g b fs) ≤ suc d
unfolding joined depth
joined_depth g b d [] h = omega arith
joined_depth g b d (f ∷ []) h = omega (arith, h.0)
joined_depth g b d (e ∷ f ∷ fs) h = omega (arith, h.0, h.1.0, depths_of d fs h.1.1)

literals_depth : (ns : List Name) (ls : List Literal) → Each (λ f. depth f ≤ 1) (literal_formulas ns ls)
unfolding literal_formulas depth
literals_depth [] ls = tt
literals_depth (n ∷ ns) [] = tt
literals_depth (n ∷ ns) (is_zero ∷ ls) = (omega arith, literals_depth ns ls)
literals_depth (n ∷ ns) (is_one ∷ ls) = (omega arith, literals_depth ns ls)
literals_depth (n ∷ ns) (any ∷ ls) = literals_depth ns ls

pub cover_depth : (ns : List Name) (cs : List Cube) (o : ℕ) → depth (cover_formula ns cs o) ≤ 3
unfolding cover_formula
cover_depth ns cs o =
    joined_depth or_gate false 2 (map (cube_formula ns) (on_set o cs))
    (each_map (λ f. depth f ≤ 2) (cube_formula ns) (on_set o cs)
    (λ c. joined_depth and_gate true 1 (literal_formulas ns c.literals) (literals_depth ns c.literals)))

-- which names
knows_of : (ns : List Name) (fs : List Formula) → Each (λ f. knows ns f ≡ true) fs → knows_all ns (operands_of fs) ≡ true
unfolding knows_all
knows_of ns [] h = refl
knows_of ns (f ∷ fs) h = and_both (knows ns f) (knows_all ns (operands_of fs)) h.0 (knows_of ns fs h.1)

joined_knows : (ns : List Name) (g : Gate) (b : Bool) (fs : List Formula) → Each (λ f. knows ns f ≡ true) fs → knows ns (joined g b fs) ≡ true
unfolding joined knows
joined_knows ns g b [] h = refl
joined_knows ns g b (f ∷ []) h = h.0
joined_knows ns g b (e ∷ f ∷ fs) h = rw (h.0, h.1.0) (knows_of ns fs h.1.1)

literals_know : (ms ns : List Name) (ls : List Literal) → all_among ns ms ≡ true → Each (λ f. knows ms f ≡ true) (literal_formulas ns ls)
unfolding literal_formulas knows all_among
literals_know ms [] ls e = tt
literals_know ms (n ∷ ns) [] e = tt
literals_know ms (n ∷ ns) (is_zero ∷ ls) e =
    (and_left (among n ms) (all_among ns ms) e, literals_know ms ns ls (and_right (among n ms) (all_among ns ms) e))
literals_know ms (n ∷ ns) (is_one ∷ ls) e =
    (and_left (among n ms) (all_among ns ms) e, literals_know ms ns ls (and_right (among n ms) (all_among ns ms) e))
literals_know ms (n ∷ ns) (any ∷ ls) e = literals_know ms ns ls (and_right (among n ms) (all_among ns ms) e)

all_among_more : (m : Name) (ns ms : List Name) → all_among ns ms ≡ true → all_among ns (m ∷ ms) ≡ true
unfolding all_among among
all_among_more m [] ms e = refl
all_among_more m (n ∷ ns) ms e =
    and_both (same_name m n || among n ms) (all_among ns (m ∷ ms))
    (or_second (same_name m n) (among n ms) (and_left (among n ms) (all_among ns ms) e))
    (all_among_more m ns ms (and_right (among n ms) (all_among ns ms) e))

all_among_self : (ns : List Name) → all_among ns ns ≡ true
unfolding all_among among
all_among_self [] = refl
all_among_self (n ∷ ns) = rw (same_name_self n) (all_among_more n ns ns (all_among_self ns))

pub cover_knows : (ns : List Name) (cs : List Cube) (o : ℕ) → knows ns (cover_formula ns cs o) ≡ true
unfolding cover_formula
cover_knows ns cs o =
    joined_knows ns or_gate false (map (cube_formula ns) (on_set o cs))
    (each_map (λ f. knows ns f ≡ true) (cube_formula ns) (on_set o cs)
    (λ c. joined_knows ns and_gate true (literal_formulas ns c.literals) (literals_know ns ns c.literals (all_among_self ns))))

-- how spelled
spelled_of : (fs : List Formula) → Each (λ f. spelled f ≡ true) fs → spelled_all (operands_of fs) ≡ true
unfolding spelled_all
spelled_of [] h = refl
spelled_of (f ∷ fs) h = and_both (spelled f) (spelled_all (operands_of fs)) h.0 (spelled_of fs h.1)

joined_spelled : (g : Gate) (b : Bool) (fs : List Formula) → Each (λ f. spelled f ≡ true) fs → spelled (joined g b fs) ≡ true
unfolding joined spelled
joined_spelled g b [] h = refl
joined_spelled g b (f ∷ []) h = h.0
joined_spelled g b (e ∷ f ∷ fs) h = rw (h.0, h.1.0) (spelled_of fs h.1.1)

literals_spelled : (ns : List Name) (ls : List Literal) → all_names ns ≡ true → Each (λ f. spelled f ≡ true) (literal_formulas ns ls)
unfolding literal_formulas spelled all_names
literals_spelled [] ls e = tt
literals_spelled (n ∷ ns) [] e = tt
literals_spelled (n ∷ ns) (is_zero ∷ ls) e =
    (and_left (is_name n) (all_names ns) e, literals_spelled ns ls (and_right (is_name n) (all_names ns) e))
literals_spelled (n ∷ ns) (is_one ∷ ls) e =
    (and_left (is_name n) (all_names ns) e, literals_spelled ns ls (and_right (is_name n) (all_names ns) e))
literals_spelled (n ∷ ns) (any ∷ ls) e = literals_spelled ns ls (and_right (is_name n) (all_names ns) e)

pub cover_spelled : (ns : List Name) (cs : List Cube) (o : ℕ) → all_names ns ≡ true → spelled (cover_formula ns cs o) ≡ true
unfolding cover_formula
cover_spelled ns cs o e =
    joined_spelled or_gate false (map (cube_formula ns) (on_set o cs))
    (each_map (λ f. spelled f ≡ true) (cube_formula ns) (on_set o cs)
    (λ c. joined_spelled and_gate true (literal_formulas ns c.literals) (literals_spelled ns c.literals e)))
