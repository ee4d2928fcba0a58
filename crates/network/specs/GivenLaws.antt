-- Names that are given: they are read exactly where names stand that are the same, whatever their spelling, and a byte
-- follows that stands in no name. So each line's head is read in every spelling of its names. Assumes nothing.
use Rattle.std.specs.Prelude.{◌≡◌, Bool, false}
use Rattle.std.proofs.Math.Path.{refl, sym, ap}
use Rattle.std.proofs.Common.{◌∙◌}
use Rattle.std.proofs.Math.Bool.{true}
use mathlib.Core.List.{List, [], ◌∷◌, ◌++◌, append_assoc}
use Prim.Native.Nat.{ℕ}
use Rattle.bits.specs.Logic.{pick}
use Rattle.bits.specs.LogicLaws.{true_false, and_left, and_right, and_both}
use Rattle.text.specs.Bytes.{bytes, Read, found, bad, after, eat, space}
use Rattle.text.specs.EatLaws.{found-rest, eat_own, eat-found, after-found, pick-found}
use Rattle.names.specs.Name.{Name, is_name, read_name, same_name}
use Rattle.names.specs.Front.{Stops}
use Rattle.names.specs.Names.{all_names}
use Rattle.names.specs.Spelled.{same_names}
use Rattle.names.specs.ReadLaws.{name_read_of_print, name_print_of_read, space-stops, bracket_stops}
use Rattle.network.specs.Printer.{led, led_all, lut_name, lut_head, node_head}
use Rattle.network.specs.Given.{read_given, read_item, read_givens}
use Rattle.network.specs.Reader.{read_inputs, read_lut_head, read_node_head}
use Rattle.network.specs.ChainLaws.{part-found}

-- ---- one name
module _ (n m : Name) (t : List ℕ) (e : same_name n m ≡ true) (h : is_name m ≡ true) (k : Stops t) where
  given_read : read_given n (m ++ t) ≡ found tt t
  unfolding read_given
  given_read = rw (name_read_of_print m t h k, e) refl

  item_read : (first : Bool) → read_item first n (led first m ++ t) ≡ found tt t
  item_read true = given_read
  item_read false =
      part-found (eat (space ∷ []) (space ∷ (m ++ t))) (λ u. read_given n u) (m ++ t) (eat_own (space ∷ []) (m ++ t)) ∙ given_read

-- the name n stands at the front of s in some spelling, with t after it
abbrev GivenAt : Bool → Name → List ℕ → List ℕ → Type 0
GivenAt first n s t = (m : Name) × (same_name n m ≡ true) × (s ≡ led first m ++ t)

given-found : (n : Name) (s t : List ℕ) → read_given n s ≡ found tt t → GivenAt true n s t
unfolding read_given
given-found n s t e =
    let (m, u, f, g) = after-found (read_name s) (λ m u. pick (same_name n m) (found tt u) bad) tt t e in
    let (p, q) = pick-found (same_name n m) (found tt u) g in
    (m, p, (name_print_of_read s m u f).is_split ∙ ap (λ (v : List ℕ). m ++ v) (found-rest q))

item-found : (first : Bool) (n : Name) (s t : List ℕ) → read_item first n s ≡ found tt t → GivenAt first n s t
item-found true n s t e = given-found n s t e
item-found false n s t e =
    let (_, u, f, g) = after-found (eat (space ∷ []) s) (λ _ u. read_given n u) tt t e in
    let (m, p, q) = given-found n u t g in
    (m, p, eat-found (space ∷ []) s u f ∙ ap (λ (v : List ℕ). space ∷ v) q)

-- ---- the names of a list
list_stops : (ms : List Name) (t : List ℕ) → Stops t → Stops (led_all false ms ++ t)
unfolding led_all
list_stops [] t k = k
list_stops (m ∷ ms) t k = space-stops ((m ++ led_all false ms) ++ t)

givens_read : (first : Bool) (ns ms : List Name) (t : List ℕ)
    → same_names ns ms ≡ true
    → all_names ms ≡ true
    → Stops t
    → read_givens first ns (led_all first ms ++ t) ≡ found tt t
unfolding read_givens led_all same_names all_names
givens_read first [] [] t e h k = refl
givens_read first [] (m ∷ ms) t e h k = absurd (true_false (sym e))
givens_read first (n ∷ ns) [] t e h k = absurd (true_false (sym e))
givens_read first (n ∷ ns) (m ∷ ms) t e h k =
    let others = led_all false ms ++ t in
    let onward : List ℕ → Read (Unit {0}) = λ u. read_givens false ns u in
    ap (λ (s : List ℕ). after (read_item first n s) (λ _ u. onward u)) (append_assoc (led first m) (led_all false ms) t)
    ∙ part-found (read_item first n (led first m ++ others)) onward others
    (item_read n m others (and_left (same_name n m) (same_names ns ms) e) (and_left (is_name m) (all_names ms) h) (list_stops ms t k) first)
    ∙ givens_read false ns ms t (and_right (same_name n m) (same_names ns ms) e) (and_right (is_name m) (all_names ms) h) k

-- the names ns stand at the front of s in some spelling, with t after them
abbrev GivensAt : Bool → List Name → List ℕ → List ℕ → Type 0
GivensAt first ns s t = (ms : List Name) × (same_names ns ms ≡ true) × (s ≡ led_all first ms ++ t)

givens_found : (first : Bool) (ns : List Name) (s t : List ℕ) → read_givens first ns s ≡ found tt t → GivensAt first ns s t
unfolding read_givens led_all same_names
givens_found first [] s t e = ([], refl, found-rest e)
givens_found first (n ∷ ns) s t e =
    let (_, u, f, g) = after-found (read_item first n s) (λ _ u. read_givens false ns u) tt t e in
    let (m, p, q) = item-found first n s u f in
    let (ms, i, j) = givens_found false ns u t g in (
      m ∷ ms,
      and_both (same_name n m) (same_names ns ms) p i,
      q ∙ ap (λ (v : List ℕ). led first m ++ v) j ∙ sym (append_assoc (led first m) (led_all false ms) t),
    )

-- ---- the inputs that end a list
module _ (first : Bool) (ns : List Name) where
  pub inputs_read : (ms : List Name) (t : List ℕ)
      → same_names ns ms ≡ true
      → all_names ms ≡ true
      → read_inputs first ns ((led_all first ms ++ bytes ") ") ++ t) ≡ found tt t
  unfolding read_inputs
  inputs_read ms t e h =
      let u = bytes ") " ++ t in
      ap (λ (s : List ℕ). after (read_givens first ns s) (λ _ v. eat (bytes ") ") v)) (append_assoc (led_all first ms) (bytes ") ") t)
      ∙ part-found (read_givens first ns (led_all first ms ++ u)) (λ v. eat (bytes ") ") v) u
      (givens_read first ns ms u e h (bracket_stops (space ∷ t)))
      ∙ eat_own (bytes ") ") t

  pub inputs_found : (s t : List ℕ)
      → read_inputs first ns s ≡ found tt t
      → (ms : List Name) × (same_names ns ms ≡ true) × (s ≡ (led_all first ms ++ bytes ") ") ++ t)
  unfolding read_inputs
  inputs_found s t e =
      let (_, u, f, g) = after-found (read_givens first ns s) (λ _ u. eat (bytes ") ") u) tt t e in
      let (ms, p, q) = givens_found first ns s u f in (
        ms,
        p,
        q ∙ ap (λ (v : List ℕ). led_all first ms ++ v) (eat-found (bytes ") ") u t g)
            ∙ sym (append_assoc (led_all first ms) (bytes ") ") t),
      )

-- ---- the head of a lut line
module _ (bs : List Name) (i : ℕ) where
  abbrev after-number : List ℕ → Read (Unit {0})
  after-number s = after (eat (bytes " (") s) (λ _ t. read_inputs true bs t)

  abbrev after-word : List ℕ → Read (Unit {0})
  after-word s = after (eat (lut_name i) s) (λ _ t. after-number t)

  -- its parts, up to its inputs and what follows them
  head_parts : (ms : List Name) (t : List ℕ)
      → lut_head ms i ++ t ≡ bytes "(lut " ++ (lut_name i ++ (bytes " (" ++ ((led_all true ms ++ bytes ") ") ++ t)))
  unfolding lut_head
  head_parts ms t =
      ap (λ (u : List ℕ). bytes "(lut " ++ u) (append_assoc (lut_name i) (bytes " (" ++ (led_all true ms ++ bytes ") ")) t)

  pub lut_head_read : (ms : List Name) (t : List ℕ)
      → same_names bs ms ≡ true
      → all_names ms ≡ true
      → read_lut_head bs i (lut_head ms i ++ t) ≡ found tt t
  unfolding read_lut_head
  lut_head_read ms t e h =
      let inputs = (led_all true ms ++ bytes ") ") ++ t in
      let list = bytes " (" ++ inputs in
      let name = lut_name i ++ list in
      ap (λ (s : List ℕ). after (eat (bytes "(lut ") s) (λ _ u. after-word u)) (head_parts ms t)
      ∙ part-found (eat (bytes "(lut ") (bytes "(lut " ++ name)) after-word name (eat_own (bytes "(lut ") name)
      ∙ part-found (eat (lut_name i) name) after-number list (eat_own (lut_name i) list)
      ∙ part-found (eat (bytes " (") list) (λ u. read_inputs true bs u) inputs (eat_own (bytes " (") inputs)
      ∙ inputs_read true bs ms t e h

  pub lut_head_found : (l s : List ℕ)
      → read_lut_head bs i l ≡ found tt s
      → (ms : List Name) × (same_names bs ms ≡ true) × (l ≡ lut_head ms i ++ s)
  unfolding read_lut_head
  lut_head_found l s e =
      let (_, t, f, g) = after-found (eat (bytes "(lut ") l) (λ _ t. after-word t) tt s e in
      let (_, u, h, k) = after-found (eat (lut_name i) t) (λ _ u. after-number u) tt s g in
      let (_, v, p, q) = after-found (eat (bytes " (") u) (λ _ v. read_inputs true bs v) tt s k in
      let (ms, x, y) = inputs_found true bs v s q in (
        ms,
        x,
        eat-found (bytes "(lut ") l t f
            ∙ ap (λ (z : List ℕ). bytes "(lut " ++ z) (eat-found (lut_name i) t u h)
            ∙ ap (λ (z : List ℕ). bytes "(lut " ++ (lut_name i ++ z)) (eat-found (bytes " (") u v p)
            ∙ ap (λ (z : List ℕ). bytes "(lut " ++ (lut_name i ++ (bytes " (" ++ z))) y
            ∙ sym (head_parts ms s),
      )

-- ---- the head of a node line
module _ (n : Name) where
  pub node_head_read : (m : Name) (t : List ℕ)
      → same_name n m ≡ true
      → is_name m ≡ true
      → read_node_head n (node_head m ++ t) ≡ found tt t
  unfolding read_node_head node_head
  node_head_read m t e h =
      let list = bytes " (" ++ t in
      let onward : List ℕ → Read (Unit {0}) = λ u. after (read_given n u) (λ _ v. eat (bytes " (") v) in
      ap (λ (s : List ℕ). after (eat (bytes "(node ") (bytes "(node " ++ s)) (λ _ u. onward u)) (append_assoc m (bytes " (") t)
      ∙ part-found (eat (bytes "(node ") (bytes "(node " ++ (m ++ list))) onward (m ++ list) (eat_own (bytes "(node ") (m ++ list))
      ∙ part-found (read_given n (m ++ list)) (λ v. eat (bytes " (") v) list (given_read n m list e h (space-stops (0x28 ∷ t)))
      ∙ eat_own (bytes " (") t

  pub node_head_found : (l s : List ℕ)
      → read_node_head n l ≡ found tt s
      → (m : Name) × (same_name n m ≡ true) × (l ≡ node_head m ++ s)
  unfolding read_node_head node_head
  node_head_found l s e =
      let (_, t, f, g) = after-found (eat (bytes "(node ") l) (λ _ t. after (read_given n t) (λ _ u. eat (bytes " (") u)) tt s e in
      let (_, u, k, p) = after-found (read_given n t) (λ _ u. eat (bytes " (") u) tt s g in
      let (m, x, y) = given-found n t u k in
      let name : t ≡ (m ++ bytes " (") ++ s
      = y ∙ ap (λ (z : List ℕ). m ++ z) (eat-found (bytes " (") u s p) ∙ sym (append_assoc m (bytes " (") s) in
      (m, x, eat-found (bytes "(node ") l t f ∙ ap (λ (z : List ℕ). bytes "(node " ++ z) name)
