-- Lists of names: the reader without its bound, and that reading is the inverse of printing. Assumes nothing.
use Rattle.std.specs.Prelude.{◌≡◌, refl, Bool, true, false, List, [], ◌∷◌, ◌++◌, ℕ, zero, suc, ◌<◌, eqb, length}
use Rattle.std.proofs.Common.{sym, ap, ◌∙◌, append_assoc, arith, eqb-true, ne_eqb}
use Rattle.bits.specs.Logic.{pick}
use Rattle.bits.specs.LogicLaws.{and_left, and_right, and_both}
use Rattle.text.specs.Bytes.{Read, found, bad, after, space, close_bracket}
use Rattle.text.specs.EatLaws.{bad_found, found-item, found-rest, after-found}
use Rattle.text.specs.After.{after_same}
use Rattle.names.specs.Name.{Name, is_name, read_name}
use Rattle.names.specs.Names.{print_names, names_within, read_names}
use Rattle.names.specs.Front.{Stops, NameFront, NamesFront}
use Rattle.names.specs.Names.{all_names}
use Rattle.names.specs.NameLaws.{read_name_shorter}
use Rattle.names.specs.ReadLaws.{space-stops, bracket_stops, name_read_of_print, name_print_of_read}

-- a name, and the names after it
abbrev one_more : Read Name → (List ℕ → Read (List Name)) → Read (List Name)
one_more r q = after r (λ n t. after (q t) (λ ns u. found (n ∷ ns) u))

-- ---- what was read stands at the front
no_names : (s t : List ℕ) → s ≡ t → NamesFront (close_bracket ∷ s) [] t
unfolding print_names all_names
no_names s t e = record { all_names_lem = refl; is_split = ap (λ (u : List ℕ). close_bracket ∷ u) e }

more_names : (s u t : List ℕ) (n : Name) (ns : List Name) → NameFront s n u → NamesFront u ns t → NamesFront (space ∷ s) (n ∷ ns) t
unfolding print_names all_names
more_names s u t n ns i j =
    record {
      all_names_lem = and_both (is_name n) (all_names ns) i.is_name_lem j.all_names_lem;
      is_split =
          ap (λ (x : List ℕ). space ∷ x)
          (i.is_split ∙ ap (λ (x : List ℕ). n ++ x) j.is_split ∙ sym (append_assoc n (print_names ns) (close_bracket ∷ t)));
    }

names_by : (c d : Bool) (b : ℕ) (s : List ℕ) (q : List ℕ → Read (List Name)) (ns : List Name) (t : List ℕ) → eqb b close_bracket ≡ c → eqb b space ≡ d
    → ((u : List ℕ) (ms : List Name) (v : List ℕ) → q u ≡ found ms v → NamesFront u ms v)
    → pick c (found [] s) (pick d (one_more (read_name s) q) bad) ≡ found ns t
    → NamesFront (b ∷ s) ns t
names_by true d b s q ns t x y h e = rw (eqb-true b close_bracket x, ← found-item e) (no_names s t (found-rest e))
names_by false true b s q ns t x y h e =
    let f = after-found (read_name s) (λ n u. after (q u) (λ ms v. found (n ∷ ms) v)) ns t e in
    let g = after-found (q f.1) (λ ms v. found (f.0 ∷ ms) v) ns t f.3 in
    rw (eqb-true b space y)
    (rw (found-item g.3, found-rest g.3)
    at (more_names s f.1 g.1 f.0 g.0 (name_print_of_read s f.0 f.1 f.2) (h f.1 g.0 g.1 g.2)))
names_by false false b s q ns t x y h e = absurd (bad_found e)

names_within_lem : (k : ℕ) (s : List ℕ) (ns : List Name) (t : List ℕ) → names_within k s ≡ found ns t → NamesFront s ns t
unfolding names_within
names_within_lem zero s ns t e = absurd (bad_found e)
names_within_lem (suc k) [] ns t e = absurd (bad_found e)
names_within_lem (suc k) (b ∷ s) ns t e =
    names_by (eqb b close_bracket) (eqb b space) b s (λ u. names_within k u) ns t refl refl (λ u ms v d. names_within_lem k u ms v d) e

pub names_print_of_read : (s : List ℕ) (ns : List Name) (t : List ℕ) → read_names s ≡ found ns t → NamesFront s ns t
unfolding read_names
names_print_of_read s ns t e = names_within_lem (suc (length s)) s ns t e

-- ---- two bounds above the text's length
names_agree : (j k : ℕ) (s : List ℕ) → length s < j → length s < k → names_within j s ≡ names_within k s
unfolding names_within
names_agree zero k s h l = absurd (omega arith)
names_agree (suc j) zero s h l = absurd (omega arith)
names_agree (suc j) (suc k) [] h l = refl
names_agree (suc j) (suc k) (b ∷ s) h l =
    ap (λ (x : Read (List Name)). pick (eqb b close_bracket) (found [] s) (pick (eqb b space) x bad))
    (after_same (read_name s) (λ n t. after (names_within j t) (λ ns u. found (n ∷ ns) u)) (λ n t. after (names_within k t) (λ ns u. found (n ∷ ns) u))
    (λ n t e.
    let d : length t < length s = read_name_shorter s e in
    ap (λ (r : Read (List Name)). after r (λ ns u. found (n ∷ ns) u)) (names_agree j k t (omega arith) (omega arith))))

-- ---- the steps
pub names_end : (t : List ℕ) → read_names (close_bracket ∷ t) ≡ found [] t
unfolding read_names names_within
names_end t = refl

pub names_more : (t : List ℕ) → read_names (space ∷ t) ≡ after (read_name t) (λ n u. after (read_names u) (λ ns v. found (n ∷ ns) v))
unfolding read_names names_within
names_more t =
    after_same (read_name t) (λ n u. after (names_within (suc (length t)) u) (λ ns v. found (n ∷ ns) v)) (λ n u. after (read_names u) (λ ns v. found (n ∷ ns) v))
    (λ n u e.
    let d : length u < length t = read_name_shorter t e in
    ap (λ (r : Read (List Name)). after r (λ ns v. found (n ∷ ns) v)) (names_agree (suc (length t)) (suc (length u)) u (omega arith) (omega arith)))

pub names_other : (b : ℕ) (t : List ℕ) → (b ≡ close_bracket → ⊥) → (b ≡ space → ⊥) → read_names (b ∷ t) ≡ bad
unfolding read_names names_within
names_other b t h g = rw (ne_eqb b close_bracket h, ne_eqb b space g) refl

pub names_empty : read_names [] ≡ bad
unfolding read_names names_within
names_empty = refl

-- ---- from the print
names_stop : (ns : List Name) (t : List ℕ) → Stops (print_names ns ++ (close_bracket ∷ t))
unfolding print_names
names_stop [] t = bracket_stops t
names_stop (n ∷ ns) t = space-stops ((n ++ print_names ns) ++ (close_bracket ∷ t))

pub names_read_of_print : (ns : List Name) (t : List ℕ) → all_names ns ≡ true → read_names (print_names ns ++ (close_bracket ∷ t)) ≡ found ns t
unfolding print_names all_names
names_read_of_print [] t e = names_end t
names_read_of_print (n ∷ ns) t e =
    let u = print_names ns ++ (close_bracket ∷ t) in
    ap (λ (x : List ℕ). read_names (space ∷ x)) (append_assoc n (print_names ns) (close_bracket ∷ t)) ∙ names_more (n ++ u)
    ∙ ap (λ (r : Read Name). one_more r (λ v. read_names v)) (name_read_of_print n u (and_left (is_name n) (all_names ns) e) (names_stop ns t))
    ∙ ap (λ (r : Read (List Name)). after r (λ ms v. found (n ∷ ms) v)) (names_read_of_print ns t (and_right (is_name n) (all_names ns) e))
