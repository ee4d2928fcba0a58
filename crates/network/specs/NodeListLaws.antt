-- The list of a node line: shared tables, then free inputs. The free inputs and the end of the list go on with no shared
-- table, since a name begins with a letter. Assumes nothing.
use Rattle.std.specs.Prelude.{◌≡◌, refl, Bool, true, false, List, [], ◌∷◌, ◌++◌, map, ℕ}
use Rattle.std.proofs.Common.{sym, ap, ◌∙◌, append_assoc, ne_eqb}
use Rattle.bits.specs.LogicLaws.{true_false, and_left}
use Rattle.text.specs.Bytes.{bad, eat, bytes}
use Rattle.names.specs.Name.{Name, is_name}
use Rattle.names.specs.Names.{all_names}
use Rattle.names.specs.IsNameLaws.{name_starts, name_no_underscore}
use Rattle.network.specs.Printer.{led, led_all, lut_name}
use Rattle.network.specs.Reader.{none_of}
use Rattle.network.specs.Reads.{still, rest_of}
use Rattle.network.specs.ReadsLaws.{no_underscore}

-- ---- two parts of a list
still_false : {A : Type 0} (xs : List A) → still false xs ≡ false
still_false [] = refl
still_false (x ∷ xs) = refl

led-append : (first : Bool) (xs ys : List (List ℕ))
    → led_all first (xs ++ ys) ≡ led_all first xs ++ led_all (still first xs) ys
unfolding led_all
led-append first [] ys = refl
led-append first (x ∷ xs) ys =
    ap (λ (t : List ℕ). led first x ++ t)
    (led-append false xs ys ∙ ap (λ (b : Bool). led_all false xs ++ led_all b ys) (still_false xs))
    ∙ sym (append_assoc (led first x) (led_all false xs) (led_all false ys))

none_still_names : (is : List ℕ) → still true (map lut_name is) ≡ none_of is
none_still_names [] = refl
none_still_names (i ∷ is) = refl

none_still : (is : List ℕ) → still true is ≡ none_of is
none_still [] = refl
none_still (i ∷ is) = refl

pub list_split : (fs : List Name) (is t : List ℕ)
    → led_all true (map lut_name is ++ fs) ++ (bytes ") " ++ t) ≡ led_all true (map lut_name is) ++ (rest_of fs is ++ t)
list_split fs is t =
    let reads = led_all true (map lut_name is) in
    ap (λ (u : List ℕ). u ++ (bytes ") " ++ t))
    (led-append true (map lut_name is) fs ∙ ap (λ (b : Bool). reads ++ led_all b fs) (none_still_names is))
    ∙ append_assoc reads (led_all (none_of is) fs) (bytes ") " ++ t)
    ∙ ap (λ (u : List ℕ). reads ++ u) (sym (append_assoc (led_all (none_of is) fs) (bytes ") ") t))

-- ---- a name has no underscore
name-underscore : (n : Name) (t : List ℕ) → is_name n ≡ true → eat (bytes "_") (n ++ t) ≡ bad
unfolding eat
name-underscore [] t h = absurd (true_false (sym (name_starts [] h)))
name-underscore (b ∷ n) t h = rw (ne_eqb 0x5F b (λ e. name_no_underscore [] b n h (sym e))) refl

led-underscore : (first : Bool) (n : Name) (t : List ℕ)
    → is_name n ≡ true
    → eat (led first (bytes "_")) (led first n ++ t) ≡ bad
unfolding eat
led-underscore true n t h = name-underscore n t h
led-underscore false n t h = name-underscore n t h

rest-underscore : (first : Bool) (fs : List Name) (t : List ℕ)
    → all_names fs ≡ true
    → eat (led first (bytes "_")) ((led_all first fs ++ bytes ") ") ++ t) ≡ bad
unfolding eat led_all all_names
rest-underscore true [] t h = refl
rest-underscore false [] t h = refl
rest-underscore first (n ∷ fs) t h =
    let others = led_all false fs ++ bytes ") " in
    ap (λ (u : List ℕ). eat (led first (bytes "_")) u)
    (ap (λ (u : List ℕ). u ++ t) (append_assoc (led first n) (led_all false fs) (bytes ") ")) ∙ append_assoc (led first n) others t)
    ∙ led-underscore first n (others ++ t) (and_left (is_name n) (all_names fs) h)

pub rest_no_lut : (fs : List Name) (is t : List ℕ) (j : ℕ)
    → all_names fs ≡ true
    → eat (led (still true is) (lut_name j)) (rest_of fs is ++ t) ≡ bad
rest_no_lut fs is t j h =
    no_underscore (still true is) j (rest_of fs is ++ t)
    (ap (λ (b : Bool). eat (led b (bytes "_")) (rest_of fs is ++ t)) (none_still is) ∙ rest-underscore (none_of is) fs t h)
