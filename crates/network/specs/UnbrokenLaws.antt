-- No line that is written has 0x0A in it: names, numbers, digits and the words between have none. Assumes nothing.
use Rattle.std.specs.Prelude.{◌≡◌, refl, Bool, true, false, List, [], ◌∷◌, ◌++◌, map, ℕ}
use Rattle.bits.specs.LogicLaws.{and_left, and_right, and_both}
use Rattle.text.specs.Bytes.{bytes, close_bracket}
use Rattle.text.specs.Unbroken.{unbroken, all_unbroken}
use Rattle.text.specs.LineLaws.{unbroken-append}
use Rattle.text.specs.Number.{print_number}
use Rattle.text.specs.FigureLaws.{print_unbroken}
use Rattle.text.specs.SolidLaws.{solid-unbroken}
use Rattle.names.specs.Name.{Name, is_name}
use Rattle.names.specs.Names.{all_names}
use Rattle.names.specs.IsNameLaws.{name-solid}
use Rattle.sheet.specs.Lines.{end_line}
use Rattle.network.specs.Network.{Node}
use Rattle.network.specs.Printer.{led, led_all, lut_name, print_digits, network_line, lut_head, print_lut, node_head, print_node, print_count}
use Rattle.network.specs.DigitsLaws.{digits_solid}

-- ---- names
name-unbroken : (n : Name) → is_name n ≡ true → unbroken n ≡ true
name-unbroken n h = solid-unbroken n (name-solid n h)

names_unbroken : (ns : List Name) → all_names ns ≡ true → all_unbroken ns ≡ true
unfolding all_names all_unbroken
names_unbroken [] h = refl
names_unbroken (n ∷ ns) h =
    and_both (unbroken n) (all_unbroken ns)
    (name-unbroken n (and_left (is_name n) (all_names ns) h))
    (names_unbroken ns (and_right (is_name n) (all_names ns) h))

-- ---- lists of items
pub all_append : (ls ms : List (List ℕ))
    → all_unbroken ls ≡ true
    → all_unbroken ms ≡ true
    → all_unbroken (ls ++ ms) ≡ true
unfolding all_unbroken
all_append [] ms h k = k
all_append (l ∷ ls) ms h k =
    and_both (unbroken l) (all_unbroken (ls ++ ms))
    (and_left (unbroken l) (all_unbroken ls) h)
    (all_append ls ms (and_right (unbroken l) (all_unbroken ls) h) k)

led-unbroken : (first : Bool) (l : List ℕ) → unbroken l ≡ true → unbroken (led first l) ≡ true
unfolding unbroken
led-unbroken true l h = h
led-unbroken false l h = h

led_all_unbroken : (first : Bool) (ls : List (List ℕ)) → all_unbroken ls ≡ true → unbroken (led_all first ls) ≡ true
unfolding led_all all_unbroken unbroken
led_all_unbroken first [] h = refl
led_all_unbroken first (l ∷ ls) h =
    unbroken-append (led first l) (led_all false ls)
    (led-unbroken first l (and_left (unbroken l) (all_unbroken ls) h))
    (led_all_unbroken false ls (and_right (unbroken l) (all_unbroken ls) h))

lut_name_unbroken : (i : ℕ) → unbroken (lut_name i) ≡ true
unfolding lut_name unbroken
lut_name_unbroken i = print_unbroken i

lut_names_unbroken : (is : List ℕ) → all_unbroken (map lut_name is) ≡ true
unfolding all_unbroken
lut_names_unbroken [] = refl
lut_names_unbroken (i ∷ is) = and_both (unbroken (lut_name i)) (all_unbroken (map lut_name is)) (lut_name_unbroken i) (lut_names_unbroken is)

digits_unbroken : (ds : List Bool) → unbroken (print_digits ds) ≡ true
digits_unbroken ds = solid-unbroken (print_digits ds) (digits_solid ds)

digits_closed_unbroken : (ds : List Bool) → unbroken (print_digits ds ++ (close_bracket ∷ [])) ≡ true
unfolding unbroken
digits_closed_unbroken ds = unbroken-append (print_digits ds) (close_bracket ∷ []) (digits_unbroken ds) refl

-- ---- the lines
pub lut_unbroken : (bs : List Name) (i : ℕ) (ds : List Bool) → all_names bs ≡ true → unbroken (print_lut bs i ds) ≡ true
unfolding print_lut lut_head unbroken
lut_unbroken bs i ds h =
    unbroken-append (lut_head bs i) (print_digits ds ++ (close_bracket ∷ []))
    (unbroken-append (lut_name i) (bytes " (" ++ (led_all true bs ++ bytes ") ")) (lut_name_unbroken i)
    (unbroken-append (led_all true bs) (bytes ") ") (led_all_unbroken true bs (names_unbroken bs h)) refl))
    (digits_closed_unbroken ds)

pub node-unbroken : (n : Name) (fs : List Name) (x : Node)
    → is_name n ≡ true
    → all_names fs ≡ true
    → unbroken (print_node n fs x) ≡ true
unfolding print_node node_head unbroken
node-unbroken n fs x h k =
    let is = map lut_name x.reads in
    unbroken-append (node_head n) (led_all true (is ++ fs) ++ (bytes ") " ++ (print_digits x.digits ++ (close_bracket ∷ []))))
    (unbroken-append n (bytes " (") (name-unbroken n h) refl)
    (unbroken-append (led_all true (is ++ fs)) (bytes ") " ++ (print_digits x.digits ++ (close_bracket ∷ [])))
    (led_all_unbroken true (is ++ fs) (all_append is fs (lut_names_unbroken x.reads) (names_unbroken fs k)))
    (digits_closed_unbroken x.digits))

pub count-unbroken : (u : ℕ) → unbroken (print_count u) ≡ true
unfolding print_count unbroken
count-unbroken u = unbroken-append (print_number u) (close_bracket ∷ []) (print_unbroken u) refl

pub fixed_unbroken : (unbroken network_line ≡ true) × (unbroken end_line ≡ true)
unfolding unbroken
fixed_unbroken = (refl, refl)
