-- No cell has the name of another cell, or one that is a design's name in any case: a name has no underscore.
-- Assumes nothing.
use Rattle.std.specs.Prelude.{◌≡◌, refl, true, false, List, [], ◌∷◌, ◌++◌, ℕ, ◌<◌, drop}
use Rattle.std.proofs.Common.{sym, ap, ◌∙◌, append-nil}
use Rattle.bits.specs.LogicLaws.{and_left, and_right, and_both, false_unless}
use Rattle.text.specs.Number.{print_number, read_number}
use Rattle.text.specs.Numerals.{stops}
use Rattle.text.specs.NumberLaws.{read_printed}
use Rattle.text.specs.EatLaws.{found-item}
use Rattle.text.specs.Bytes.{bytes, found}
use Rattle.names.specs.Name.{Name, is_name, same_name, among}
use Rattle.names.specs.Names.{all_names}
use Rattle.names.specs.IsNameLaws.{name_no_underscore}
use Rattle.names.specs.SameNamesLaws.{same_is_name}
use Rattle.sheet.specs.Examine.{Design, output_names}
use Rattle.sheet.specs.WellFormed.{WellFormed}
use Rattle.classes.specs.Cases.{not_both}
use Rattle.network.specs.NamedLaws.{design-named}
use Rattle.netnames.specs.Listed.{underscore}
use Rattle.blif.specs.Printer.{cell_name}

-- ---- other cells
-- a print is read back
print_read : (i : ℕ) → i < 1000 → read_number (print_number i) ≡ found i []
unfolding stops
print_read i h = ap read_number (sym (append-nil (print_number i))) ∙ read_printed i [] h refl

pub cells-apart : (i j : ℕ) → i < 1000 → j < 1000 → cell_name i ≡ cell_name j → i ≡ j
unfolding cell_name
cells-apart i j h k e =
    let printed : print_number i ≡ print_number j = ap (drop 3) e in
    found-item (sym (print_read i h) ∙ ap read_number printed ∙ print_read j k)

-- ---- names
pub cell_no_name : (i : ℕ) → is_name (cell_name i) ≡ false
unfolding cell_name
cell_no_name i =
    false_unless (is_name (cell_name i)) (λ h. name_no_underscore (bytes "CC") underscore (print_number i) h refl)

pub name_no_cell : (n : Name) (i : ℕ) → is_name n ≡ true → same_name n (cell_name i) ≡ false
name_no_cell n i h =
    false_unless (same_name n (cell_name i)) (λ e. not_both (is_name (cell_name i)) (same_is_name n (cell_name i) e h) (cell_no_name i))

pub cell_not_among : (i : ℕ) (ns : List Name) → all_names ns ≡ true → among (cell_name i) ns ≡ false
unfolding all_names among
cell_not_among i [] a = refl
cell_not_among i (n ∷ ns) a =
    rw (name_no_cell n i (and_left (is_name n) (all_names ns) a)) (cell_not_among i ns (and_right (is_name n) (all_names ns) a))

names_both : (ms ns : List Name) → all_names ms ≡ true → all_names ns ≡ true → all_names (ms ++ ns) ≡ true
unfolding all_names
names_both [] ns a b = b
names_both (m ∷ ms) ns a b =
    and_both (is_name m) (all_names (ms ++ ns))
    (and_left (is_name m) (all_names ms) a)
    (names_both ms ns (and_right (is_name m) (all_names ms) a) b)

pub cell_new : (d : Design) → WellFormed d → (i : ℕ) → among (cell_name i) (d.inputs ++ output_names d.outputs) ≡ false
cell_new d f i =
    let ns = output_names d.outputs in
    let named = design-named d f in
    cell_not_among i (d.inputs ++ ns) (names_both d.inputs ns named.inputs_named named.outputs_named)
