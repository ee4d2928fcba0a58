-- The name of a shared table and the count line as the code spells them, and a lut line and a node line part by part up to
-- their digits and their list. Assumes nothing.
use Rattle.std.specs.Prelude.{◌≡◌, Bool, true, false, ℕ, ◌+◌, ◌<◌, Option, None}
use Rattle.std.proofs.Common.{sym, ap}
use mathlib.Core.List.{List, [], ◌∷◌, ◌++◌}
use Rattle.text.specs.Bytes.{bytes, Read, bad, after, eat, space, close_bracket}
use Rattle.text.specs.FigureLaws.{print_digit}
use Rattle.names.specs.Name.{Name}
use Rattle.cursor.specs.Item.{At, MovedIs, from}
use Rattle.cursor.specs.declared.Cursor.{Cursor}
use Rattle.network.specs.Printer.{led, lut_name, print_count}
use Rattle.network.specs.Given.{read_given, read_givens}
use Rattle.network.specs.Reader.{read_inputs, read_lut_head, read_node_head}
use Rattle.network.specs.ChainLaws.{part_missing, part_then}

-- ---- a number of one digit
module _ (i : ℕ) (h : i < 10) (first : Bool) where
  pub lut_first : first ≡ true → 0x5F ∷ (0x30 + i) ∷ [] ≡ led first (lut_name i)
  unfolding lut_name
  lut_first e = rw e (ap (λ (w : List ℕ). 0x5F ∷ w) (sym (print_digit i h)))

  pub lut_later : first ≡ false → space ∷ 0x5F ∷ (0x30 + i) ∷ [] ≡ led first (lut_name i)
  unfolding lut_name
  lut_later e = rw e (ap (λ (w : List ℕ). space ∷ 0x5F ∷ w) (sym (print_digit i h)))

pub count-bytes : (u : ℕ) → u < 10
    → 0x28 ∷ 0x63 ∷ 0x6F ∷ 0x75 ∷ 0x6E ∷ 0x74 ∷ 0x20 ∷ (0x30 + u) ∷ 0x29 ∷ [] ≡ print_count u
unfolding print_count
count-bytes u h = ap (λ (w : List ℕ). bytes "(count " ++ (w ++ (close_bracket ∷ []))) (sym (print_digit u h))

-- ---- the inputs of a list
module _ (first : Bool) (ns : List Name) (t : List ℕ) where
  pub inputs_no_names : bad ≡ read_givens first ns t → bad ≡ read_inputs first ns t
  unfolding read_inputs
  inputs_no_names e = part_missing (read_givens first ns t) (eat (bytes ") ")) e

  pub inputs_end : {s : List ℕ} {c : Cursor} → At s tt c (read_givens first ns t) → (m : Option Cursor)
      → MovedIs s m (eat (bytes ") ") (from s c)) → MovedIs s m (read_inputs first ns t)
  unfolding read_inputs
  inputs_end h m f = part_then (read_givens first ns t) (eat (bytes ") ")) h m f

-- ---- a lut line up to its digits
module _ (l : List ℕ) (bs : List Name) (i : ℕ) where
  abbrev after-number : List ℕ → Read (Unit {0})
  after-number t = after (eat (bytes " (") t) (λ _ u. read_inputs true bs u)

  abbrev after-word : List ℕ → Read (Unit {0})
  after-word s = after (eat (lut_name i) s) (λ _ t. after-number t)

  pub lut_no_word : bad ≡ eat (bytes "(lut ") l → bad ≡ read_lut_head bs i l
  unfolding read_lut_head
  lut_no_word e = part_missing (eat (bytes "(lut ") l) after-word e

  module _ {a : Cursor} (f : At l tt a (eat (bytes "(lut ") l)) where
    word_then : (m : Option Cursor) → MovedIs l m (after-word (from l a)) → MovedIs l m (read_lut_head bs i l)
    unfolding read_lut_head
    word_then m g = part_then (eat (bytes "(lut ") l) after-word f m g

    pub lut_no_number : bad ≡ eat (led true (lut_name i)) (from l a) → bad ≡ read_lut_head bs i l
    lut_no_number e = word_then None (part_missing (eat (lut_name i) (from l a)) after-number e)

    module _ {b : Cursor} (g : At l tt b (eat (led true (lut_name i)) (from l a))) where
      number-then : (m : Option Cursor) → MovedIs l m (after-number (from l b)) → MovedIs l m (read_lut_head bs i l)
      number-then m h = word_then m (part_then (eat (lut_name i) (from l a)) after-number g m h)

      pub lut-no-list : bad ≡ eat (bytes " (") (from l b) → bad ≡ read_lut_head bs i l
      lut-no-list e = number-then None (part_missing (eat (bytes " (") (from l b)) (read_inputs true bs) e)

      pub lut_list : {d : Cursor} → At l tt d (eat (bytes " (") (from l b)) → (m : Option Cursor)
          → MovedIs l m (read_inputs true bs (from l d)) → MovedIs l m (read_lut_head bs i l)
      lut_list h m k = number-then m (part_then (eat (bytes " (") (from l b)) (read_inputs true bs) h m k)

-- ---- a node line up to its list
module _ (l : List ℕ) (n : Name) where
  abbrev after-node : List ℕ → Read (Unit {0})
  after-node s = after (read_given n s) (λ _ t. eat (bytes " (") t)

  pub node_no_word : bad ≡ eat (bytes "(node ") l → bad ≡ read_node_head n l
  unfolding read_node_head
  node_no_word e = part_missing (eat (bytes "(node ") l) after-node e

  module _ {a : Cursor} (f : At l tt a (eat (bytes "(node ") l)) where
    node_then : (m : Option Cursor) → MovedIs l m (after-node (from l a)) → MovedIs l m (read_node_head n l)
    unfolding read_node_head
    node_then m g = part_then (eat (bytes "(node ") l) after-node f m g

    pub node_no_name : bad ≡ read_given n (from l a) → bad ≡ read_node_head n l
    node_no_name e = node_then None (part_missing (read_given n (from l a)) (eat (bytes " (")) e)

    pub node_list : {b : Cursor} → At l tt b (read_given n (from l a)) → (m : Option Cursor)
        → MovedIs l m (eat (bytes " (") (from l b)) → MovedIs l m (read_node_head n l)
    node_list g m h = node_then m (part_then (read_given n (from l a)) (eat (bytes " (")) g m h)
