-- A name that is given is read as a name and compared; names as items of a list are read one after the other: those that
-- are left are read from what is left of the text. Assumes nothing.
use Rattle.std.specs.Prelude.{◌≡◌, refl, Bool, true, false, ℕ, ◌+◌, ◌≤◌, ◌<◌, length, get_or, drop}
use Rattle.std.proofs.Math.Path.{sym, ap}
use Rattle.std.proofs.Common.{◌∙◌, arith, drop_of_length-le}
use mathlib.Core.List.{List, map}
use Rattle.bits.specs.Logic.{pick}
use Rattle.text.specs.Bytes.{Read, found, bad, after}
use Rattle.names.specs.Name.{Name, read_name, same_name}
use Rattle.names.specs.Pack.{name_of}
use Rattle.cursor.specs.Item.{At, from}
use Rattle.cursor.specs.declared.Cursor.{Cursor}
use Rattle.sheet.specs.StepLaws.{names_from}
use Rattle.network.specs.Given.{read_given, read_item, read_givens}
use Rattle.network.specs.ChainLaws.{part_missing, part_read}

-- ---- one name
module _ (n : Name) (t : List ℕ) where
  pub given_no_name : bad ≡ read_name t → bad ≡ read_given n t
  unfolding read_given
  given_no_name e = ap (λ (r : Read Name). after r (λ m u. pick (same_name n m) (found tt u) bad)) e

  module _ {s : List ℕ} {m : Name} {c : Cursor} (h : At s m c (read_name t)) where
    by_name : pick (same_name n m) (found tt (from s c)) bad ≡ read_given n t
    unfolding read_given
    by_name = ap (λ (r : Read Name). after r (λ k u. pick (same_name n k) (found tt u) bad)) h.is

    pub given_same : same_name n m ≡ true → At s tt c (read_given n t)
    given_same e = record { inside = h.inside; is = ap (λ (b : Bool). pick b (found tt (from s c)) bad) (sym e) ∙ by_name }

    pub given_other : same_name n m ≡ false → bad ≡ read_given n t
    given_other e = ap (λ (b : Bool). pick b (found tt (from s c)) bad) (sym e) ∙ by_name

-- ---- the names of a list
-- of the names ns, which are to stand from start on, those from i on are left; `leads` says that the next is the first item
pub record Listed (s ns : List ℕ) (first : Bool) (start at : ℕ) (leads : Bool) (i : ℕ) : Type 0 where
  pub within : i ≤ length ns
  pub inside : at ≤ length s
  pub to_come : read_givens first (map name_of ns) (drop start s) ≡ read_givens leads (map name_of (drop i ns)) (drop at s)

pub listed_none : (s ns : List ℕ) (first : Bool) (start : ℕ) → start ≤ length s → Listed s ns first start start first 0
listed_none s ns first start h = record { within = omega arith; inside = h; to_come = refl }

module _ {s ns : List ℕ} {first : Bool} {start at : ℕ} {leads : Bool} {i : ℕ} (p : Listed s ns first start at leads i) where
  module _ (more : i < length ns) where
    abbrev item : Read (Unit {0})
    item = read_item leads (name_of (get_or ns i 0)) (drop at s)

    abbrev others : List ℕ → Read (Unit {0})
    others t = read_givens false (map name_of (drop (i + 1) ns)) t

    by_item : read_givens first (map name_of ns) (drop start s) ≡ after item (λ _ t. others t)
    unfolding read_givens
    by_item = p.to_come ∙ ap (λ (l : List Name). read_givens leads l (drop at s)) (names_from ns i more)

    pub listed_missing : bad ≡ item → bad ≡ read_givens first (map name_of ns) (drop start s)
    listed_missing e = part_missing item others e ∙ sym by_item

    pub listed_more : {c : Cursor} → At s tt c item → Listed s ns first start c.at false (i + 1)
    listed_more {c} h =
        record {
          within = omega arith;
          inside = h.inside;
          to_come = by_item ∙ sym (part_read item others h);
        }

  pub listed_all : (c : Cursor) → c.at ≡ at → length ns ≤ i → At s tt c (read_givens first (map name_of ns) (drop start s))
  unfolding read_givens
  listed_all c q h =
      record {
        inside = omega (arith, p.inside);
        is =
            sym (p.to_come ∙ ap (λ (l : List ℕ). read_givens leads (map name_of l) (drop at s)) (drop_of_length-le ns h)
            ∙ ap (λ (k : ℕ). found tt (drop k s)) (sym q));
      }
