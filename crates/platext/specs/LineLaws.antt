-- Reading is the inverse of printing for the lines of a PLA text that come before its cubes, and no such line has a 0x0A in it.
-- Assumes nothing.
use Rattle.std.specs.Prelude.{◌≡◌, refl, Bool, true, false, List, [], ◌∷◌, ◌++◌, ℕ, zero, suc, ◌^◌, ◌≤◌, ◌<◌, leb, length}
use Rattle.std.proofs.Common.{sym, ap, ◌∙◌, append_assoc, append-nil, arith, leb-true, le-leb}
use Rattle.std.proofs.Math.Option.{Option, some, none}
use Rattle.bits.specs.Logic.{pick}
use Rattle.bits.specs.LogicLaws.{and_left, and_right, and_both}
use Rattle.limits.specs.Limits.{max_pla_digits}
use Rattle.text.specs.Bytes.{Read, found, after, eat, whole, space}
use Rattle.text.specs.EatLaws.{found-item, found-rest, eat-found, after-found, whole-found, found-whole}
use Rattle.text.specs.Number.{read_number_of, print_number_of}
use Rattle.text.specs.Numerals.{stops}
use Rattle.text.specs.NumberLaws.{read_printed_of, number_found_of}
use Rattle.text.specs.FigureLaws.{print_unbroken_of}
use Rattle.text.specs.Unbroken.{unbroken}
use Rattle.text.specs.LineLaws.{unbroken-append}
use Rattle.text.specs.SolidLaws.{solid-unbroken}
use Rattle.names.specs.Name.{Name, is_name, read_name}
use Rattle.names.specs.Names.{all_names, print_names}
use Rattle.names.specs.Front.{Stops, NameFront}
use Rattle.names.specs.IsNameLaws.{name-solid}
use Rattle.names.specs.ReadLaws.{space-stops, name_read_of_print, name_print_of_read}
use Rattle.sheet.specs.Spelling.{Inverse}
use Rattle.sheet.specs.SpellingLaws.{none_some}
use Rattle.sheet.specs.HeadLaws.{head_inverse}
use Rattle.platext.specs.Lines.{print_count, print_named, at_least, read_count, names_of, read_named}

-- ---- `.i N`, `.o N`, `.p N`
-- a number that such a line can say
pub record Counts (low n : ℕ) : Type 0 where
  pub enough : low ≤ n
  pub small : n < 10 ^ max_pla_digits

number_to_end : Inverse (λ n. n < 10 ^ max_pla_digits) (print_number_of max_pla_digits) (λ s. whole (read_number_of max_pla_digits s))
unfolding stops
number_to_end =
    record {
      read_of_print = λ s n h e.
          found-whole (read_number_of max_pla_digits s) n
          (ap (read_number_of max_pla_digits) (e ∙ sym (append-nil (print_number_of max_pla_digits n))) ∙ read_printed_of max_pla_digits n [] (omega arith) h refl);
      print_of_read = λ s n e.
          let f = number_found_of max_pla_digits s n [] (whole-found (read_number_of max_pla_digits s) n e) in
          (f.small, f.is_print ∙ append-nil (print_number_of max_pla_digits n));
    }

at_least_some : (low n : ℕ) (o : Option ℕ) → low ≤ n → o ≡ some n → at_least low o ≡ some n
at_least_some low n o h e = rw (e, le-leb low n h) refl

some_at_least : (low n : ℕ) (o : Option ℕ) → at_least low o ≡ some n → (low ≤ n) × (o ≡ some n)
some_at_least low n none e = absurd (none_some e)
some_at_least low n (some m) e = go (leb low m) refl e
  where
    go : (t : Bool) → leb low m ≡ t → pick t (some m) none ≡ some n → (low ≤ n) × (some m ≡ some n)
    go true q e =
        let same : m ≡ n = cc in
        let l = leb-true low m q in
        (omega arith, e)
    go false q e = absurd (none_some e)

pub count_inverse : (w : List ℕ) (low : ℕ) → Inverse (Counts low) (print_count w) (read_count w low)
unfolding print_count read_count
count_inverse w low =
    let i = head_inverse w (read_number_of max_pla_digits) number_to_end in
    let read : List ℕ → Option ℕ = λ l. whole (after (eat w l) (λ _ s. read_number_of max_pla_digits s)) in
    record {
      read_of_print = λ l n h e. at_least_some low n (read l) h.enough (i.read_of_print l n h.small e);
      print_of_read = λ l n e.
          let (enough, said) = some_at_least low n (read l) e in
          let (small, printed) = i.print_of_read l n said in
          (record { enough = enough; small = small }, printed);
    }

pub count-unbroken : (w : List ℕ) (n : ℕ) → unbroken w ≡ true → unbroken (print_count w n) ≡ true
unfolding print_count
count-unbroken w n h = unbroken-append w (print_number_of max_pla_digits n) h (print_unbroken_of max_pla_digits n)

-- ---- `.ilb names`, `.ob names`
-- names that a line with n of them can say
pub record Named (n : ℕ) (ns : List Name) : Type 0 where
  pub all_names_lem : all_names ns ≡ true
  pub counted : length ns ≡ n

names_stop : (ns : List Name) → Stops (print_names ns)
unfolding print_names
names_stop [] = tt
names_stop (n ∷ ns) = space-stops (n ++ print_names ns)

names_read : (ns : List Name) → all_names ns ≡ true → names_of (length ns) (print_names ns) ≡ found ns []
unfolding print_names all_names names_of eat
names_read [] h = refl
names_read (n ∷ ns) h =
    rw (name_read_of_print n (print_names ns) (and_left (is_name n) (all_names ns) h) (names_stop ns), names_read ns (and_right (is_name n) (all_names ns) h)) refl

-- k names at the front of s, with t after them
record NamesThen (k : ℕ) (s : List ℕ) (ns : List Name) (t : List ℕ) : Type 0 where
  pub all_names_lem : all_names ns ≡ true
  pub counted : length ns ≡ k
  pub is_split : s ≡ print_names ns ++ t

no_names : (s t : List ℕ) (ns : List Name) → found [] s ≡ found ns t → NamesThen zero s ns t
unfolding all_names print_names
no_names s t ns e = rw (← found-item e, ← found-rest e) (record { all_names_lem = refl; counted = refl; is_split = refl })

more_names : (k : ℕ) (s r u t : List ℕ) (n : Name) (ns : List Name)
    → eat (space ∷ []) s ≡ found tt r
    → NameFront r n u
    → NamesThen k u ns t
    → NamesThen (suc k) s (n ∷ ns) t
unfolding all_names print_names
more_names k s r u t n ns e i j =
    record {
      all_names_lem = and_both (is_name n) (all_names ns) i.is_name_lem j.all_names_lem;
      counted = ap suc j.counted;
      is_split =
          eat-found (space ∷ []) s r e
          ∙ ap (λ (x : List ℕ). space ∷ x)
          (i.is_split ∙ ap (λ (x : List ℕ). n ++ x) j.is_split ∙ sym (append_assoc n (print_names ns) t));
    }

-- what is read after a space, and after the name n
abbrev names_after : ℕ → Name → List ℕ → Read (List Name)
names_after k n u = after (names_of k u) (λ ns v. found (n ∷ ns) v)

abbrev name_after : ℕ → List ℕ → Read (List Name)
name_after k t = after (read_name t) (λ n u. names_after k n u)

names_found : (k : ℕ) (s : List ℕ) (ns : List Name) (t : List ℕ) → names_of k s ≡ found ns t → NamesThen k s ns t
unfolding names_of
names_found zero s ns t e = no_names s t ns e
names_found (suc k) s ns t e =
    let f = after-found (eat (space ∷ []) s) (λ _ r. name_after k r) ns t e in
    let g = after-found (read_name f.1) (names_after k) ns t f.3 in
    let h = after-found (names_of k g.1) (λ ms v. found (g.0 ∷ ms) v) ns t g.3 in
    rw (found-item h.3, found-rest h.3)
    at (more_names k s f.1 g.1 h.1 g.0 h.0 f.2
    (name_print_of_read f.1 g.0 g.1 g.2)
    (names_found k g.1 h.0 h.1 h.2))

names_to_end : (n : ℕ) → Inverse (Named n) print_names (λ s. whole (names_of n s))
names_to_end n =
    record {
      read_of_print = λ s ns h e.
          found-whole (names_of n s) ns
          (ap (names_of n) e ∙ ap (λ (k : ℕ). names_of k (print_names ns)) (sym h.counted) ∙ names_read ns h.all_names_lem);
      print_of_read = λ s ns e.
          let f = names_found n s ns [] (whole-found (names_of n s) ns e) in
          (record { all_names_lem = f.all_names_lem; counted = f.counted }, f.is_split ∙ append-nil (print_names ns));
    }

pub named_inverse : (w : List ℕ) (n : ℕ) → Inverse (Named n) (print_named w) (read_named w n)
unfolding print_named read_named
named_inverse w n = head_inverse w (names_of n) (names_to_end n)

names_unbroken : (ns : List Name) → all_names ns ≡ true → unbroken (print_names ns) ≡ true
unfolding all_names print_names unbroken
names_unbroken [] h = refl
names_unbroken (n ∷ ns) h =
    unbroken-append n (print_names ns)
    (solid-unbroken n (name-solid n (and_left (is_name n) (all_names ns) h)))
    (names_unbroken ns (and_right (is_name n) (all_names ns) h))

pub named-unbroken : (w : List ℕ) (ns : List Name) → unbroken w ≡ true → all_names ns ≡ true → unbroken (print_named w ns) ≡ true
unfolding print_named
named-unbroken w ns h k = unbroken-append w (print_names ns) h (names_unbroken ns k)
