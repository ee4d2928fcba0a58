-- Reading is the inverse of printing for every kind of line. So a line of each kind has one spelling, and a misspelled line
-- is one that nothing prints to. Assumes nothing.
use Rattle.std.specs.Prelude.{◌≡◌, refl, Bool, true, false, ◌↔◌, List, [], ◌∷◌, ◌++◌, ℕ, ◌<◌}
use Rattle.std.proofs.Common.{ap, ◌∙◌}
use Rattle.std.proofs.Math.Option.{some, none}
use Rattle.bits.specs.Logic.{pick}
use Rattle.text.specs.Bytes.{bytes, Read, found, after, eat, whole, same, space, close_bracket}
use Rattle.text.specs.BytesLaws.{same_equal, equal_same}
use Rattle.text.specs.EatLaws.{found-item, found-rest, eat-found, after-found, whole-found, found-whole}
use Rattle.text.specs.Number.{numeral, read_number, print_number}
use Rattle.text.specs.Numerals.{stops}
use Rattle.text.specs.NumberLaws.{read_printed, number-found}
use Rattle.names.specs.Name.{Name, read_name}
use Rattle.names.specs.Names.{print_names, read_names}
use Rattle.names.specs.Names.{all_names}
use Rattle.names.specs.ReadLaws.{space-stops, bracket_stops, name_read_of_print, name_print_of_read}
use Rattle.names.specs.NamesLaws.{names_read_of_print, names_print_of_read}
use Rattle.formula.specs.Tree.{Formula}
use Rattle.formula.specs.Printer.{print}
use Rattle.formula.specs.Reader.{read_formula}
use Rattle.formula.specs.InverseLaws.{formula_stops_read, formula_front_found}
use Rattle.sheet.specs.Lines.{Output, design_line, end_line, print_in, print_bound, print_limit, print_out, read_in, read_bound, read_limit, read_out, read_output}
use Rattle.sheet.specs.Kinds.{Kind, design_kind, in_kind, bound_kind, limit_kind, out_kind, end_kind, Said, OutputWritable, Writable, print_line, read_fixed, read_line}
use Rattle.sheet.specs.Spelling.{Inverse}
use Rattle.sheet.specs.HeadLaws.{head_inverse, closed_inverse, item_line_inverse}
use Rattle.sheet.specs.SpellingLaws.{none_some, one-spelling, one_meaning, misspelled, nothing_prints}

-- ---- the `in` line and the `bound` line, over the head word
names_to_end : Inverse (λ ns. all_names ns ≡ true) (λ ns. print_names ns ++ (close_bracket ∷ [])) (λ s. whole (read_names s))
names_to_end =
    record {
      read_of_print = λ s ns h e. found-whole (read_names s) ns (ap read_names e ∙ names_read_of_print ns [] h);
      print_of_read = λ s ns e.
          let f = names_print_of_read s ns [] (whole-found (read_names s) ns e) in
          (f.all_names_lem, f.is_split);
    }

pub names_line_inverse : (w : List ℕ)
    → Inverse (λ ns. all_names ns ≡ true)
    (λ ns. w ++ (print_names ns ++ (close_bracket ∷ [])))
    (λ l. whole (after (eat w l) (λ _ s. read_names s)))
names_line_inverse w = head_inverse w read_names names_to_end

pub in_inverse : Inverse (λ ns. all_names ns ≡ true) print_in read_in
unfolding print_in read_in
in_inverse = names_line_inverse (bytes "(in")

pub bound_inverse : Inverse (λ ns. all_names ns ≡ true) print_bound read_bound
unfolding print_bound read_bound
bound_inverse = names_line_inverse (bytes "(bound")

-- ---- the `limit` line
bracket_ends_number : stops (close_bracket ∷ []) ≡ true
unfolding stops numeral
bracket_ends_number = refl

pub limit_inverse : Inverse (λ n. n < 1000) print_limit read_limit
unfolding print_limit read_limit print_number
limit_inverse =
    item_line_inverse (bytes "(limit ") read_number
    (closed_inverse (λ n. print_number n ++ (close_bracket ∷ [])) read_number
    (λ n h. read_printed n (close_bracket ∷ []) h bracket_ends_number)
    (λ s n e.
    let f = number-found s n (close_bracket ∷ []) e in
    (f.small, f.is_print)))

-- ---- the `out` line
-- a space and a formula, after the name n
abbrev formula_after : Name → List ℕ → Read Output
formula_after n t = after (eat (space ∷ []) t) (λ _ u. after (read_formula u) (λ f v. found (record { name = n; formula = f }) v))

-- name and formula at the front of s, with t after them
record OutputFront (s : List ℕ) (o : Output) (t : List ℕ) : Type 0 where
  pub writable : OutputWritable o
  pub is_split : s ≡ o.name ++ (space ∷ (print o.formula ++ t))

output_read : (o : Output) (t : List ℕ) → OutputWritable o
    → read_output (o.name ++ (space ∷ (print o.formula ++ (close_bracket ∷ t)))) ≡ found o (close_bracket ∷ t)
unfolding eat
output_read o t h =
    let u = print o.formula ++ (close_bracket ∷ t) in
    ap (λ (r : Read Name). after r formula_after) (name_read_of_print o.name (space ∷ u) h.named (space-stops u))
    ∙ ap (λ (r : Read Formula). after r (λ f v. found (record { name = o.name; formula = f }) v))
    (formula_stops_read o.formula (close_bracket ∷ t) h.formed (bracket_stops t))

output_parts : (s : List ℕ) (n : Name) (x u : List ℕ) (f : Formula) (v : List ℕ)
    → read_name s ≡ found n x → eat (space ∷ []) x ≡ found tt u → read_formula u ≡ found f v
    → OutputFront s (record { name = n; formula = f }) v
output_parts s n x u f v d e h =
    let i = name_print_of_read s n x d in
    let j = formula_front_found u f v h in
    record {
      writable = record { named = i.is_name_lem; formed = j.is_spelled };
      is_split = i.is_split ∙ ap (λ (y : List ℕ). n ++ y) (eat-found (space ∷ []) x u e ∙ ap (λ (y : List ℕ). space ∷ y) j.is_split);
    }

output-found : (s : List ℕ) (o : Output) (t : List ℕ) → read_output s ≡ found o t → OutputFront s o t
output-found s o t e =
    let f = after-found (read_name s) formula_after o t e in
    let g = after-found (eat (space ∷ []) f.1) (λ _ u. after (read_formula u) (λ a v. found (record { name = f.0; formula = a }) v)) o t f.3 in
    let h = after-found (read_formula g.1) (λ a v. found (record { name = f.0; formula = a }) v) o t g.3 in
    rw (found-item h.3, found-rest h.3) at (output_parts s f.0 f.1 g.1 h.0 h.1 f.2 g.2 h.2)

pub out_inverse : Inverse OutputWritable print_out read_out
unfolding print_out read_out
out_inverse =
    item_line_inverse (bytes "(out ") read_output
    (closed_inverse (λ o. o.name ++ (space ∷ (print o.formula ++ (close_bracket ∷ [])))) read_output
    (λ o h. output_read o [] h)
    (λ s o e.
    let f = output-found s o (close_bracket ∷ []) e in
    (f.writable, f.is_split)))

-- ---- `(design 1)` and `(end)` are one text each
pub fixed_line : (l w : List ℕ) → (same l w ≡ true) ↔ (l ≡ w)
fixed_line l w = (same_equal l w, equal_same l w)

fixed_inverse : (w : List ℕ) → Inverse {A = Unit {0}} (λ _. Unit {0}) (λ _. w) (read_fixed w)
fixed_inverse w =
    record {
      read_of_print = λ l a h e. ap (λ (t : Bool). pick t (some tt) none) (equal_same l w e);
      print_of_read = λ l a e. (tt, same_equal l w (go (same l w) e));
    }
  where
    go : {a : Unit {0}} (t : Bool) → pick t (some tt) none ≡ some a → t ≡ true
    go true e = refl
    go false e = absurd (none_some e)

-- ---- every kind of line
pub line_inverse : (k : Kind) → Inverse (Writable k) (print_line k) (read_line k)
line_inverse design_kind = fixed_inverse design_line
line_inverse in_kind = in_inverse
line_inverse bound_kind = bound_inverse
line_inverse limit_kind = limit_inverse
line_inverse out_kind = out_inverse
line_inverse end_kind = fixed_inverse end_line

-- a line is misspelled exactly where nothing of its kind prints to it
pub line_misspelled : (k : Kind) (l : List ℕ) → (read_line k l ≡ none) ↔ ((a : Said k) → Writable k a → l ≡ print_line k a → ⊥)
line_misspelled k l = (misspelled (line_inverse k) l, nothing_prints (line_inverse k) l)

-- lines that say the same are the same, and what is written alike is alike
pub line_one_spelling : (k : Kind) (l m : List ℕ) (a : Said k) → read_line k l ≡ some a → read_line k m ≡ some a → l ≡ m
line_one_spelling k = one-spelling (line_inverse k)

pub line_one_meaning : (k : Kind) (a b : Said k) → Writable k a → Writable k b → print_line k a ≡ print_line k b → a ≡ b
line_one_meaning k = one_meaning (line_inverse k)
