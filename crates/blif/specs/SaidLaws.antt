-- What each printed line says to a reader: its names, or the row that it covers. Assumes nothing.
use Rattle.std.specs.Prelude.{◌≡◌, Bool, true, false, List, [], ◌∷◌, ◌++◌, map, ℕ}
use Rattle.std.proofs.Math.Path.{refl}
use Rattle.std.proofs.Common.{ap, ap₂, ◌∙◌}
use Rattle.std.proofs.Math.Option.{some}
use Rattle.text.specs.Bytes.{bytes, same}
use Rattle.text.specs.Solid.{solid}
use Rattle.names.specs.Name.{Name}
use Rattle.names.specs.Names.{print_names}
use Rattle.network.specs.Printer.{print_digits}
use Rattle.blif.specs.Printer.{row_line}
use Rattle.blif.specs.Words.{blank, words}
use Rattle.blif.specs.Model.{Signal, must_be}
use Rattle.blif.specs.Reader.{Said, inputs, outputs, names, cover, end, front, final, names_line}
use Rattle.blif.specs.Reader.{covered, marks_of, said, kept, word_lines}
use Rattle.blif.specs.IsWord.{all_words}
use Rattle.blif.specs.IsWordLaws.{digits_word}
use Rattle.blif.specs.WordsLaws.{words-spaced, words_of_names}

-- a line has a word, and its words say x
pub record Says (l : List ℕ) (x : Said) : Type 0 where
  pub first : Signal
  pub others : List Signal
  pub words_are : words l ≡ first ∷ others
  pub said_is : said (first ∷ others) ≡ x

pub line_said : (l : List ℕ) (x : Said) (ls : List (List ℕ))
    → Says l x
    → map said (word_lines (l ∷ ls)) ≡ x ∷ map said (word_lines ls)
unfolding word_lines
line_said l x ls h =
    ap (λ (ws : List Signal). map said (kept ws (word_lines ls))) h.words_are
    ∙ ap (λ (y : Said). y ∷ map said (word_lines ls)) h.said_is

-- ---- lists of names
module _ (ns : List Name) (h : all_words ns ≡ true) where
  pub inputs_said : Says (bytes ".inputs" ++ print_names ns) (inputs ns)
  unfolding solid said same
  inputs_said = record { first = bytes ".inputs"; others = ns; words_are = words_of_names (bytes ".inputs") ns refl h; said_is = refl }

  pub outputs_said : Says (bytes ".outputs" ++ print_names ns) (outputs ns)
  unfolding solid said same
  outputs_said = record { first = bytes ".outputs"; others = ns; words_are = words_of_names (bytes ".outputs") ns refl h; said_is = refl }

front_of_last : (s : Signal) (ss : List Signal) (t : Signal) → front s (ss ++ (t ∷ [])) ≡ s ∷ ss
front_of_last s [] t = refl
front_of_last s (r ∷ ss) t = ap (λ (rs : List Signal). s ∷ rs) (front_of_last r ss t)

final_of_last : (s : Signal) (ss : List Signal) (t : Signal) → final s (ss ++ (t ∷ [])) ≡ t
final_of_last s [] t = refl
final_of_last s (r ∷ ss) t = final_of_last r ss t

names_line_lem : (ss : List Signal) (t : Signal) → names_line (ss ++ (t ∷ [])) ≡ names ss t
names_line_lem [] t = refl
names_line_lem (s ∷ ss) t = ap₂ (λ (rs : List Signal) (r : Signal). names rs r) (front_of_last s ss t) (final_of_last s ss t)

pub names_said : (is : List Name) (n : Name)
    → all_words (is ++ (n ∷ [])) ≡ true
    → Says (bytes ".names" ++ print_names (is ++ (n ∷ []))) (names is n)
unfolding solid said same
names_said is n h =
    record {
      first = bytes ".names";
      others = is ++ (n ∷ []);
      words_are = words_of_names (bytes ".names") (is ++ (n ∷ [])) refl h;
      said_is = names_line_lem is n;
    }

-- ---- rows
marks_of_digits : (vs : List Bool) → marks_of (print_digits vs) ≡ some (map must_be vs)
unfolding marks_of print_digits
marks_of_digits [] = refl
marks_of_digits (true ∷ vs) = rw (marks_of_digits vs) refl
marks_of_digits (false ∷ vs) = rw (marks_of_digits vs) refl

-- a digit begins no directive
digits_covered : (v : Bool) (vs : List Bool)
    → said (print_digits (v ∷ vs) ∷ bytes "1" ∷ []) ≡ covered (marks_of (print_digits (v ∷ vs)))
unfolding said same print_digits
digits_covered true vs = refl
digits_covered false vs = refl

one_word : words (bytes "1") ≡ bytes "1" ∷ []
unfolding words blank
one_word = refl

one-said : said (bytes "1" ∷ []) ≡ cover []
unfolding said same
one-said = refl

pub row-said : (vs : List Bool) → Says (row_line vs) (cover (map must_be vs))
row-said [] = record { first = bytes "1"; others = []; words_are = one_word; said_is = one-said }
row-said (v ∷ vs) =
    let w = print_digits (v ∷ vs) in
    record {
      first = w;
      others = bytes "1" ∷ [];
      words_are =
          words-spaced w (bytes "1") (digits_word v vs) ∙ ap (λ (ws : List Signal). w ∷ ws) one_word;
      said_is = digits_covered v vs ∙ ap covered (marks_of_digits (v ∷ vs));
    }

-- ---- the last line
pub end_said : Says (bytes ".end") end
unfolding words blank said same
end_said = record { first = bytes ".end"; others = []; words_are = refl; said_is = refl }
