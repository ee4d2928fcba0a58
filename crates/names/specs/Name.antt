-- Names: a letter and up to seven letters or digits, but no operator word, whatever its case (clauses 3.3, 3.5 and 3.6). Two
-- names are the same if only the case of letters tells them apart (clause 3.4). Assumes nothing.
use Rattle.std.specs.Prelude.{Bool, true, false, not, ◌&&◌, ◌||◌, List, [], ◌∷◌, ℕ, leb, length}
use Rattle.bits.specs.Logic.{pick}
use Rattle.text.specs.Bytes.{bytes, same, Read, found, bad}
use Rattle.text.specs.Number.{numeral}
use Rattle.limits.specs.Limits.{max_name}
use Rattle.names.specs.Case.{small, capital, lowered}

abbrev pub Name : Type 0
Name = List ℕ

unfoldable pub letter : ℕ → Bool
letter b = small b || capital b

unfoldable pub name_byte : ℕ → Bool
name_byte b = letter b || numeral b

-- the longest part of such bytes at the front of a text, and what follows it
unfoldable pub word : List ℕ → List ℕ
word [] = []
word (b ∷ s) =
    let rest = word s in
    pick (name_byte b) (b ∷ rest) []

unfoldable pub after_word : List ℕ → List ℕ
after_word [] = []
after_word (b ∷ s) =
    let rest = after_word s in
    pick (name_byte b) rest (b ∷ s)

-- ---- comparison
-- whether two names are the same: the one place where names are compared
unfoldable pub same_name : Name → Name → Bool
same_name m n = same (lowered m) (lowered n)

-- whether a name is among some
unfoldable pub among : Name → List Name → Bool
among n [] = false
among n (m ∷ ms) = same_name m n || among n ms

-- whether no name stands twice
unfoldable pub distinct : List Name → Bool
distinct [] = true
distinct (n ∷ ns) = not (among n ns) && distinct ns

-- whether every name of a list is among others
unfoldable pub all_among : List Name → List Name → Bool
all_among [] ms = true
all_among (n ∷ ns) ms = among n ms && all_among ns ms

-- ---- operators, in small letters
pub data Operator : Type 0 where
  not_op and_op or_op xor_op none_op : Operator

-- the operator that a word is
unfoldable pub operator : List ℕ → Operator
operator w =
    pick (same w (bytes "not")) not_op
    (pick (same w (bytes "and")) and_op
    (pick (same w (bytes "or")) or_op
    (pick (same w (bytes "xor")) xor_op none_op)))

abbrev pub is_operator : Operator → Bool
is_operator not_op = true
is_operator and_op = true
is_operator or_op = true
is_operator xor_op = true
is_operator none_op = false

abbrev pub operator_words : List Name
operator_words = bytes "not" ∷ bytes "and" ∷ bytes "or" ∷ bytes "xor" ∷ []

-- ---- names
abbrev pub all_name_bytes : List ℕ → Bool
all_name_bytes [] = true
all_name_bytes (b ∷ s) = name_byte b && all_name_bytes s

abbrev pub starts_with_letter : List ℕ → Bool
starts_with_letter [] = false
starts_with_letter (b ∷ s) = letter b

unfoldable pub is_name : List ℕ → Bool
is_name n = starts_with_letter n && all_name_bytes n && leb (length n) max_name && not (among n operator_words)

-- the name at the front of a text
unfoldable pub read_name : List ℕ → Read Name
read_name s = pick (is_name (word s)) (found (word s) (after_word s)) bad
