-- The lines of a PLA text but its cubes (clauses 13.2 and 13.3): `.i`, `.o`, `.ilb`, `.ob`, `.p`, and after the cubes `.e`: how each
-- is written, and how it is read. Assumes nothing.
use Rattle.std.specs.Prelude.{List, [], ◌∷◌, ◌++◌, ℕ, zero, suc, leb}
use Rattle.std.proofs.Math.Option.{Option, some, none}
use Rattle.bits.specs.Logic.{pick}
use Rattle.limits.specs.Limits.{max_pla_digits}
use Rattle.text.specs.Bytes.{bytes, Read, found, after, eat, whole, space}
use Rattle.text.specs.Number.{read_number_of, print_number_of}
use Rattle.names.specs.Name.{Name, read_name}
use Rattle.names.specs.Names.{print_names}

-- ---- the number of each line, and how it begins
abbrev pub inputs_line : ℕ
inputs_line = 1

abbrev pub outputs_line : ℕ
outputs_line = 2

abbrev pub input_names_line : ℕ
input_names_line = 3

abbrev pub output_names_line : ℕ
output_names_line = 4

abbrev pub cubes_line : ℕ
cubes_line = 5

abbrev pub first_cube : ℕ
first_cube = 6

abbrev pub inputs_word : List ℕ
inputs_word = bytes ".i "

abbrev pub outputs_word : List ℕ
outputs_word = bytes ".o "

abbrev pub input_names_word : List ℕ
input_names_word = bytes ".ilb"

abbrev pub output_names_word : List ℕ
output_names_word = bytes ".ob"

abbrev pub cubes_word : List ℕ
cubes_word = bytes ".p "

abbrev pub end_line : List ℕ
end_line = bytes ".e"

-- ---- how each kind of line is written
-- `.i N`, `.o N`, `.p N`
unfoldable pub print_count : List ℕ → ℕ → List ℕ
print_count w n = w ++ print_number_of max_pla_digits n

-- `.ilb names`, `.ob names`
unfoldable pub print_named : List ℕ → List Name → List ℕ
print_named w ns = w ++ print_names ns

-- ---- how each kind of line is read
-- a number that is at least `low`: `.p 0` is right, `.i 0` and `.o 0` are misspelled
abbrev pub at_least : ℕ → Option ℕ → Option ℕ
at_least low none = none
at_least low (some n) = pick (leb low n) (some n) none

unfoldable pub read_count : List ℕ → ℕ → List ℕ → Option ℕ
read_count w low l = at_least low (whole (after (eat w l) (λ _ s. read_number_of max_pla_digits s)))

-- so many names, each after a space
unfoldable pub names_of : ℕ → List ℕ → Read (List Name)
names_of zero s = found [] s
names_of (suc k) s =
    after (eat (space ∷ []) s) (λ _ t.
    after (read_name t) (λ n u.
    after (names_of k u) (λ ns v. found (n ∷ ns) v)))

unfoldable pub read_named : List ℕ → ℕ → List ℕ → Option (List Name)
read_named w n l = whole (after (eat w l) (λ _ s. names_of n s))
