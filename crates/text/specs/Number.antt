-- Numbers in decimal, with at most k digits and no needless zero in front (clause 3.7). Assumes nothing.
use Rattle.std.specs.Prelude.{Bool, true, false, not, ◌&&◌, List, [], ◌∷◌, ◌++◌, ℕ, zero, suc, ◌+◌, ◌-◌, ◌*◌, ◌/◌, ◌%◌, eqb, leb, ltb, length}
use Rattle.bits.specs.Logic.{pick}
use Rattle.text.specs.Bytes.{Read, found, bad}
use Rattle.limits.specs.Limits.{max_digits}

unfoldable pub numeral : ℕ → Bool
numeral b = leb 0x30 b && leb b 0x39

-- the digits at the front of a text, and what follows them
unfoldable pub numerals : List ℕ → List ℕ
numerals [] = []
numerals (b ∷ s) =
    let rest = numerals s in
    pick (numeral b) (b ∷ rest) []

unfoldable pub after_numerals : List ℕ → List ℕ
after_numerals [] = []
after_numerals (b ∷ s) =
    let rest = after_numerals s in
    pick (numeral b) rest (b ∷ s)

-- the value of digits that follow a number already read
unfoldable pub value_from : ℕ → List ℕ → ℕ
value_from n [] = n
value_from n (d ∷ ds) = value_from (n * 10 + (d - 0x30)) ds

abbrev pub no_leading_zero : List ℕ → Bool
no_leading_zero [] = false
no_leading_zero (d ∷ []) = true
no_leading_zero (d ∷ e ∷ ds) = not (eqb d 0x30)

-- whether digits are a number of at most k digits
unfoldable pub is_number_of : ℕ → List ℕ → Bool
is_number_of k ds = no_leading_zero ds && leb (length ds) k

-- the number of at most k digits at the front of a text
unfoldable pub read_number_of : ℕ → List ℕ → Read ℕ
read_number_of k s = pick (is_number_of k (numerals s)) (found (value_from 0 (numerals s)) (after_numerals s)) bad

-- the byte of a number's last digit
abbrev pub numeral_of : ℕ → ℕ
numeral_of n = 0x30 + n % 10

-- the print of a number of at most k digits
unfoldable pub print_number_of : ℕ → ℕ → List ℕ
print_number_of zero n = []
print_number_of (suc k) n =
    let others = print_number_of k (n / 10) in
    pick (ltb n 10) (numeral_of n ∷ []) (others ++ (numeral_of n ∷ []))

-- ---- the numbers of a design sheet
unfoldable pub read_number : List ℕ → Read ℕ
read_number = read_number_of max_digits

unfoldable pub print_number : ℕ → List ℕ
print_number = print_number_of max_digits
