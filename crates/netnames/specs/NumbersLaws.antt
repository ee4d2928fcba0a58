-- The digits of a mask that are 1, one digit after the other: how many, the names of the tables that they number, and the
-- code that a vertex has in these tables. Assumes nothing.
use Rattle.std.specs.Prelude.{◌≡◌, Bool, true, false, List, [], ◌∷◌, ◌++◌, map, ℕ, ◌+◌, ◌*◌, ◌≤◌, ◌<◌, length}
use Rattle.std.specs.Int.{from_bool}
use Rattle.std.proofs.Common.{refl, sym, ap, ap₂, subst, ◌∙◌, length-append}
use Rattle.std.proofs.lemmas.List.{map-append}
use native.Mathlib.Omega.{arith}
use Rattle.limits.specs.Limits.{max_name, max_cells, max_codes}
use Rattle.bits.specs.Logic.{bit}
use Rattle.bits.specs.Digit.{on}
use Rattle.text.specs.Number.{print_number}
use Rattle.text.specs.FigureLaws.{print_digit}
use Rattle.names.specs.Name.{Name}
use Rattle.names.specs.Pack.{pack, name_of}
use Rattle.names.specs.PackLaws.{NoZero, name_of_pack}
use Rattle.network.specs.Printer.{lut_name}
use Rattle.network.specs.Numbers.{numbers_of}
use Rattle.network.specs.NumbersLaws.{numbers-hit, numbers_miss, count-hit, count_miss, code_none, code_hit, code_miss, code_small}
use Rattle.serving.specs.Build.{code_in}
use Rattle.netnames.specs.Listed.{underscore, zero_byte, one_digit}

-- what the test of a digit says
pub digit_read : (i : ℕ) {h b : Bool} {m x : ℕ} → h ≡ on m i → m ≡ x → h ≡ b → on x i ≡ b
digit_read i e f g = ap (λ (k : ℕ). on k i) (sym f) ∙ sym e ∙ g

-- ---- the names of the tables
pub record Reading (mask u i count : ℕ) (now : List Name) : Type 0 where
  pub within : i ≤ u
  pub counted : count ≡ length (numbers_of i mask)
  pub few : count ≤ i
  pub listed : now ≡ map lut_name (numbers_of i mask)

pub reading_none : (mask u : ℕ) {count : ℕ} {now : List Name} → now ≡ [] → count ≡ 0 → Reading mask u 0 count now
unfolding numbers_of
reading_none mask u e z = record { within = omega arith; counted = z; few = omega arith; listed = e }

module _ {mask u i count : ℕ} {now : List Name} (g : Reading mask u i count now) (l : i < u) where
  pub reading-without : on mask i ≡ false → Reading mask u (i + 1) count now
  reading-without e =
      record {
        within = omega arith;
        counted = count_miss i mask count g.counted e;
        few = omega (arith, g.few);
        listed = g.listed ∙ ap (map lut_name) (sym (numbers_miss i mask e));
      }

  pub reading_with : {later : List Name} {more : ℕ} {x : Name} → on mask i ≡ true → later ≡ now ++ (x ∷ []) → x ≡ lut_name i
      → more ≡ count + 1 → Reading mask u (i + 1) more later
  reading_with e w v s =
      record {
        within = omega arith;
        counted = s ∙ count-hit i mask count g.counted e;
        few = omega (arith, g.few);
        listed = w ∙ ap₂ (λ (a : List Name) (b : Name). a ++ (b ∷ [])) g.listed v
            ∙ sym (map-append lut_name (numbers_of i mask) (i ∷ [])) ∙ ap (map lut_name) (sym (numbers-hit i mask e));
      }

pub reading_all : {mask u i count : ℕ} {now : List Name} → Reading mask u i count now → u ≤ i → Reading mask u u count now
reading_all {mask} {u} {i} {count} {now} g l =
    let w : i ≤ u = g.within in
    let e : i ≡ u = omega arith in
    subst (λ (k : ℕ). Reading mask u k count now) e g

-- ---- the number that holds the name of table i
no_zero_after : (s : List ℕ) (b : ℕ) → NoZero s → 0 < b → b < 256 → NoZero (s ++ (b ∷ []))
no_zero_after [] b z p h = (p, h, tt)
no_zero_after (c ∷ s) b z p h = (z.0, z.1, no_zero_after s b z.2 p h)

-- the bytes s, and the digit i after them
pub digit-held : (s : List ℕ) (i : ℕ) → length s < max_name → NoZero s → i < one_digit
    → name_of (pack (s ++ ((zero_byte + i) ∷ []))) ≡ s ++ print_number i
digit-held s i h z l =
    let name : Name = s ++ ((zero_byte + i) ∷ []) in
    name_of_pack name (omega (arith, length-append s ((zero_byte + i) ∷ []))) (no_zero_after s (zero_byte + i) z (omega arith) (omega arith))
    ∙ ap (λ (t : List ℕ). s ++ t) (sym (print_digit i l))

pub table_name : (i : ℕ) → i < one_digit → name_of ((i + zero_byte) * 256 + underscore) ≡ lut_name i
unfolding lut_name pack
table_name i l =
    let held : (i + zero_byte) * 256 + underscore ≡ pack (underscore ∷ (zero_byte + i) ∷ []) = omega arith in
    ap name_of held ∙ digit-held (underscore ∷ []) i (omega arith) (omega arith, omega arith, tt) l

-- ---- the code in the tables
pub as_bit : (b : Bool) → from_bool b ≡ bit b
as_bit true = refl
as_bit false = refl

pub bit_small : (b : Bool) → from_bool b < 2
bit_small true = omega arith
bit_small false = omega arith

pub record Coding (mask n u i code : ℕ) : Type 0 where
  pub within : i ≤ u
  pub coded : code ≡ code_in (numbers_of i mask) n

pub coding_none : (mask n u : ℕ) → Coding mask n u 0 0
unfolding code_in
coding_none mask n u = record { within = omega arith; coded = code_none (on n) mask }

module _ {mask n u i code : ℕ} (g : Coding mask n u i code) (l : i < u) where
  pub coding_without : on mask i ≡ false → Coding mask n u (i + 1) code
  unfolding code_in
  coding_without e = record { within = omega arith; coded = code_miss (on n) mask i code g.coded e }

  pub coding_with : {x : ℕ} → on mask i ≡ true → x ≡ bit (on n i) → Coding mask n u (i + 1) (code * 2 + x)
  unfolding code_in
  coding_with {x} e v =
      let twice : code * 2 + x ≡ 2 * code + x = omega arith in
      record { within = omega arith; coded = twice ∙ code_hit (on n) mask i code x g.coded e v }

-- a code in as many tables as there may be
pub coding_below : {mask n u i code : ℕ} → Coding mask n u i code → u ≤ max_cells → code < max_codes
unfolding code_in
coding_below {mask} {n} {i = i} g few = omega (arith, g.coded, code_small (on n) mask i (omega (arith, g.within)))

pub coding_all : {mask n u i code : ℕ} → Coding mask n u i code → u ≤ i → u ≤ max_cells → (code ≡ code_in (numbers_of u mask) n) × (code < max_codes)
coding_all {mask} {n} {u} {i} g l few =
    let w : i ≤ u = g.within in
    let e : i ≡ u = omega arith in
    (g.coded ∙ ap (λ (k : ℕ). code_in (numbers_of k mask) n) e, coding_below g few)
