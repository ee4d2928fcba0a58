-- The operator words by their numbers: a number that is none of the four holds no operator, and four numbers hold the words
-- that are no names in any case. Assumes nothing.
use mathlib.Core.Path.{◌≡◌, refl, sym, ap, ◌∙◌}
use mathlib.Core.List.{List, [], ◌∷◌, map}
use Prim.Native.Nat.{ℕ, ◌^◌, ◌<◌, ◌/◌, ◌%◌}
use native.Mathlib.Decide.{ℕ_discrete}
use Rattle.std.proofs.Common.{arith}
use Rattle.std.proofs.Math.Bool.{and-false}
use Rattle.text.specs.Bytes.{bytes}
use Rattle.names.specs.Case.{lower}
use Rattle.names.specs.Name.{none_op, operator, among, operator_words, same_name}
use Rattle.names.specs.SameLaws.{same_name_cons, same_name_empty}
use Rattle.names.specs.Pack.{pack, unpack_within, name_of}
use Rattle.names.specs.Word.{PositionIs}
use Rattle.names.specs.PackLaws.{other_text, name_of_none, name_of_more}
use Rattle.names.specs.LookupLaws.{found_among, nowhere_among}
use Rattle.std.specs.Prelude.{Option, Some, None, is_some, false, eqb}

pub operator_of : {w n : ℕ} → w ≡ n → operator (name_of n) ≡ operator (name_of w)
operator_of e = ap (λ (x : ℕ). operator (name_of x)) (sym e)

pub operator_none : (w : ℕ) → w < 2 ^ 64 → (w ≡ 0x746F6E → ⊥) → (w ≡ 0x646E61 → ⊥) → (w ≡ 0x726F → ⊥) → (w ≡ 0x726F78 → ⊥)
    → none_op ≡ operator (name_of w)
unfolding operator pack
operator_none w h n a o x =
    simp (
      other_text w (bytes "not") h n,
      other_text w (bytes "and") h a,
      other_text w (bytes "or") h o,
      other_text w (bytes "xor") h x,
    )

-- ---- the operator words by their numbers, in any case
abbrev numbers : List ℕ
numbers = 0x746F6E ∷ 0x646E61 ∷ 0x726F ∷ 0x726F78 ∷ []

numbers_hold : map name_of numbers ≡ operator_words
unfolding name_of unpack_within
numbers_hold = refl

pub is_operator : (w : ℕ) (r : Option ℕ) → PositionIs numbers w r → is_some r ≡ among (name_of w) operator_words
is_operator w (Some i) p = sym (ap (among (name_of w)) (sym numbers_hold) ∙ found_among numbers w i p)
is_operator w None p = sym (ap (among (name_of w)) (sym numbers_hold) ∙ nowhere_among numbers w p)

-- ---- no word of a single byte is an operator word
longer : (b c : ℕ) (m : List ℕ) (w : ℕ) → w < 256 → same_name (b ∷ c ∷ m) (name_of w) ≡ false
longer b c m w h =
    elim (ℕ_discrete w 0) as (λ _. same_name (b ∷ c ∷ m) (name_of w) ≡ false) [
      | yes e ↦ rw (e, name_of_none) ((same_name_empty b (c ∷ m)).1)
      | no d ↦
          let rest : w / 256 ≡ 0 = omega arith in
          rw (name_of_more w (omega arith) d, rest, name_of_none, same_name_cons b (w % 256) (c ∷ m) [], (same_name_empty c m).1)
          (and-false (eqb (lower b) (lower (w % 256))))
    ]

pub single : (w : ℕ) → w < 256 → false ≡ among (name_of w) operator_words
unfolding among
single w h =
    rw (longer 0x6E 0x6F (0x74 ∷ []) w h, longer 0x61 0x6E (0x64 ∷ []) w h, longer 0x6F 0x72 [] w h, longer 0x78 0x6F (0x72 ∷ []) w h) refl
