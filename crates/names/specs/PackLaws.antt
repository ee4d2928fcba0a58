-- Names and their numbers: every number below 2 ^ 64 is the number of the name that it holds, and every list of at most 8
-- bytes, none of them 0, is the name that its number holds. Assumes nothing.
use Rattle.std.specs.Prelude.{◌≡◌, refl, Bool, true, false, List, [], ◌∷◌, ℕ, zero, suc, ◌+◌, ◌*◌, ◌/◌, ◌%◌, ◌^◌, ◌≤◌, ◌<◌, eqb, length}
use Rattle.std.proofs.Common.{sym, ap, ap₂, subst, ◌∙◌, arith, pow-suc, eq-eqb, ne_eqb}
use Rattle.std.proofs.Math.Decide.{ℕ_discrete}
use Rattle.limits.specs.Limits.{max_name}
use Rattle.bits.specs.Logic.{pick}
use Rattle.bits.specs.LogicLaws.{and_left, and_right}
use Rattle.text.specs.Bytes.{same}
use Rattle.text.specs.BytesLaws.{differ_same}
use Rattle.names.specs.Name.{Name, name_byte, all_name_bytes}
use Rattle.names.specs.Pack.{pack, unpack_within, name_of}
use Rattle.names.specs.IsNameLaws.{name_byte_between}

-- ---- a number, unpacked and packed
below_step : (p v : ℕ) → v < p * 256 → v / 256 < p
below_step p v h = omega arith

pack_unpacked : (k v : ℕ) → v < 256 ^ k → pack (unpack_within k v) ≡ v
unfolding pack unpack_within
pack_unpacked zero v h = omega arith
pack_unpacked (suc k) v h =
    let less : v / 256 < 256 ^ k = below_step (256 ^ k) v (subst (λ (m : ℕ). v < m) (pow-suc 256 k) h) in
    let rest : pack (unpack_within k (v / 256)) ≡ v / 256 = pack_unpacked k (v / 256) less in
    let split : v % 256 + 256 * (v / 256) ≡ v = omega arith in
    elim (ℕ_discrete v 0) as (λ _. pack (pick (eqb v 0) [] (v % 256 ∷ unpack_within k (v / 256))) ≡ v) [
      | yes e ↦ ap (λ (t : Bool). pack (pick t [] (v % 256 ∷ unpack_within k (v / 256)))) (eq-eqb v 0 e) ∙ sym e
      | no d ↦ ap (λ (t : Bool). pack (pick t [] (v % 256 ∷ unpack_within k (v / 256)))) (ne_eqb v 0 d)
          ∙ ap (λ (m : ℕ). v % 256 + 256 * m) rest ∙ split
    ]

pack_name_of : (v : ℕ) → v < 2 ^ 64 → pack (name_of v) ≡ v
unfolding name_of
pack_name_of v h = pack_unpacked max_name v h

-- ---- bytes, packed and unpacked
-- a list of bytes, none of them 0
abbrev pub NoZero : List ℕ → Type 0
NoZero [] = Unit {0}
NoZero (b ∷ s) = (0 < b) × (b < 256) × NoZero s

low_byte : (b m : ℕ) → b < 256 → (b + 256 * m) % 256 ≡ b
low_byte b m h = omega arith

high_bytes : (b m : ℕ) → b < 256 → (b + 256 * m) / 256 ≡ m
high_bytes b m h = omega arith

unpack_none : (k : ℕ) → unpack_within k 0 ≡ []
unfolding unpack_within
unpack_none zero = refl
unpack_none (suc k) = refl

unpack_byte : (k b m : ℕ) → 0 < b → b < 256 → unpack_within (suc k) (b + 256 * m) ≡ b ∷ unpack_within k m
unfolding unpack_within
unpack_byte k b m p h =
    ap (λ (t : Bool). pick t [] ((b + 256 * m) % 256 ∷ unpack_within k ((b + 256 * m) / 256))) (ne_eqb (b + 256 * m) 0 (λ e. omega arith))
    ∙ ap₂ (λ (x y : ℕ). x ∷ unpack_within k y) (low_byte b m h) (high_bytes b m h)

unpack_packed : (k : ℕ) (n : List ℕ) → length n ≤ k → NoZero n → unpack_within k (pack n) ≡ n
unfolding pack
unpack_packed k [] h z = unpack_none k
unpack_packed zero (b ∷ s) h z = absurd (omega arith)
unpack_packed (suc k) (b ∷ s) h z =
    unpack_byte k b (pack s) z.0 z.1 ∙ ap (λ (x : List ℕ). b ∷ x) (unpack_packed k s (omega arith) z.2)

pub name_of_pack : (n : Name) → length n ≤ max_name → NoZero n → name_of (pack n) ≡ n
unfolding name_of
name_of_pack n h z = unpack_packed max_name n h z

-- ---- the bytes of a name are none of them 0
name_bytes_no_zero : (n : List ℕ) → all_name_bytes n ≡ true → NoZero n
name_bytes_no_zero [] e = tt
name_bytes_no_zero (b ∷ s) e =
    let h = name_byte_between b (and_left (name_byte b) (all_name_bytes s) e) in
    (omega (arith, h), omega (arith, h), name_bytes_no_zero s (and_right (name_byte b) (all_name_bytes s) e))

pub name_bytes_back : (n : Name) → all_name_bytes n ≡ true → length n ≤ max_name → name_of (pack n) ≡ n
name_bytes_back n e h = name_of_pack n h (name_bytes_no_zero n e)

-- ---- byte by byte
unpack_more : (k v : ℕ) → v < 256 ^ k → unpack_within (suc k) v ≡ unpack_within k v
unfolding unpack_within
unpack_more zero v h = let none : v ≡ 0 = omega arith in rw none refl
unpack_more (suc k) v h =
    let less : v / 256 < 256 ^ k = below_step (256 ^ k) v (subst (λ (m : ℕ). v < m) (pow-suc 256 k) h) in
    ap (λ (s : List ℕ). pick (eqb v 0) [] (v % 256 ∷ s)) (unpack_more k (v / 256) less)

pub name_of_none : name_of 0 ≡ []
unfolding name_of
name_of_none = unpack_none max_name

pub name_of_more : (v : ℕ) → v < 2 ^ 64 → (v ≡ 0 → ⊥) → name_of v ≡ v % 256 ∷ name_of (v / 256)
unfolding name_of unpack_within
name_of_more v h d =
    ap (λ (t : Bool). pick t [] (v % 256 ∷ unpack_within 7 (v / 256))) (ne_eqb v 0 d)
    ∙ ap (λ (s : List ℕ). v % 256 ∷ s) (sym (unpack_more 7 (v / 256) (below_step (256 ^ 7) v h)))

-- ---- texts that are no names
-- a number other than that of a text holds another text
pub other_text : (v : ℕ) (t : List ℕ) → v < 2 ^ 64 → (v ≡ pack t → ⊥) → same (name_of v) t ≡ false
other_text v t h d = differ_same (name_of v) t (λ e. d (sym (pack_name_of v h) ∙ ap pack e))
