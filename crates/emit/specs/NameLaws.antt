-- The bytes of a name, one after the other: those that are put down, and those to come. Assumes nothing.
use Rattle.std.specs.Prelude.{◌≡◌, refl, Bool, List, [], ◌∷◌, ◌++◌, ℕ, zero, suc, ◌+◌, ◌-◌, ◌/◌, ◌%◌, ◌^◌, ◌*◌, ◌≤◌, ◌<◌}
use Rattle.std.proofs.Common.{sym, ap, ◌∙◌, append-nil, append_assoc, eq-eqb, ne_eqb, pow-suc}
use native.Mathlib.Omega.{arith}
use Rattle.limits.specs.Limits.{max_name}
use Rattle.bits.specs.Logic.{pick}
use Rattle.names.specs.Pack.{unpack_within, name_of}
use Rattle.emit.specs.Written.{Written}
use Rattle.emit.specs.PutLaws.{put_none, put_next, put_same}

-- of the name v the bytes are put down up to the place p; at most left bytes come, those of rest
pub record Naming (a b : List ℕ) (at v p rest left : ℕ) : Type 0 where
  pub few : left ≤ max_name
  pub done : List ℕ
  pub so_far : Written (max_name - left) a b at p done
  pub to_come : done ++ unpack_within left rest ≡ name_of v

pub naming_none : (a : List ℕ) (at v : ℕ) → Naming a a at v at v max_name
unfolding name_of
naming_none a at v = record { few = omega arith; done = []; so_far = put_none a at; to_come = refl }

unpack_end : (k v : ℕ) → v ≡ 0 → unpack_within k v ≡ []
unfolding unpack_within
unpack_end zero v e = refl
unpack_end (suc k) v e =
    ap (λ (t : Bool). pick t [] (v % 256 ∷ unpack_within k (v / 256))) (eq-eqb v 0 e)

unpack_byte : (k v : ℕ) → 0 < k → (v ≡ 0 → ⊥) → unpack_within k v ≡ v % 256 ∷ unpack_within (k - 1) (v / 256)
unfolding unpack_within
unpack_byte zero v l d = absurd (omega arith)
unpack_byte (suc k) v l d =
    let e : k ≡ suc k - 1 = omega arith in
    ap (λ (t : Bool). pick t [] (v % 256 ∷ unpack_within k (v / 256))) (ne_eqb v 0 d)
    ∙ ap (λ (j : ℕ). v % 256 ∷ unpack_within j (v / 256)) e

module _ {a b : List ℕ} {at v p rest left : ℕ} (n : Naming a b at v p rest left) where
  naming_end : unpack_within left rest ≡ [] → Written max_name a b at p (name_of v)
  naming_end e =
      put_same n.so_far
      (sym (append-nil n.done) ∙ ap (λ (t : List ℕ). n.done ++ t) (sym e) ∙ n.to_come)
      (omega arith)

  pub naming_over : rest ≡ 0 → Written max_name a b at p (name_of v)
  naming_over e = naming_end (unpack_end left rest e)

  pub naming_full : left ≤ 0 → Written max_name a b at p (name_of v)
  unfolding unpack_within
  naming_full l = let e : left ≡ 0 = omega arith in naming_end (ap (λ (k : ℕ). unpack_within k rest) e)

  pub naming_more : {e : List ℕ} {q : ℕ} → 0 < left → (rest ≡ 0 → ⊥) → Written 1 b e p q (rest % 256 ∷ [])
      → Naming a e at v q (rest / 256) (left - 1)
  naming_more l d w =
      let f : left ≤ max_name = n.few in
      record {
        few = omega arith;
        done = n.done ++ (rest % 256 ∷ []);
        so_far = put_next n.so_far w refl (omega arith);
        to_come = append_assoc n.done (rest % 256 ∷ []) (unpack_within (left - 1) (rest / 256))
            ∙ ap (λ (t : List ℕ). n.done ++ t) (sym (unpack_byte left rest l d)) ∙ n.to_come;
      }

  -- how far the name has come
  pub naming_place : p ≤ at + (max_name - left)
  naming_place = omega (arith, n.so_far.place, n.so_far.short)

-- ---- a number below 256 ^ left has at most left bytes to come
-- a number that is not 0 has a byte to come, and one fewer without its lowest
some_left : (left rest : ℕ) → rest < 256 ^ left → (rest ≡ 0 → ⊥) → 0 < left
some_left zero rest h d = absurd (omega arith)
some_left (suc left) rest h d = omega arith

byte_off : (left rest : ℕ) → rest < 256 ^ left → 0 < left → rest / 256 < 256 ^ (left - 1)
byte_off zero rest h l = absurd (omega arith)
byte_off (suc left) rest h l =
    let same : suc left - 1 ≡ left = omega arith in
    let p : 256 ^ suc left ≡ 256 ^ left * 256 = pow-suc 256 left in
    rw same (omega arith)

-- of the name v the bytes are put down up to the place p, and those of rest come
pub record Putting (a b : List ℕ) (at v p rest : ℕ) : Type 0 where
  pub left : ℕ
  pub low : rest < 256 ^ left
  pub naming : Naming a b at v p rest left

pub putting_none : (a : List ℕ) (at v : ℕ) → v < 2 ^ 64 → Putting a a at v at v
putting_none a at v h = record { left = max_name; low = h; naming = naming_none a at v }

module _ {a b : List ℕ} {at v p rest : ℕ} (n : Putting a b at v p rest) where
  pub putting_over : rest ≡ 0 → Written max_name a b at p (name_of v)
  putting_over e = naming_over n.naming e

  pub putting_more : {e : List ℕ} {q : ℕ} → (rest ≡ 0 → ⊥) → Written 1 b e p q (rest % 256 ∷ [])
      → Putting a e at v q (rest / 256)
  putting_more d w =
      let l : 0 < n.left = some_left n.left rest n.low d in
      record { left = n.left - 1; low = byte_off n.left rest n.low l; naming = naming_more n.naming l d w }

  -- one byte more has room
  pub putting_room : (rest ≡ 0 → ⊥) → p + 1 ≤ at + max_name
  putting_room d = omega (arith, naming_place n.naming, n.naming.few, some_left n.left rest n.low d)
