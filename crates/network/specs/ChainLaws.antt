-- A text read in parts: where the first part stands, the whole is read as what is left of it; where it does not, the whole
-- is not there. A fixed text may be read so as well. Assumes nothing.
use Rattle.std.specs.Prelude.{◌≡◌, refl, Bool, true, false, List, [], ◌∷◌, ◌++◌, ℕ, eqb, Option}
use Rattle.std.proofs.Common.{ap, subst}
use Rattle.bits.specs.Logic.{pick}
use Rattle.text.specs.Bytes.{Read, found, bad, after, eat}
use Rattle.cursor.specs.Item.{At, MovedIs, from}
use Rattle.cursor.specs.declared.Cursor.{Cursor}

module _ (r : Read (Unit {0})) (onward : List ℕ → Read (Unit {0})) where
  abbrev in_parts : Read (Unit {0})
  in_parts = after r (λ _ t. onward t)

  pub part_missing : bad ≡ r → bad ≡ in_parts
  part_missing e = ap (λ (q : Read (Unit {0})). after q (λ _ t. onward t)) e

  pub part-found : (t : List ℕ) → r ≡ found tt t → in_parts ≡ onward t
  part-found t e = ap (λ (q : Read (Unit {0})). after q (λ _ u. onward u)) e

  pub part_read : {s : List ℕ} {c : Cursor} → At s tt c r → onward (from s c) ≡ in_parts
  part_read h = ap (λ (q : Read (Unit {0})). after q (λ _ t. onward t)) h.is

  pub part_then : {s : List ℕ} {c : Cursor} → At s tt c r → (m : Option Cursor) → MovedIs s m (onward (from s c)) → MovedIs s m in_parts
  part_then {s} h m f = subst (λ (q : Read (Unit {0})). MovedIs s m q) (part_read h) f

-- ---- a fixed text
pub eat_parts : (v w t : List ℕ) → after (eat v t) (λ _ u. eat w u) ≡ eat (v ++ w) t
unfolding eat
eat_parts [] w t = refl
eat_parts (b ∷ v) w [] = refl
eat_parts (b ∷ v) w (c ∷ t) = go (eqb b c) (eat_parts v w t)
  where
    go : (x : Bool) → after (eat v t) (λ _ u. eat w u) ≡ eat (v ++ w) t
        → after (pick x (eat v t) bad) (λ _ u. eat w u) ≡ pick x (eat (v ++ w) t) bad
    go true e = e
    go false e = refl
