-- What is known of a cursor's answer, once the answer is known: it moved, or it found nothing. Assumes nothing.
use Rattle.std.specs.Prelude.{◌≡◌, List, ℕ, drop, Option, Some, None}
use Rattle.std.proofs.Common.{subst}
use Rattle.text.specs.Bytes.{Read, bad, eat}
use Rattle.cursor.specs.Item.{At, MovedIs}
use Rattle.cursor.specs.declared.Cursor.{Cursor}

module _ (s : List ℕ) (m : Option Cursor) (x : Read (Unit {0})) (h : MovedIs s m x) where
  pub moved_to : (c : Cursor) → m ≡ Some c → At s tt c x
  moved_to c e = subst (λ (y : Option Cursor). MovedIs s y x) e h

  pub moved_nowhere : m ≡ None → bad ≡ x
  moved_nowhere e = subst (λ (y : Option Cursor). MovedIs s y x) e h

-- from the start the whole text is read
pub moved-start : (s w : List ℕ) (m : Option Cursor) (c : Cursor) → c.at ≡ 0 → MovedIs s m (eat w (drop c.at s)) → MovedIs s m (eat w s)
moved-start s w m c e h = subst (λ (i : ℕ). MovedIs s m (eat w (drop i s))) e h
