-- What is known of an Option by what `ok_or` made of it: a `?` after it stops at None, and goes on with the value. Assumes nothing.
use Rattle.std.proofs.Common.{◌≡◌, refl}
use Rattle.std.specs.Prelude.{Option, Some, None, Ok, Err}
use Rattle.std.specs.Option.{ok_or}

pub stopped_at : {A E : Type 0} (o : Option A) (q e : E) → Err e ≡ ok_or o q → (o ≡ None) × (e ≡ q)
stopped_at None q e h = (refl, cc)
stopped_at (Some x) q e h = (cc, cc)

pub went_on : {A E : Type 0} (o : Option A) (q : E) (x : A) → Ok x ≡ ok_or o q → o ≡ Some x
went_on None q x h = cc
went_on (Some y) q x h = cc
