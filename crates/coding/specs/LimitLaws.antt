-- What searches with a limit say, put together: what follows from it, and what two of them say. Assumes nothing.
use Rattle.std.specs.Prelude.{◌≡◌, ℕ, Bool, false}
use Rattle.std.proofs.Common.{ap₂}
use Rattle.bits.specs.Logic.{orb}
use Rattle.bits.specs.LogicLaws.{neither_first, neither_second}
use Rattle.coding.specs.Limit.{Sure}

pub sure_now : (limit : ℕ) (unsure : Bool) (A : Type 0) → unsure ≡ false → A → Sure limit unsure A
sure_now limit unsure A e a = record { sure = λ d. a; never = λ d. e }

pub sure_then : (limit : ℕ) (unsure : Bool) (A B : Type 0) → (A → B) → Sure limit unsure A → Sure limit unsure B
sure_then limit unsure A B f s = record { sure = λ e. f (s.sure e); never = s.never }

pub sure_both : (limit : ℕ) (p q : Bool) (A B C : Type 0) → (A → B → C) → Sure limit p A → Sure limit q B → Sure limit (orb p q) C
sure_both limit p q A B C f s t = record { sure = λ e. f (s.sure (neither_first p q e)) (t.sure (neither_second p q e)); never = λ e. ap₂ orb (s.never e) (t.never e) }
