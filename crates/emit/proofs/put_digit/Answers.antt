-- `put_digit`: the byte of the value. Assumes nothing.
use Rattle.std.proofs.Common.{◌≡◌, Bool, true, false, refl, ap, ◌∙◌, ◌+◌, ℕ, [], ◌∷◌, arith}
use Rattle.std.specs.Int.{from_bool}
use Rattle.rows.specs.Digits.{digit}
use Rattle.emit.specs.PutLaws.{put_same}
use Rattle.emit.proofs.put_digit.Goals as goal

digit_is : (b : Bool) → 48 + from_bool b ≡ digit b
digit_is true = refl
digit_is false = refl

pub returns : goal.returns
returns c =
    put_same c.put_byte.ensures (ap (λ (d : ℕ). d ∷ []) (ap (λ (n : ℕ). 48 + n) c.from.ensures ∙ digit_is c.args.b)) (omega arith)
