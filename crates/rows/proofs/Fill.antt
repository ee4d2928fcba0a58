-- An array filled by a function makes the table of f, if the function gives each word as it is in that table. Assumes nothing.
use Rattle.std.specs.Prelude.{◌≡◌, Bool, List, ℕ, zero, suc, ◌+◌, ◌≤◌, ◌<◌, get_or}
use Rattle.std.specs.Array.{IsFromFnResult, IsFromFnResultFrom}
use denote.Param.Members.{Mut, Called}
use Rattle.std.proofs.Common.{arith}
use native.Mathlib.Decide.{ℕ_discrete}
use Rattle.limits.specs.Limits.{table_words}
use Rattle.rows.specs.Words.{Rowwise, WordOf}
use Rattle.rows.specs.WordLaws.{rowwise}

-- P is what the function says of each word
module _ {F : Type 0} (g : Mut F (ℕ × Unit {0}) ℕ) (P : ℕ → ℕ → Type 0) (f : ℕ → Bool) (right : (w x : ℕ) → P w x → WordOf f w x) (c : F)
    (called : (w x : ℕ) (d : F) → Called g c (w, tt) x d → (d ≡ c) × P w x) where
  each_word : (ws : List ℕ) (i n w : ℕ) → IsFromFnResultFrom g c ws i n → i ≤ w → w < i + n → WordOf f w (get_or ws w 0)
  each_word ws i zero w h a b = absurd (omega arith)
  each_word ws i (suc n) w (d, x, at, call, rest) a b =
      let k = called i x d call in
      elim (ℕ_discrete w i) as (λ _. WordOf f w (get_or ws w 0)) [
        | yes e ↦ rw (e, at.1 0) (right i x k.1)
        | no e ↦ each_word ws (i + 1) n w (rw k.0 at rest) (omega arith) (omega arith)
      ]

  pub filled : (ws : List ℕ) → IsFromFnResult g c ws table_words → Rowwise f ws
  filled ws h = rowwise f ws (λ w b. each_word ws 0 table_words w h.each (omega arith) (omega arith))
