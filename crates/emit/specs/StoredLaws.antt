-- What stands in a buffer after a text was stored at its start: the text, and after it what stood there before.
-- Assumes nothing.
use Rattle.std.specs.Prelude.{◌≡◌, refl, List, ◌++◌, ℕ, ◌+◌, ◌-◌, ◌≤◌, ◌<◌, length, get_or, take, drop}
use Rattle.std.proofs.Common.{sym, ap, subst, ◌∙◌, arith, zero-add, take_at, get_or-append-add, get_or-drop}
use Rattle.std.proofs.Math.ListN.{get_or-append}
use Rattle.std.proofs.lemmas.List.Edits.{sets, sets-eq}

module _ (b t : List ℕ) (h : length t ≤ length b) where
  stored : sets b 0 t ≡ t ++ drop (length t) b
  stored =
      sets-eq t b 0 (subst (λ (n : ℕ). n ≤ length b) (sym (zero-add (length t))) h)
      ∙ ap (λ (n : ℕ). t ++ drop n b) (zero-add (length t))

  pub stored_text : take (length t) (sets b 0 t) ≡ t
  stored_text = ap (take (length t)) stored ∙ take_at t (drop (length t) b) (length t) refl

  pub stored_at : (i : ℕ) → i < length t → get_or (sets b 0 t) i 0 ≡ get_or t i 0
  stored_at i k = ap (λ (l : List ℕ). get_or l i 0) stored ∙ get_or-append t (drop (length t) b) 0 i k

  pub stored_after : (i : ℕ) → length t ≤ i → get_or (sets b 0 t) i 0 ≡ get_or b i 0
  stored_after i k =
      let e : i ≡ length t + (i - length t) = omega arith in
      ap (λ (l : List ℕ). get_or l i 0) stored
      ∙ ap (λ (j : ℕ). get_or (t ++ drop (length t) b) j 0) e
      ∙ get_or-append-add t (drop (length t) b) (i - length t) 0
      ∙ get_or-drop (length t) b (i - length t) 0
      ∙ ap (λ (j : ℕ). get_or b j 0) (sym e)
