-- A fixed text at a place, as the library's test finds it. Assumes nothing.
use Rattle.std.specs.Prelude.{◌≡◌, refl, Bool, true, false, List, [], ◌∷◌, ℕ, ◌+◌, ◌-◌, ◌≤◌, ◌&&◌, eqb, nat_eq, length, take, drop}
use Rattle.std.specs.List.{starts_with}
use Rattle.std.proofs.Common.{sym, ap, ◌∙◌, arith, length-drop, drop-drop}
use Rattle.text.specs.Bytes.{found, bad, eat}
use Rattle.bits.specs.Logic.{pick}
use Rattle.cursor.specs.declared.Cursor.{Cursor}
use Rattle.cursor.specs.Item.{At}
use Rattle.text.specs.BytesLaws.{from_here}

-- what reading the text w finds, by the library's test
by_test : (w t : List ℕ) → pick (starts_with nat_eq t w) (found tt (drop (length w) t)) bad ≡ eat w t
unfolding eat
by_test [] t = refl
by_test (a ∷ w) [] = refl
by_test (a ∷ w) (b ∷ t) = go (eqb a b) (by_test w t)
  where
    go : (p : Bool) → pick (starts_with nat_eq t w) (found tt (drop (length w) t)) bad ≡ eat w t
        → pick (p && starts_with nat_eq t w) (found tt (drop (length w) t)) bad ≡ pick p (eat w t) bad
    go true h = h
    go false h = refl

module _ (s w : List ℕ) (at : ℕ) (r : Bool) (v : r ≡ starts_with nat_eq (take (length s - at) (drop at s)) w) where
  test_here : r ≡ starts_with nat_eq (drop at s) w
  test_here = v ∙ ap (λ (t : List ℕ). starts_with nat_eq t w) (from_here s at)

  pub text_there : (c : Cursor) → c.at ≡ at + length w → r ≡ true → at ≤ length s → length w ≤ length (take (length s - at) (drop at s)) → At s tt c (eat w (drop at s))
  text_there c p e g h =
      let few : length w ≤ length (drop at s) = rw (from_here s at) at h in
      record {
        inside = omega (arith, length-drop at s);
        is = ap (λ (i : ℕ). found tt (drop i s)) p ∙ ap (λ (t : List ℕ). found tt t) (sym (drop-drop (length w) at s))
            ∙ ap (λ (b : Bool). pick b (found tt (drop (length w) (drop at s))) bad) (sym e ∙ test_here) ∙ by_test w (drop at s);
      }

  pub no_text : r ≡ false → bad ≡ eat w (drop at s)
  no_text e = ap (λ (b : Bool). pick b (found tt (drop (length w) (drop at s))) bad) (sym e ∙ test_here) ∙ by_test w (drop at s)
