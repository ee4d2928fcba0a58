-- A refusal of a network sheet by 10 on a line that it has: the examination passed the lines before it, and stopped at this one.
-- Assumes nothing.
use Rattle.std.specs.Prelude.{◌≡◌, Bool, ◌||◌, ◌⊎◌, ℕ, suc, ◌+◌, ◌<◌, length}
use Rattle.std.proofs.Math.Path.{refl, ap}
use Rattle.std.proofs.Common.{sym, ◌∙◌, inl, inr, ⊎_elim, arith}
use Rattle.std.proofs.Math.Bool.{true, false, not}
use mathlib.Core.List.{List, [], ◌∷◌}
use Rattle.bits.specs.Logic.{pick}
use Rattle.bits.specs.LogicLaws.{true_false}
use Rattle.limits.specs.Limits.{max_network}
use Rattle.text.specs.Line.{lines, ends_line, is_last}
use Rattle.sheet.specs.Examine.{Design, within}
use Rattle.network.specs.Network.{Network}
use Rattle.network.specs.Examine.{Place, at_network, at_luts, at_node, at_count, at_end_lem, over, Step, misspelled, next, bad_line, nothing, ask_line, at_end, follow, ask_lines, read_network}
use Rattle.network.specs.StepLaws.{bad_network}
use Rattle.locate.specs.Located.{has_line, part_of}
use Rattle.locate.specs.LineLaws.{has_some, has_within}
use Rattle.reports.specs.FoundLaws.{Found, found_here, found-later, found_line, found_text}
use Rattle.reports.specs.Stopped.{then_network, pass_network, NetworkStop}

line_is : {m n : ℕ} → bad_line m ≡ bad_line n → m ≡ n
line_is e = cc

module _ (d : Design) (ended : Bool) where
  -- line l among the lines ls, the first of which has the number n, is misspelled, or the last without 0x0A
  abbrev NetworkFound : Place → Network → ℕ → List (List ℕ) → ℕ → Type 0
  NetworkFound p w n ls l =
      Found (pass_network d) next (λ p' w' x after. (ask_line d p' w' x ≡ misspelled) ⊎ ((after ≡ []) × (ended ≡ false))) p w n ls l

  -- past the last line no line is left
  not_at_end : (p : Place) (w : Network) (n l : ℕ) → at_end p w n ≡ bad_line l → l < n + 0 → ⊥
  not_at_end at_network w n l e h = omega (arith, line_is e)
  not_at_end at_luts w n l e h = omega (arith, line_is e)
  not_at_end at_count w n l e h = omega (arith, line_is e)
  not_at_end at_end_lem w n l e h = omega (arith, line_is e)
  not_at_end over w n l e h = bad_network (sym e)
  not_at_end (at_node o) w n l e h = omega (arith, line_is e)

  -- the last line lacks its 0x0A
  unended : (ls : List (List ℕ)) → ended || not (is_last ls) ≡ false → (ls ≡ []) × (ended ≡ false)
  unended ls e = go ended ls e
    where
      go : (b : Bool) (ls : List (List ℕ)) → b || not (is_last ls) ≡ false → (ls ≡ []) × (b ≡ false)
      go true ls e = absurd (true_false e)
      go false [] e = (refl, refl)
      go false (l ∷ ls) e = absurd (true_false e)

  -- a line, where the lines after it are done
  module _ (p : Place) (w : Network) (n : ℕ) (x : List ℕ) (ls : List (List ℕ)) (l : ℕ)
      (later : (p' : Place) (w' : Network) → ask_lines d ended p' w' (suc n) ls ≡ bad_line l → NetworkFound p' w' (suc n) ls l) where
    by_step : (t : Step)
        → ask_line d p w x ≡ t
        → follow t n (λ p' w'. ask_lines d ended p' w' (suc n) ls) ≡ bad_line l
        → NetworkFound p w n (x ∷ ls) l
    unfolding pass_network
    by_step misspelled s f = found_here refl (inl s) (line_is f)
    by_step (next p' w') s f = found-later (λ ms. ap (λ (t : Step). then_network t (λ a b. pass_network d a b ms)) s) (later p' w' f)

    by_end : (b : Bool)
        → ended || not (is_last ls) ≡ b
        → follow (pick b (ask_line d p w x) misspelled) n (λ p' w'. ask_lines d ended p' w' (suc n) ls) ≡ bad_line l
        → NetworkFound p w n (x ∷ ls) l
    unfolding pass_network
    by_end true s f = by_step (ask_line d p w x) refl f
    by_end false s f = found_here refl (inr (unended ls s)) (line_is f)

  find : (ls : List (List ℕ)) (p : Place) (w : Network) (n l : ℕ)
      → ask_lines d ended p w n ls ≡ bad_line l
      → l < n + length ls
      → NetworkFound p w n ls l
  unfolding ask_lines
  find [] p w n l e h = absurd (not_at_end p w n l e h)
  find (x ∷ ls) p w n l e h = by_end p w n x ls l (λ p' w' f. find ls p' w' (suc n) l f (omega arith)) (ended || not (is_last ls)) refl e

-- ---- a network sheet
found_stop : (b : Bool) (d : Design) (t : List ℕ) (l : ℕ)
    → NetworkFound d (ends_line t) at_network nothing 1 (lines t) l
    → NetworkStop d t l (part_of b t l)
found_stop b d t l f =
    record {
      before = f.before;
      after = f.after;
      line = found_line t l f b;
      place = f.place;
      known = f.known;
      passed = f.passed;
      bad = ⊎_elim (λ s. inl (ap (ask_line d f.place f.known) (found_text t l f) ∙ s)) (λ s. inr s) f.stops;
    }

pub network_stop : (b : Bool) (d : Design) (t : List ℕ) (l : ℕ)
    → read_network d t ≡ bad_line l
    → has_line t l ≡ true
    → NetworkStop d t l (part_of b t l)
unfolding read_network
network_stop b d t l e i = go (within 1 max_network (length t)) e
  where
    go : (x : Bool)
        → pick x (ask_lines d (ends_line t) at_network nothing 1 (lines t)) (bad_line 0) ≡ bad_line l
        → NetworkStop d t l (part_of b t l)
    go true f =
        let j = has_within t l i in
        found_stop b d t l (find d (ends_line t) (lines t) at_network nothing 1 l f (omega arith))
    go false f =
        let j = has_some t l i in
        let k = line_is f in
        absurd (omega arith)
