-- The network sheets that pass question 10 beside a design are exactly the spellings of the well formed networks, and a bad
-- line is the size, line 0, or a line from the first to one past the last. Assumes nothing.
use Rattle.std.specs.Prelude.{◌≡◌, refl, Bool, true, false, ◌||◌, ◌↔◌, ℕ, suc, ◌+◌, ◌≤◌, length}
use Rattle.std.proofs.Common.{sym, ◌∙◌, arith}
use Rattle.std.proofs.Math.Path.{ap}
use Rattle.std.proofs.Math.Bool.{not}
use mathlib.Core.List.{List, [], ◌∷◌}
use Rattle.bits.specs.Logic.{pick}
use Rattle.limits.specs.Limits.{max_network}
use Rattle.text.specs.Line.{lines, ends_line, is_last}
use Rattle.sheet.specs.Examine.{Design, within}
use Rattle.network.specs.Network.{Network}
use Rattle.network.specs.Printer.{print_network}
use Rattle.network.specs.Examine.{Place, at_network, at_luts, at_node, at_count, at_end_lem, over, Step, misspelled, next}
use Rattle.network.specs.Examine.{ask_line, bad_line, network, at_end, follow, ask_lines, nothing, read_network}
use Rattle.network.specs.Spelling.{Spells}
use Rattle.network.specs.NetworkFor.{NetworkFor, Named}
use Rattle.network.specs.StepLaws.{bad_network}
use Rattle.network.specs.SpellingLaws.{print_spells}
use Rattle.network.specs.SheetReadLaws.{said_of_spelling}
use Rattle.network.specs.SheetSpellingLaws.{spelling_of_said}

network_read_of_spelling : (d : Design) (t : List ℕ) (w : Network)
    → Named d
    → NetworkFor d w
    → Spells d w t
    → length t ≤ max_network
    → read_network d t ≡ network w
network_read_of_spelling = said_of_spelling

pub network_spelling_of_read : (d : Design) (t : List ℕ) (w : Network)
    → read_network d t ≡ network w
    → Named d
    → NetworkFor d w × Spells d w t × (length t ≤ max_network)
network_spelling_of_read d t w e h = spelling_of_said d t w h.some-output e

pub network_spelled : (d : Design) (t : List ℕ) (w : Network)
    → Named d
    → (read_network d t ≡ network w) ↔ (NetworkFor d w × Spells d w t × (length t ≤ max_network))
network_spelled d t w h = (λ e. network_spelling_of_read d t w e h, λ (f, s, k). network_read_of_spelling d t w h f s k)

-- the print is one of them
pub network_read_of_print : (d : Design) (w : Network)
    → Named d
    → NetworkFor d w
    → length (print_network d w) ≤ max_network
    → read_network d (print_network d w) ≡ network w
network_read_of_print d w h f k = network_read_of_spelling d (print_network d w) w h f (print_spells d w f.node_each) k

-- ---- the bad line
line_is : {m n : ℕ} → bad_line m ≡ bad_line n → m ≡ n
line_is e = cc

-- a line among k lines from n on, or one past them
record Within (n k m : ℕ) : Type 0 where
  pub low : n ≤ m
  pub high : m ≤ n + k

here : (n k m : ℕ) → bad_line n ≡ bad_line m → Within n k m
here n k m e =
    let q : n ≡ m = line_is e in
    record { low = omega arith; high = omega arith }

at_end_within : (p : Place) (w : Network) (n m : ℕ) → at_end p w n ≡ bad_line m → Within n 0 m
at_end_within at_network w n m e = here n 0 m e
at_end_within at_luts w n m e = here n 0 m e
at_end_within at_count w n m e = here n 0 m e
at_end_within at_end_lem w n m e = here n 0 m e
at_end_within over w n m e = absurd (bad_network (sym e))
at_end_within (at_node o) w n m e = here n 0 m e

module _ (d : Design) (ended : Bool) where
  follow-within : (s : Step) (n m : ℕ) (ls : List (List ℕ))
      → ((p : Place) (w : Network) → ask_lines d ended p w (suc n) ls ≡ bad_line m → Within (suc n) (length ls) m)
      → follow s n (λ p w. ask_lines d ended p w (suc n) ls) ≡ bad_line m
      → Within n (suc (length ls)) m
  follow-within misspelled n m ls h e = here n (suc (length ls)) m e
  follow-within (next p w) n m ls h e =
      let i = h p w e in
      record { low = omega arith; high = omega arith }

  lines-within : (ls : List (List ℕ)) (p : Place) (w : Network) (n m : ℕ)
      → ask_lines d ended p w n ls ≡ bad_line m
      → Within n (length ls) m
  unfolding ask_lines
  lines-within [] p w n m e = at_end_within p w n m e
  lines-within (l ∷ ls) p w n m e =
      follow-within (pick (ended || not (is_last ls)) (ask_line d p w l) misspelled) n m ls
      (λ q v f. lines-within ls q v (suc n) m f) e

module _ (d : Design) (t : List ℕ) where
  -- line 0 for the size
  bad_size : within 1 max_network (length t) ≡ false → read_network d t ≡ bad_line 0
  unfolding read_network
  bad_size h = ap (λ (x : Bool). pick x (ask_lines d (ends_line t) at_network nothing 1 (lines t)) (bad_line 0)) h

  sized-within : (m : ℕ)
      → within 1 max_network (length t) ≡ true
      → read_network d t ≡ bad_line m
      → Within 1 (length (lines t)) m
  unfolding read_network
  sized-within m h e =
      lines-within d (ends_line t) (lines t) at_network nothing 1 m
      (sym (ap (λ (x : Bool). pick x (ask_lines d (ends_line t) at_network nothing 1 (lines t)) (bad_line 0)) h) ∙ e)

  -- else a line of the sheet, or one past the last
  pub bad_line_low : (m : ℕ) → within 1 max_network (length t) ≡ true → read_network d t ≡ bad_line m → 1 ≤ m
  bad_line_low m h e = (sized-within m h e).low

  pub bad_line_high : (m : ℕ) → read_network d t ≡ bad_line m → m ≤ suc (length (lines t))
  bad_line_high m e = go (within 1 max_network (length t)) refl
    where
      go : (x : Bool) → within 1 max_network (length t) ≡ x → m ≤ suc (length (lines t))
      go true h = omega (arith, (sized-within m h e).high)
      go false h = omega (arith, line_is (sym (bad_size h) ∙ e))
