-- The line at which an examination stopped (clause 14.7): the lines before it were passed, and for this one the refusal's question
-- was asked and answered "no". It is a line of the design sheet for questions 2 to 5, and of the network sheet for 10 and 11. Assumes nothing.
use Rattle.std.specs.Prelude.{◌≡◌, true, false, ◌⊎◌, List, [], ◌∷◌, ℕ, ◌+◌, ◌≤◌, ◌<◌, length, get_or}
use Rattle.limits.specs.Limits.{first_lut}
use Rattle.text.specs.Line.{lines, ends_line}
use Rattle.sheet.specs.Examine as sheet
use Rattle.sheet.specs.Examine.{Design, valid, examine}
use Rattle.network.specs.Network.{Network}
use Rattle.network.specs.Examine as net
use Rattle.network.specs.Examine.{read_network}
use Rattle.network.specs.Spelling.{LutSpelled, NodeSpelled}
use Rattle.network.specs.Parts.{free_of, names_of}
use Rattle.network.specs.NetworkFor.{node_at}
use Rattle.network.specs.Answers.{FirstOffending}
use Rattle.locate.specs.Located.{Part}
use Rattle.locate.specs.IsLine.{IsLine}

-- ---- the design sheet
abbrev pub then_sheet : sheet.Step → (sheet.Place → Design → sheet.Step) → sheet.Step
then_sheet (sheet.no_to q) onward = sheet.no_to q
then_sheet (sheet.next p d) onward = onward p d

-- where some lines lead to, from a place on with d known: the next place and what is known then
unfoldable pub pass_sheet : sheet.Place → Design → List (List ℕ) → sheet.Step
pass_sheet p d [] = sheet.next p d
pass_sheet p d (l ∷ ls) = then_sheet (sheet.ask_line p d l) (λ p' d'. pass_sheet p' d' ls)

-- p is line l of the design sheet s, and the first of questions 2 to 5 that was answered "no" for it is q
pub record SheetStop (s : List ℕ) (q l : ℕ) (p : Part) : Type 0 where
  pub before : List (List ℕ)
  pub after : List (List ℕ)
  pub line : IsLine s before after l p
  pub place : sheet.Place
  pub known : Design
  pub passed : pass_sheet sheet.at_design sheet.nothing before ≡ sheet.next place known
  pub refused : sheet.ask_line place known p.text ≡ sheet.no_to q

-- ---- the network sheet, question 10
abbrev pub then_network : net.Step → (net.Place → Network → net.Step) → net.Step
then_network net.misspelled onward = net.misspelled
then_network (net.next p w) onward = onward p w

unfoldable pub pass_network : Design → net.Place → Network → List (List ℕ) → net.Step
pass_network d p w [] = net.next p w
pass_network d p w (l ∷ ls) = then_network (net.ask_line d p w l) (λ p' w'. pass_network d p' w' ls)

-- p is line l of the network sheet t, and it is misspelled, or a last line without 0x0A
pub record NetworkStop (d : Design) (t : List ℕ) (l : ℕ) (p : Part) : Type 0 where
  pub before : List (List ℕ)
  pub after : List (List ℕ)
  pub line : IsLine t before after l p
  pub place : net.Place
  pub known : Network
  pub passed : pass_network d net.at_network net.nothing before ≡ net.next place known
  pub bad : (net.ask_line d place known p.text ≡ net.misspelled) ⊎ ((after ≡ []) × (ends_line t ≡ false))

-- ---- the network sheet, question 11
-- what stands on a line of a network: shared table i, or the node of output o, each in some spelling of its names
pub data Stands (d : Design) (w : Network) : ℕ → List ℕ → Type 0 where
  a_lut : {l : List ℕ} (i : ℕ)
      → i < length w.luts
      → LutSpelled d.bound i (get_or w.luts i []) l
      → Stands d w (i + first_lut) l
  a_node : {l : List ℕ} (o : ℕ)
      → o < length w.nodes
      → NodeSpelled (get_or (names_of d) o []) (free_of d) (node_at w.nodes o) l
      → Stands d w (length w.luts + first_lut + o) l

-- p is line l of the network sheet t, and the first line of its network that offends against the limit or a width
pub record LimitStop (d : Design) (t : List ℕ) (l : ℕ) (p : Part) : Type 0 where
  pub before : List (List ℕ)
  pub after : List (List ℕ)
  pub line : IsLine t before after l p
  pub says : Network
  pub is_read : read_network d t ≡ net.network says
  pub offends : FirstOffending d says l
  pub stands : Stands d says l p.text

-- ---- a refusal by q on line l
-- q is one of 2 to 5 and the design sheet s has line l, or 10 or 11 and the network sheet t has it
pub data NamesLine (s t : List ℕ) (q l : ℕ) : Type 0 where
  of_design : 2 ≤ q → q ≤ 5 → 1 ≤ l → l ≤ length (lines s) → NamesLine s t q l
  of_network : 10 ≤ q → q ≤ 11 → 1 ≤ l → l ≤ length (lines t) → NamesLine s t q l

-- the examination stopped at the part p of the design sheet s or the network sheet t
pub data Stopped (s t : List ℕ) (q l : ℕ) (p : Part) : Type 0 where
  in_design : 2 ≤ q → q ≤ 5 → p.second ≡ false → SheetStop s q l p → Stopped s t q l p
  misspelled : (d : Design) → examine s ≡ valid d → q ≡ 10 → p.second ≡ true → NetworkStop d t l p → Stopped s t q l p
  over_limit : (d : Design) → examine s ≡ valid d → q ≡ 11 → p.second ≡ true → LimitStop d t l p → Stopped s t q l p
