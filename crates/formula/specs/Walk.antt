-- The loop over the operands of a gate, by the definitions: what the loop knows after each operand. k is how many brackets are
-- looked into. Assumes nothing.
use Rattle.std.specs.Prelude.{◌≡◌, Bool, true, false, List, [], ◌∷◌, ℕ, ◌≤◌, ◌<◌, min, max, length, drop, Option, Some, None}
use Rattle.bits.specs.Logic.{andb}
use Rattle.text.specs.Bytes.{Read, found, bad, after, eat, space}
use Rattle.names.specs.Name.{Name}
use Rattle.rows.specs.Words.{Rowwise}
use Rattle.cursor.specs.Opening.{Gate}
use Rattle.cursor.specs.declared.Cursor.{Cursor}
use Rattle.formula.specs.Tree.{Formula, Operands, none, depth, depths, knows, knows_all}
use Rattle.formula.specs.Reader.{read_operands}
use Rattle.formula.specs.Value.{value, values, on_row, combine}
use Rattle.formula.specs.Onto.{onto}
use Rattle.formula.specs.Part.{read_so_far}
use Rattle.formula.specs.declared.Part.{Part}

-- the byte b after what was read
abbrev pub then : List ℕ → Option Part → ℕ → Read (Unit {0})
then s p b = after (read_so_far s p) (λ _ t. eat (b ∷ []) t)

-- operands put before others
abbrev pub before : List Formula → Read Operands → Read Operands
before fs (found os t) = found (onto fs os) t
before fs bad = bad

-- whether an operand after the first is read
abbrev pub non_empty : List Formula → Bool
non_empty [] = false
non_empty (f ∷ fs) = true

-- after the first operand e and the operands fs; u is the text after e
pub record Going (k : ℕ) (s : List ℕ) (ns : List Name) (g : Gate) (e : Formula) (u : List ℕ) (fs : List Formula) (p : Part) : Type 0 where
  pub here : read_operands u ≡ before fs (read_operands (drop p.next.at s))
  pub deep : p.depth ≡ min (max (depth e) (depths (onto fs none))) k
  pub named : max (depth e) (depths (onto fs none)) < k → p.known ≡ andb (knows ns e) (knows_all ns (onto fs none))
  pub rows : max (depth e) (depths (onto fs none)) < k
      → Rowwise (λ (r : ℕ). combine g (value (on_row ns r) e ∷ values (on_row ns r) (onto fs none))) p.rows

pub data Walk (k : ℕ) (s : List ℕ) (ns : List Name) (g : Gate) (e : Formula) (u : List ℕ) (p : Part) (enough : Bool) : Type 0 where
  going : (fs : List Formula) → enough ≡ non_empty fs → Going k s ns g e u fs p → Walk k s ns g e u p enough

-- None, where an operand is broken
abbrev pub WalkOf : ℕ → List ℕ → List Name → Gate → Read Formula → Option Part → Bool → Type 0
WalkOf k s ns g (found e u) (Some p) enough = Walk k s ns g e u p enough
WalkOf k s ns g (found e u) None enough = bad ≡ read_operands u
WalkOf k s ns g bad (Some p) enough = ⊥
WalkOf k s ns g bad None enough = Unit {0}

-- a further operand stands at a cursor, after a space
pub record Further (k : ℕ) (s : List ℕ) (ns : List Name) (g : Gate) (y : Read Formula) (p : Part) (c : Cursor) : Type 0 where
  pub inside : c.at ≤ length s
  pub spaced : found tt (drop c.at s) ≡ eat (space ∷ []) (drop p.next.at s)
  pub enough : Bool
  pub walked : WalkOf k s ns g y (Some p) enough
