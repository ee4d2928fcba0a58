-- What the code that reads a formula answers, by the definitions: a formula with the text after it, or no formula.
-- Assumes nothing.
use Rattle.std.specs.Prelude.{◌≡◌, Bool, not, List, [], ◌∷◌, ℕ, suc, ◌≤◌, ◌<◌, min, max, length, drop, Option, Some, None}
use Rattle.bits.specs.Logic.{andb}
use Rattle.limits.specs.Limits.{max_depth}
use Rattle.text.specs.Bytes.{Read, found, bad, after, eat, close_bracket}
use Rattle.names.specs.Name.{Name}
use Rattle.rows.specs.Words.{Rowwise, row_on}
use Rattle.cursor.specs.Opening.{Gate}
use Rattle.cursor.specs.declared.Cursor.{Cursor}
use Rattle.formula.specs.Tree.{Formula, depth, knows}
use Rattle.formula.specs.Reader.{read_operands, close_gate}
use Rattle.formula.specs.Value.{value, on_row}
use Rattle.formula.specs.Gates.{two}
use Rattle.formula.specs.declared.Part.{Part}

-- one bracket more; past the deepest that is allowed depths are not told apart
abbrev pub deepened : ℕ → ℕ
deepened d = min (suc d) (suc max_depth)

-- the formula f, and after it the text t; ns are the inputs. Of a formula that is k brackets deep or deeper only that and
-- its spelling are known.
pub record Good (k : ℕ) (s : List ℕ) (ns : List Name) (f : Formula) (t : List ℕ) (p : Part) : Type 0 where
  pub inside : p.next.at ≤ length s
  pub rest : drop p.next.at s ≡ t
  pub deep : p.depth ≡ min (depth f) k
  pub names : depth f < k → p.known ≡ knows ns f
  pub rows : depth f < k → Rowwise (λ (r : ℕ). value (on_row ns r) f) p.rows

abbrev pub PartIs : ℕ → List ℕ → List Name → Read Formula → Option Part → Type 0
PartIs k s ns (found f t) (Some p) = Good k s ns f t p
PartIs k s ns bad (Some p) = ⊥
PartIs k s ns q None = bad ≡ q

-- what was read so far, and the text after it
abbrev pub read_so_far : List ℕ → Option Part → Read (Unit {0})
read_so_far s (Some p) = found tt (drop p.next.at s)
read_so_far s None = bad

-- two answers of which each or none is a formula, and the formulas are as R says
abbrev pub Both : (Part → Part → Type 0) → Option Part → Option Part → Type 0
Both R (Some p) (Some r) = R p r
Both R (Some p) None = ⊥
Both R None (Some r) = ⊥
Both R None None = Unit {0}

-- a name or a digit before a cursor
pub record Atom (c : Cursor) (known : Bool) (v : ℕ → Bool) (p : Part) : Type 0 where
  pub moved : p.next ≡ c
  pub flat : p.depth ≡ 0
  pub named : p.known ≡ known
  pub each : Rowwise v p.rows

-- a formula before a cursor that was only skimmed
pub record Skimmed (c : Cursor) (p : Part) : Type 0 where
  pub moved : p.next ≡ c
  pub flat : p.depth ≡ 0

abbrev pub Unread : Option Cursor → Option Part → Type 0
Unread (Some c) (Some p) = Skimmed c p
Unread (Some c) None = ⊥
Unread None (Some p) = ⊥
Unread None None = Unit {0}

-- p past its closing bracket, after which the text t is left
pub record Shut (s : List ℕ) (p r : Part) (t : List ℕ) : Type 0 where
  pub inside : r.next.at ≤ length s
  pub rest : drop r.next.at s ≡ t
  pub deep : r.depth ≡ deepened p.depth
  pub named : r.known ≡ p.known
  pub same : r.rows ≡ p.rows

abbrev pub ClosedBy : List ℕ → Option Part → Option Part → Read (Unit {0}) → Type 0
ClosedBy s (Some p) (Some r) (found _ t) = Shut s p r t
ClosedBy s (Some p) (Some r) bad = ⊥
ClosedBy s None (Some r) x = ⊥
ClosedBy s p None x = bad ≡ x

abbrev pub Closed : List ℕ → Option Part → Option Part → Type 0
Closed s p r = ClosedBy s p r (after (read_so_far s p) (λ _ t. eat (close_bracket ∷ []) t))

pub record Negated (p r : Part) : Type 0 where
  pub moved : r.next ≡ p.next
  pub deep : r.depth ≡ p.depth
  pub named : r.known ≡ p.known
  pub each : Rowwise (λ (x : ℕ). not (row_on p.rows x)) r.rows

-- the operands of p and the operand q
pub record Joined (g : Gate) (p q r : Part) : Type 0 where
  pub moved : r.next ≡ q.next
  pub deep : r.depth ≡ max p.depth q.depth
  pub named : r.known ≡ andb p.known q.known
  pub each : Rowwise (λ (x : ℕ). two g (row_on p.rows x) (row_on q.rows x)) r.rows

-- a gate whose first operand is read
abbrev pub gate_on : Gate → Read Formula → Read Formula
gate_on g q = after q (λ e t. after (read_operands t) (λ fs u. close_gate g e fs u))
