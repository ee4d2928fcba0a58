-- Formulas: names of inputs, constants, negations, and gates of at least two operands (clauses 5.1 and 5.2). Assumes nothing.
use Rattle.std.specs.Prelude.{Bool, true, ◌&&◌, List, ℕ, suc, max}
use Rattle.names.specs.Name.{Name, among}
use Rattle.cursor.specs.Opening.{Gate}

mutual
  pub data Formula : Type 0 where
    input : Name → Formula
    constant : Bool → Formula
    negation : Formula → Formula
    gate : Gate → Formula → Formula → Operands → Formula

  -- the operands of a gate after the first two
  pub data Operands : Type 0 where
    none : Operands
    more : Formula → Operands → Operands

-- how deep brackets are nested (clause 5.4)
unfoldable mutual
  pub depth : Formula → ℕ
  depth (input n) = 0
  depth (constant b) = 0
  depth (negation f) = suc (depth f)
  depth (gate g e f fs) = suc (max (depth e) (max (depth f) (depths fs)))

  pub depths : Operands → ℕ
  depths none = 0
  depths (more f fs) = max (depth f) (depths fs)

-- whether every name in a formula is an input
unfoldable mutual
  pub knows : List Name → Formula → Bool
  knows ns (input n) = among n ns
  knows ns (constant b) = true
  knows ns (negation f) = knows ns f
  knows ns (gate g e f fs) = knows ns e && (knows ns f && knows_all ns fs)

  pub knows_all : List Name → Operands → Bool
  knows_all ns none = true
  knows_all ns (more f fs) = knows ns f && knows_all ns fs
