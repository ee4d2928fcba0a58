-- A name is looked up by the test of names alone: names that are the same have one value on a row. Assumes nothing.
use Rattle.std.specs.Prelude.{◌≡◌, refl, Bool, true, List, [], ◌∷◌, ℕ, length}
use Rattle.std.proofs.Common.{ap₂}
use Rattle.bits.specs.Logic.{pick}
use Rattle.bits.specs.Digit.{on}
use Rattle.names.specs.Name.{Name, same_name}
use Rattle.names.specs.SameLaws.{same_name_right, among_same}
use Rattle.formula.specs.Value.{on_row}
use Rattle.classes.specs.Columns.{on_parts}

-- a function that sees a name through the test alone
abbrev pub Respects : {A : Type 0} → (Name → A) → Type 0
Respects f = (m n : Name) → same_name m n ≡ true → f m ≡ f n

pub row_same : (ns : List Name) (r : ℕ) → Respects (on_row ns r)
unfolding on_row
row_same [] r m n e = refl
row_same (k ∷ ns) r m n e =
    ap₂ (λ (t b : Bool). pick t (on r (length ns)) b) (same_name_right m n e k) (row_same ns r m n e)

pub parts_same : (bs fs : List Name) (x y : ℕ) → Respects (on_parts bs fs x y)
unfolding on_parts
parts_same bs fs x y m n e = rw (among_same m n e bs, row_same bs x m n e, row_same fs y m n e)
