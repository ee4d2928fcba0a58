-- A formula of which only the spelling is read. Assumes nothing.
use Rattle.std.specs.Prelude.{List, ℕ, length, Option, Some, None}
use Rattle.text.specs.Bytes.{Read, found, bad, after}
use Rattle.cursor.specs.Item.{from}
use Rattle.cursor.specs.declared.Cursor.{Cursor}

-- where an item was read, and the text after it
abbrev pub spelling : {A : Type 0} → Read A → Read (Unit {0})
spelling q = after q (λ _ t. found tt t)

-- what was skimmed so far, and the text after it
abbrev pub skimmed_so_far : List ℕ → Option Cursor → Read (Unit {0})
skimmed_so_far s (Some c) = found tt (from s c)
skimmed_so_far s None = bad

-- how much of the text is left
abbrev pub left : Read (Unit {0}) → ℕ
left (found _ t) = length t
left bad = 0
