-- The text in BLIF by what the code holds: names, rows and blocks, and tables as digits that stand in the text of a
-- network sheet. Assumes nothing.
use Rattle.std.specs.Prelude.{Bool, List, [], ◌∷◌, ◌++◌, map, ℕ, ◌+◌, ◌^◌, length, get_or}
use Rattle.bits.specs.Logic.{pick}
use Rattle.bits.specs.Digit.{on}
use Rattle.rows.specs.Row.{values_of}
use Rattle.text.specs.Bytes.{bytes, space, newline}
use Rattle.names.specs.Name.{Name}
use Rattle.names.specs.Names.{print_names}
use Rattle.names.specs.Pack.{name_of}
use Rattle.network.specs.Numbers.{numbers_of}
use Rattle.comparing.specs.Code.{one_at}
use Rattle.emit.specs.Upto.{texts_upto}
use Rattle.blif.specs.Printer.{cell_name, row_line}

-- name i of some, and cell i of a mask, after a space
abbrev pub item_text : List ℕ → ℕ → List ℕ
item_text ns i = space ∷ name_of (get_or ns i 0)

abbrev pub cell_text : ℕ → ℕ → List ℕ
cell_text mask i = pick (on mask i) (space ∷ cell_name i) []

-- the line of row r of n inputs, where f has 1 on it
abbrev pub row_text : ℕ → (ℕ → Bool) → ℕ → List ℕ
row_text n f r = pick (f r) (row_line (values_of n r) ++ (newline ∷ [])) []

unfoldable pub rows_text : ℕ → (ℕ → Bool) → List ℕ
rows_text n f = texts_upto (row_text n f) (2 ^ n)

-- the block of the table f over the inputs is, which drives n
unfoldable pub block_text : List Name → Name → (ℕ → Bool) → List ℕ
block_text is n f = bytes ".names" ++ (print_names (is ++ (n ∷ [])) ++ (newline ∷ rows_text (length is) f))

-- the digits of t from a place on
abbrev pub digits_at : List ℕ → ℕ → ℕ → Bool
digits_at t p r = one_at t (p + r)

-- the block of shared table i, and that of output o; their digits stand in t at these places
abbrev pub lut_text : List ℕ → List Name → List ℕ → ℕ → List ℕ
lut_text t bs lutat i = block_text bs (cell_name i) (digits_at t (get_or lutat i 0))

abbrev pub node_text : List ℕ → List Name → List ℕ → ℕ → List ℕ → List ℕ → ℕ → List ℕ
node_text t fs outs luts reads nodeat o =
    block_text (map cell_name (numbers_of luts (get_or reads o 0)) ++ fs) (name_of (get_or outs o 0)) (digits_at t (get_or nodeat o 0))

-- a directive with names
abbrev pub directive_text : List ℕ → List Name → List ℕ
directive_text word ns = word ++ (print_names ns ++ (newline ∷ []))

-- the first three lines
unfoldable pub head_text : List Name → List Name → List ℕ
head_text is os = bytes ".model panel\n" ++ (directive_text (bytes ".inputs") is ++ directive_text (bytes ".outputs") os)
