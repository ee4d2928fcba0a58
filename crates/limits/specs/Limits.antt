-- The limits (clause 2.1) and what follows from them (clauses 2.2 and 2.3), each named once. Assumes nothing.
use Rattle.std.specs.Prelude.{ℕ, ◌*◌, ◌/◌, ◌^◌}

-- the design sheet: names of the `in` line, names of the `bound` line, N, `out` lines, brackets
abbrev pub max_inputs : ℕ
max_inputs = 10

abbrev pub max_bound : ℕ
max_bound = 5

abbrev pub max_limit : ℕ
max_limit = 6

abbrev pub max_outputs : ℕ
max_outputs = 4

abbrev pub max_depth : ℕ
max_depth = 32

-- characters of a name, digits of a number
abbrev pub max_name : ℕ
max_name = 8

abbrev pub max_digits : ℕ
max_digits = 3

-- question 1: bytes of a design sheet
abbrev pub max_sheet : ℕ
max_sheet = 4096

-- the network sheet: lut lines; question 7: global classes; question 10: bytes of a network sheet
abbrev pub max_cells : ℕ
max_cells = 6

abbrev pub max_classes : ℕ
max_classes = 16

abbrev pub max_network : ℕ
max_network = 8192

-- the most bytes of a network's text in BLIF: the sum of its parts, each as long as the other limits let it be
abbrev pub max_blif : ℕ
max_blif = 55735

-- the line of the first lut
abbrev pub first_lut : ℕ
first_lut = 2

-- a PLA text: its bytes, and digits of its numbers
abbrev pub max_pla : ℕ
max_pla = 32768

abbrev pub max_pla_digits : ℕ
max_pla_digits = 5

-- rows of a design, vertices, free rows (one input at least is bound), codes of shared tables
abbrev pub max_rows : ℕ
max_rows = 2 ^ max_inputs

abbrev pub max_vertices : ℕ
max_vertices = 2 ^ max_bound

abbrev pub max_free_rows : ℕ
max_free_rows = max_rows / 2

abbrev pub max_codes : ℕ
max_codes = 2 ^ max_cells

-- words of a table, 64 rows to a word
abbrev pub table_words : ℕ
table_words = max_rows / 64

-- outputs that the search has room for; its class labels, for each output at each vertex; its blocks, for each output and
-- each code
abbrev pub search_outputs : ℕ
search_outputs = 8

abbrev pub label_count : ℕ
label_count = search_outputs * max_vertices

abbrev pub block_count : ℕ
block_count = search_outputs * max_codes
