-- The most bytes of a text in BLIF within the limits: shared tables over bound inputs alone, nodes over no more inputs than a
-- design may have. Assumes nothing.
use Rattle.std.specs.Prelude.{ℕ, ◌+◌, ◌*◌, ◌^◌}
use Rattle.limits.specs.Limits.{max_inputs, max_bound, max_outputs, max_cells}
use Rattle.emit.specs.Written.{item_room}
use Rattle.blif.specs.Room.{size, head_room, end_room}

-- a block over n inputs: its first line, with what it drives; the line of a row; the block
abbrev longest_names : ℕ → ℕ
longest_names n = size ".names" + item_room * (n + 1) + 1

abbrev pub longest_row : ℕ → ℕ
longest_row n = n + size " 1\n"

abbrev pub longest_block : ℕ → ℕ
longest_block n = longest_names n + longest_row n * 2 ^ n

abbrev pub longest_text : ℕ
longest_text = head_room + longest_block max_bound * max_cells + longest_block max_inputs * max_outputs + end_room
