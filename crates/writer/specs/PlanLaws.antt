-- The lines of a plan of a design that is held are the design's network sheet. Assumes nothing.
use Rattle.std.specs.Prelude.{◌≡◌, map, ℕ, ◌≤◌, length, take}
use Rattle.names.specs.Pack.{name_of}
use Rattle.sheet.specs.Examine.{Design}
use Rattle.sheet.specs.Known.{Holds}
use Rattle.classes.specs.Columns.{free}
use Rattle.classes.specs.Proper.{Proper}
use Rattle.classes.specs.Answer.{ShapeIs}
use Rattle.network.specs.Printer.{print_network}
use Rattle.serving.specs.Build.{built}
use Rattle.network.specs.Shown.{shown, item}
use Rattle.netlines.specs.Lines.{head_line}
use Rattle.netlines.specs.WrittenLaws.{sheet-written}
use Rattle.writer.specs.declared.Plan.{Plan}
use Rattle.writer.specs.Plans.{lut_lines, node_lines, all_lines}

pub lines_are_sheet : (p : Plan) → shown p.bound ≡ map (λ (q : ℕ). name_of (item p.sheet.names q)) (take p.sheet.bounds p.sheet.bound)
    → shown p.free ≡ free (map name_of (take p.sheet.inputs p.sheet.names)) (shown p.bound)
    → p.shape.vertices ≤ length p.shape.vertex → p.shape.frees ≤ length p.shape.free
    → (d : Design) → Holds d p.sheet → Proper d → ShapeIs d p.shape → all_lines p ≡ print_network d (built d p.tables (item p.rows) (item p.codes))
unfolding all_lines head_line lut_lines node_lines
lines_are_sheet p bound_is free_is v-long f-long d h proper s =
    sheet-written d p.sheet h proper p.shape s v-long f-long p.tables (item p.rows) (item p.codes) (shown p.bound) (shown p.free) bound_is free_is
