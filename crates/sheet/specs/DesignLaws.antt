-- The design sheets that pass questions 1 to 5 are exactly those that write a well_formed design: its prints of at most 4,096
-- bytes, with the names of the `bound` line in any spelling. Each says the design that it writes. Assumes nothing.
use Rattle.std.specs.Prelude.{◌≡◌, refl, true, ◌↔◌, List, ℕ, ◌≤◌, length}
use Rattle.std.proofs.Common.{sym, ◌∙◌}
use Rattle.limits.specs.Limits.{max_sheet}
use Rattle.names.specs.Name.{Name}
use Rattle.names.specs.Spelled.{same_names}
use Rattle.names.specs.SameNamesLaws.{same_names_self, same_names_back, same_names_through}
use Rattle.sheet.specs.Examine.{Design, valid, examine, with_bound}
use Rattle.sheet.specs.WellFormed.{WellFormed}
use Rattle.sheet.specs.Printer.{design_lines, print_design}
use Rattle.sheet.specs.Written.{Writes}
use Rattle.sheet.specs.AskedLaws.{valid_is}
use Rattle.sheet.specs.DesignReadLaws.{writes_of_read}
use Rattle.sheet.specs.DesignPrintLaws.{read_of_writes}

pub design_spelled : (s : List ℕ) (d : Design) → (examine s ≡ valid d) ↔ Writes s d
unfolding print_design design_lines
design_spelled s d = (writes_of_read (λ e. refl) s d, read_of_writes (λ e. refl) s d)

-- the print of a well_formed design is valid, and says that design
pub printed_valid : (d : Design) → WellFormed d → length (print_design d) ≤ max_sheet → examine (print_design d) ≡ valid d
unfolding print_design design_lines
printed_valid d w h =
    read_of_writes (λ e. refl) (print_design d) d
    (record { well_formed = w; written = d.bound; same-bound = same_names_self d.bound; is_print = refl; fits = h })

-- the sheets s and t are prints of d that differ in how they spell the bound names alone
pub record SpelledApart (s t : List ℕ) (d : Design) : Type 0 where
  pub first : List Name
  pub second : List Name
  pub same-bound : same_names first second ≡ true
  pub first_print : s ≡ print_design (with_bound d first)
  pub second_print : t ≡ print_design (with_bound d second)

-- two sheets that say the same differ in that alone, and two designs that are written alike are alike
pub one-sheet : (s t : List ℕ) (d : Design) → examine s ≡ valid d → examine t ≡ valid d → SpelledApart s t d
unfolding print_design design_lines
one-sheet s t d e f =
    let v = writes_of_read (λ e. refl) s d e in
    let w = writes_of_read (λ e. refl) t d f in
    record {
      first = v.written;
      second = w.written;
      same-bound = same_names_through v.written d.bound w.written
          (same_names_back d.bound v.written v.same-bound) w.same-bound;
      first_print = v.is_print;
      second_print = w.is_print;
    }

pub one-design : (s : List ℕ) (d e : Design) → Writes s d → Writes s e → d ≡ e
unfolding print_design design_lines
one-design s d e f g = valid_is (sym (read_of_writes (λ e. refl) s d f) ∙ read_of_writes (λ e. refl) s e g)
