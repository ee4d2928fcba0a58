-- What is said of sheet A's PLA panel holds: Table and Check are computed, and since the panel has sheet A's tables, Map's outcomes
-- are those on sheet A. Assumes nothing.
use Rattle.std.specs.Prelude.{◌≡◌, refl, List, [], ℕ, zero, suc, ◌<◌}
use Rattle.std.proofs.Common.{arith}
use Rattle.bits.specs.Values.{values_upto}
use Rattle.bits.specs.ValuesLaws as bits
use Rattle.sheet.specs.Examine as sheets
use Rattle.sheet.specs.Examine.{refused, valid}
use Rattle.sheet.specs.Value.{output_on}
use Rattle.design.specs.Sheets.{design_a}
use Rattle.mapper.specs.Map.{MapAnswer, refused_by, OutcomeOf}
use Rattle.demands.specs.Computing as demands
use Rattle.demands.specs.OutcomeLaws.{outcome_refused, refusal_outcome}
use Rattle.demands.specs.Worked.{HasOutcome, sheet_a}
use Rattle.demands.specs.ForcedSheets.{a_printed}
use Rattle.panel.specs.Computing as panels
use Rattle.panel.specs.Examine.{examine}
use Rattle.panel.specs.Worked.{pla_a, board_a, panel_a}
use Rattle.pla.specs.SameTables.{SameTables, SameAnswers}
use Rattle.pla.proofs.SameAnswersLaws.{pair_as_sheet}
use Rattle.pla.specs.Worked.{WorkedPla}

pair_said : examine pla_a board_a ≡ valid panel_a
unfolding panels.computing
pair_said = refl

pair_refused : examine [] board_a ≡ refused 12 0
unfolding panels.computing
pair_refused = refl

sheet-said : sheets.examine sheet_a ≡ valid design_a
unfolding demands.computing
sheet-said = refl

-- ---- the panel has the sheet's tables
f_values : values_upto (output_on panel_a 0) 16 ≡ values_upto (output_on design_a 0) 16
unfolding demands.computing panels.computing
f_values = refl

g_values : values_upto (output_on panel_a 1) 16 ≡ values_upto (output_on design_a 1) 16
unfolding demands.computing panels.computing
g_values = refl

values : (o r : ℕ) → o < 2 → r < 16 → output_on panel_a o r ≡ output_on design_a o r
values zero r k l = bits.same_values (output_on panel_a 0) (output_on design_a 0) 16 r l f_values
values (suc zero) r k l = bits.same_values (output_on panel_a 1) (output_on design_a 1) 16 r l g_values
values (suc (suc o)) r k l = absurd (omega arith)

same_tables : SameTables panel_a design_a
unfolding panels.computing
same_tables =
    record {
      same_inputs = refl;
      same-bound = refl;
      same_limit = refl;
      same_outputs = refl;
      same_values = values;
    }

as_sheet : SameAnswers (examine pla_a board_a) (sheets.examine sheet_a)
as_sheet = pair_as_sheet pla_a board_a sheet_a panel_a design_a pair_said sheet-said same_tables

-- an outcome on the pair is one on the sheet
there : (b : List ℕ) (a : MapAnswer) (b' : List ℕ) → OutcomeOf (examine pla_a board_a) b a b' → OutcomeOf (sheets.examine sheet_a) b a b'
there = as_sheet.map_there

-- and one on the sheet is one on the pair
pair_has : (b : List ℕ) → HasOutcome (sheets.examine sheet_a) b → HasOutcome (examine pla_a board_a) b
pair_has b h = record { answer = h.answer; buffer = h.buffer; is_outcome = as_sheet.map_back b h.answer h.buffer h.is_outcome }

pub worked_pla : WorkedPla
unfolding demands.computing panels.computing
worked_pla =
    record {
      table_f = refl;
      table_g = refl;
      no_third_output = λ b. refl;
      check_same = refl;
      check_differs = refl;
      check_complement = refl;
      network-bytes = refl;
      map_has_outcome = λ b. pair_has b (a_printed.maps.has_outcome b);
      map_answers = λ b a b' k x. a_printed.maps.answers b a b' k (there b a b' x);
      map_writes = λ b a b' k x. a_printed.writes b a b' k (there b a b' x);
      map_short = λ b a b' k x. a_printed.maps.short b a b' k (there b a b' x);
      map-untouched = λ b a b' k x. a_printed.maps.untouched b a b' k (there b a b' x);
      as_sheet = as_sheet;
      refused-table = λ o b. refl;
      refused_has_outcome = λ b. record { answer = refused_by 12 0; buffer = b; is_outcome = refusal_outcome 12 0 b pair_refused };
      refused-map = λ b a b' x. (outcome_refused 12 0 pair_refused x).refusal;
      refused-check = λ t. refl;
    }
