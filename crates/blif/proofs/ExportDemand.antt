-- Export meets what clause 14.8 demands. Assumes nothing.
use Rattle.std.specs.Prelude.{◌≡◌, List, ℕ}
use Rattle.std.proofs.Common.{ap}
use Rattle.sheet.specs.Examine.{Design, Examined, valid, examine}
use Rattle.sheet.specs.WellFormed.{WellFormed}
use Rattle.sheet.specs.ExaminationLaws.{valid_well_formed}
use Rattle.blif.specs.Export.{Exported}
use Rattle.blif.specs.Simulated.{ExportDemand}
use Rattle.blif.specs.OutcomeLaws.{outcome}
use Rattle.blif.specs.OutcomeLaws.{refusal_because, refusal_untouched, outcome_length, outcome_later}
use Rattle.blif.specs.SimulatedLaws.{fits, simulates, simulates_design}
use Rattle.blif.proofs.Refused.{export_refuses}

module _ (x : Examined) (t b : List ℕ) (right : (d : Design) → x ≡ valid d → WellFormed d) where
  demanded : ExportDemand x t b
  demanded =
      record {
        refuses = λ q l r. ap (λ (y : Exported). y.answer) (export_refuses x t b q l r);
        because = λ q l h. refusal_because x t b q l (outcome x t b) h;
        untouched = λ q l h. refusal_untouched x t b q l (outcome x t b) h;
        fits = fits x t b right;
        simulates = simulates x t b right;
        simulates_design = simulates_design x t b right;
        same_length = outcome_length x t b (outcome x t b);
        later = λ n i h l. outcome_later x t b n i (outcome x t b) h l;
      }

pub export_demand : (x : Examined) (t b : List ℕ) → ((d : Design) → x ≡ valid d → WellFormed d) → ExportDemand x t b
export_demand x t b right = demanded x t b right

pub sheet_export_demand : (s t b : List ℕ) → ExportDemand (examine s) t b
sheet_export_demand s t b = export_demand (examine s) t b (valid_well_formed s)
