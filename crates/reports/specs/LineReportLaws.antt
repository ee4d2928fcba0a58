-- What the code answers of a refusal's line, reported. Assumes nothing.
use Rattle.std.specs.Prelude.{◌≡◌, refl, Bool, true, false, ℕ}
use Rattle.std.proofs.Common.{ap, ◌∙◌}
use mir.Val.{bool_byte}
use Rattle.bits.specs.Logic.{pick}
use Rattle.locate.specs.Located.{Part}
use Rattle.locate.specs.Places.{PlaceIs}
use Rattle.reports.specs.Report.{LineReport, line_report}

-- true is 1 and false is 0
as_number : (b : Bool) → bool_byte b ≡ pick b 1 0
as_number true = refl
as_number false = refl

abbrev told : ℕ → ℕ → ℕ → LineReport
told second start count = record { number = 0; second = second; start = start; length = count }

-- second is 1 for a part of the network sheet and 0 for one of the design sheet
pub line_reported : (p : Part) (b : Bool) (second start count : ℕ)
    → PlaceIs p b start count
    → second ≡ pick b 1 0
    → ◌≡◌ {A = LineReport} (record { number = 0; second = second; start = start; length = count }) (line_report p)
line_reported p b second start count x e =
    let n : second ≡ pick p.second 1 0 = e ∙ ap (λ (c : Bool). pick c 1 0) x.which in
    ap (λ (k : ℕ). told k start count) n
    ∙ ap (λ (k : ℕ). told (pick p.second 1 0) k count) x.starts
    ∙ ap (λ (k : ℕ). told (pick p.second 1 0) p.start k) x.counts
