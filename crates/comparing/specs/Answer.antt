-- The answers of the comparison (clause 11.4), by the definitions. Assumes nothing.
use Rattle.network.specs.Check as spec
use Rattle.comparing.specs.declared.Comparison.{Comparison}

-- the definition's answer for each case of the code's
abbrev pub comparison_of : Comparison → spec.Checked
comparison_of Comparison.Same = spec.same
comparison_of (Comparison.Differs o r) = spec.differs o r
