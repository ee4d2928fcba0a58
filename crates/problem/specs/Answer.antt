-- What a search answers, as a test of what it came to and the codes that it found. Assumes nothing.
use Rattle.std.specs.Prelude.{Bool, true, false, List, [], ℕ, Option, Some, None}
use Rattle.problem.specs.declared.Answer.{Answer}
use Rattle.problem.specs.declared.Answer.TheVariants.{Found, Nothing, Unsure}

-- whether something was found
abbrev pub is_found : {T : Type 0} → Answer T → Bool
is_found (Found x) = true
is_found Nothing = false
is_found Unsure = false

-- whether the search was given up
abbrev pub is_unsure : {T : Type 0} → Answer T → Bool
is_unsure (Found x) = false
is_unsure Nothing = false
is_unsure Unsure = true

-- what was found, and x where nothing was
abbrev pub found_or : {T : Type 0} → T → Answer T → T
found_or x (Found y) = y
found_or x Nothing = x
found_or x Unsure = x

-- the codes found, and no codes where none were
abbrev pub found_codes : Answer (List ℕ) → List ℕ
found_codes a = found_or [] a

-- the codes given, and no codes where there are none
abbrev pub some_codes : Option (List ℕ) → List ℕ
some_codes (Some codes) = codes
some_codes None = []
