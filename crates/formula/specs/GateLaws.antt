-- A gate's value one operand after another: one more at the end is a gate on two values. Assumes nothing.
use Rattle.std.specs.Prelude.{◌≡◌, refl, Bool, true, false, not, List, [], ◌∷◌, ◌++◌, ℕ, suc, ◌%◌}
use Rattle.std.proofs.Common.{sym, ap, ◌∙◌, arith}
use Rattle.bits.specs.Logic.{andb, orb, xorb}
use Rattle.bits.specs.DigitLaws.{Binary, is0, is1, binary}
use Rattle.cursor.specs.Opening.{Gate, and_gate, or_gate, xor_gate}
use Rattle.formula.specs.Value.{every, some, count, odd, combine}
use Rattle.formula.specs.Gates.{two}

pub every_snoc : (vs : List Bool) (x : Bool) → every (vs ++ (x ∷ [])) ≡ andb (every vs) x
every_snoc [] true = refl
every_snoc [] false = refl
every_snoc (true ∷ vs) x = every_snoc vs x
every_snoc (false ∷ vs) x = refl

some_snoc : (vs : List Bool) (x : Bool) → some (vs ++ (x ∷ [])) ≡ orb (some vs) x
some_snoc [] true = refl
some_snoc [] false = refl
some_snoc (true ∷ vs) x = refl
some_snoc (false ∷ vs) x = some_snoc vs x

odd_by : (n : ℕ) {d : ℕ} → Binary d → n % 2 ≡ d → odd (suc n) ≡ not (odd n)
odd_by n is0 h =
    let e : suc n % 2 ≡ 1 = omega arith in
    rw (h, e) refl
odd_by n is1 h =
    let e : suc n % 2 ≡ 0 = omega arith in
    rw (h, e) refl

odd-suc : (n : ℕ) → odd (suc n) ≡ not (odd n)
odd-suc n = odd_by n (binary (n % 2) (omega arith)) refl

not_xor : (a b : Bool) → not (xorb a b) ≡ xorb (not a) b
not_xor true true = refl
not_xor true false = refl
not_xor false b = refl

odd_snoc : (vs : List Bool) (x : Bool) → odd (count (vs ++ (x ∷ []))) ≡ xorb (odd (count vs)) x
odd_snoc [] true = refl
odd_snoc [] false = refl
odd_snoc (true ∷ vs) x =
    odd-suc (count (vs ++ (x ∷ []))) ∙ ap not (odd_snoc vs x) ∙ not_xor (odd (count vs)) x
    ∙ ap (λ (b : Bool). xorb b x) (sym (odd-suc (count vs)))
odd_snoc (false ∷ vs) x = odd_snoc vs x

pub combine_snoc : (g : Gate) (vs : List Bool) (x : Bool) → combine g (vs ++ (x ∷ [])) ≡ two g (combine g vs) x
unfolding combine
combine_snoc and_gate vs x = every_snoc vs x
combine_snoc or_gate vs x = some_snoc vs x
combine_snoc xor_gate vs x = odd_snoc vs x

pub combine_one : (g : Gate) (x : Bool) → combine g (x ∷ []) ≡ x
unfolding combine
combine_one and_gate true = refl
combine_one and_gate false = refl
combine_one or_gate true = refl
combine_one or_gate false = refl
combine_one xor_gate true = refl
combine_one xor_gate false = refl
