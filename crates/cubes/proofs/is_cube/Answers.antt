-- `is_cube`: the length, the literals, the space. Assumes nothing.
use Rattle.std.proofs.Common.{◌≡◌, sym, ◌∙◌, ap, ℕ, ◌<◌, List, length, take, Bool, true, false, MatchBool, arith, rules, tests, get_or-take, length-take}
use Rattle.std.specs.List.{HoldsAt, AllWithin}
use Rattle.std.proofs.lemmas.Iterator.{cases_from_all, YieldsList-from_slice}
use Rattle.cubes.specs.Cube.{read_cube}
use Rattle.cubes.specs.Spelled.{is_literal, is_there}
use Rattle.cubes.specs.SpelledLaws.{too_short, other_length, no_literal, Literals, by_space}
use Rattle.cubes.proofs.is_cube.Goals as goal
use Rattle.cubes.proofs.is_cube.Goals.{After-all, then-l-i-via-then-l-i, then-l-i-via-else-l-i+then-l-i-2}

-- what `all` says of the bytes ls: they are literals, or one is none
abbrev AreLiterals : Bool → List ℕ → Type 0
AreLiterals b ls =
    MatchBool b (AllWithin (λ x. is_literal x ≡ true) ls 0 (length ls)) ((k : ℕ) × (k < length ls) × HoldsAt (λ x. is_literal x ≡ false) ls k)

module _ (i o : ℕ) (l : List ℕ) (few : i < length l) where
  all_are : (b : Bool) → AreLiterals b (take i l) → b ≡ true → Literals i o l i
  all_are true h e =
      record {
        few = omega arith;
        each = λ j m.
            ap is_literal (sym (get_or-take i l j 0 m)) ∙ h j 0 (omega arith) (omega (arith, m, few, length-take i l));
      }
  all_are false h e = absurd (search (rules, tests))

  one-is_not : (b : Bool) → AreLiterals b (take i l) → b ≡ false → b ≡ is_there (read_cube i o l)
  one-is_not true h e = absurd (search (rules, tests))
  one-is_not false h e =
      let m : h.0 < i = omega (arith, h.1, length-take i l) in
      no_literal i o l h.0 m (sym (ap is_literal (sym (get_or-take i l h.0 0 m)) ∙ h.2 0))

pub returns-then-l-i : goal.returns-then-l-i
returns-then-l-i c =
    elim c.then-l-i.branch [
      | then-l-i-via-then-l-i w ↦ too_short _ _ _ w.if-l-i.true
      | then-l-i-via-else-l-i+then-l-i-2 w ↦ other_length _ _ _ w.if-l-i.false w.if-l-i-2.true
    ]

are_literals : (c : After-all) → AreLiterals c.all.result (take c.args.i c.args.l.now)
are_literals c =
    cases_from_all _ _ _ (λ b. is_literal b ≡ true) (λ b. is_literal b ≡ false) c.all.ensures.ran (YieldsList-from_slice (take c.args.i c.args.l.now) cc)
    (λ x q k. search (rules, tests)) (λ x q k. search (rules, tests))

pub returns-then-all : goal.returns-then-all
returns-then-all c =
    by_space _ _ _ (omega arith) (all_are _ _ _ c.if-l-i.false _ (are_literals (goal.at.returns-then-all c).After-all) c.if-all.true)

pub returns-else-all : goal.returns-else-all
returns-else-all c =
    one-is_not _ _ _ c.if-l-i.false _ (are_literals (goal.at.returns-else-all c).After-all) c.if-all.false
