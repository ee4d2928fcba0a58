-- `examine_pair`: one law for each way out. Assumes nothing.
use Rattle.std.proofs.Common.{◌≡◌, ℕ, refl, Result, Ok, Err, rules}
use Rattle.std.specs.Result.{MatchResult, IsErrAnd}
use Rattle.std.proofs.lemmas.Result.{err_from_is_err_and}
use Rattle.refusal.specs.declared.Question.{Question}
use Rattle.refusal.specs.declared.Refusal.{Refusal}
use Rattle.sheet.specs.Examine as sheets
use Rattle.design.specs.Answer.{ExaminedIs, Right}
use Rattle.netsheet.specs.declared.NetworkSheet.{NetworkSheet}
use Rattle.checker.specs.CheckLaws.{no_at, refused-design, Designed, designed, designed_ranged, designed_counts, refused_line, Networked, networked, small}
use Rattle.checker.proofs.PassedLaws.{refused_limits, passed_pair}
use Rattle.checker.proofs.examine_pair.Goals as goal
use Rattle.checker.proofs.examine_pair.Goals.{In_ok-sheet, In_ok-network}

-- ---- what `map_err` made of what was read
read_ok : (r : Result NetworkSheet ℕ) (m : Result NetworkSheet Refusal) (Q : ℕ → Refusal → Type 0)
    → MatchResult r (λ x. m ≡ Ok x) (λ l. IsErrAnd m (Q l))
    → (n : NetworkSheet)
    → m ≡ Ok n
    → r ≡ Ok n
read_ok (Ok x) m Q a n e = cc
read_ok (Err l) m Q a n e =
    let p = (err_from_is_err_and m a).1 in
    cc

read_err : (r : Result NetworkSheet ℕ) (m : Result NetworkSheet Refusal) (Q : ℕ → Refusal → Type 0)
    → MatchResult r (λ x. m ≡ Ok x) (λ l. IsErrAnd m (Q l))
    → ((l : ℕ) (f : Refusal) → Q l f → f ≡ no_at Question.NetworkSpelling l)
    → (f : Refusal)
    → m ≡ Err f
    → (l : ℕ) × (r ≡ Err l) × (f ≡ no_at Question.NetworkSpelling l)
read_err (Ok x) m Q a q f e = absurd (cc)
read_err (Err l) m Q a q f e =
    let p = err_from_is_err_and m a in
    let made = q l p.0 p.2 in
    let same = p.1 in
    (l, refl, cc)

-- ---- what is known where the design's examination passed, of each answer that it holds
module _ (c : In_ok-sheet) where
  says : (x : sheets.Examined) → ExaminedIs x c.args.e → Right x → Designed x c.in_ok-sheet.sheet
  says x h g = designed x c.in_ok-sheet.sheet (rw c.in_ok-sheet.was at h) g

  found : Designed c.requires.found c.in_ok-sheet.sheet
  found = says c.requires.found c.requires.is c.requires.right

pub returns-in_err-sheet : goal.returns-in_err-sheet
returns-in_err-sheet c = λ x h g.
    let p = err_from_is_err_and c.from_residual.result c.from_residual.ensures.1 in
    rw (p.1, p.2) (refused-design c.args.network.now x c.in_err-sheet.field-0.0 (rw c.in_err-sheet.was at h))

pub returns-in_err-network : goal.returns-in_err-network
returns-in_err-network c = λ x h g.
    let p = err_from_is_err_and c.from_residual-in_err-network.result c.from_residual-in_err-network.ensures.1 in
    let d = says (goal.at.returns-in_err-network c).In_ok-sheet x h g in
    let r = read_err c.read_network.result c.map_err.result _ c.map_err.ensures.cases (λ l f k. search rules) c.in_err-network.field-0.0 c.in_err-network.was in
    rw (p.1, p.2, r.2) (refused_line d c.args.network.now r.0 (λ e i j k. rw r.1 at (c.read_network.ensures e i j k)))

pub classes_of-c-requires : goal.classes_of-c-requires
classes_of-c-requires c = designed_counts (found (goal.at.classes_of-c-requires c).In_ok-sheet)

-- ---- what is known where the network sheet is read
read : (c : In_ok-network) {x : sheets.Examined} (g : Designed x c.in_ok-sheet.sheet)
    → Networked g c.args.network.now c.in_ok-network.network
read c g =
    let r = read_ok c.read_network.result c.map_err.result _ c.map_err.ensures.cases c.in_ok-network.network c.in_ok-network.was in
    networked g c.args.network.now c.in_ok-network.network (λ e i j k. rw r at (c.read_network.ensures e i j k))

pub offending-requires : goal.offending-requires
offending-requires c =
    let g = found (goal.at.offending-requires c).In_ok-sheet in
    small g (read (goal.at.offending-requires c).In_ok-network g) c.classes_of-c.result c.classes_of-c.ensures

pub returns-in-Some : goal.returns-in-Some
returns-in-Some c = λ x h g.
    let d = says (goal.at.returns-in-Some c).In_ok-sheet x h g in
    refused_limits d (read (goal.at.returns-in-Some c).In_ok-network d) c.classes_of-c.result c.classes_of-c.ensures c.in-Some.line c.in-Some.ensures

pub returns : goal.returns
returns c = λ x h g.
    let d = says (goal.at.returns c).In_ok-sheet x h g in
    passed_pair d (read (goal.at.returns c).In_ok-network d) c.classes_of-c.result c.classes_of-c.ensures c.in_default.ensures
