-- A line of names, asked questions 2 to 4: what the step comes to, by the first question with the answer "no". Both the
-- `in` line and the `bound` line are such lines; they differ in the greatest count and in what follows. Assumes nothing.
use Rattle.std.specs.Prelude.{◌≡◌, refl, Bool, true, false, List, [], ◌∷◌, ℕ, ◌≤◌, length, Option, Some, None, Result, Ok, Err}
use Rattle.std.proofs.Common.{sym, subst, ◌∙◌, arith}
use Rattle.std.proofs.Math.Path.{ap}
use Rattle.std.proofs.Math.Option as maybe
use Rattle.std.proofs.Math.Option.{some, none}
use Rattle.bits.specs.Logic.{pick}
use Rattle.limits.specs.Limits.{max_inputs}
use Rattle.names.specs.Name.{Name, distinct}
use Rattle.refusal.specs.Number.{number_of}
use Rattle.refusal.specs.declared.Question.{Question}
use Rattle.cursor.specs.declared.NameList.{NameList}
use Rattle.sheet.specs.Examine.{Step, no_to, ask, within}
use Rattle.sheet.specs.AskedLaws.{within_high}
use Rattle.sheet.specs.Known.{Listed, kept_names, first_no, StepIs, LineIs}
use Rattle.sheet.specs.declared.Step as code

-- f asks questions 2 to 4 of a line of names; rest is what follows
pub record AsksList (high : ℕ) (rest : List Name → Step) (f : maybe.Option (List Name) → Step) : Type 0 where
  pub few : high ≤ max_inputs
  pub misspelled : f none ≡ no_to 2
  pub listed : (ns : List Name) → f (some ns) ≡ ask ((3, within 1 high (length ns)) ∷ (4, distinct ns) ∷ []) (rest ns)

-- ---- the first question with the answer "no"
pub no_to_two : (high : ℕ) → Err Question.Spelling ≡ first_no high None
unfolding first_no
no_to_two high = refl

module _ (high : ℕ) (l : NameList) where
  pub no_to_three : within 1 high l.count ≡ false → Err Question.Ranges ≡ first_no high (Some l)
  unfolding first_no
  no_to_three e = rw e refl

  pub no_to_four : within 1 high l.count ≡ true → distinct (kept_names l) ≡ false → Err Question.NewNames ≡ first_no high (Some l)
  unfolding first_no
  no_to_four e f = rw (e, f) refl

  pub no_to_none : within 1 high l.count ≡ true → distinct (kept_names l) ≡ true → Ok l ≡ first_no high (Some l)
  unfolding first_no
  no_to_none e f = rw (e, f) refl

-- ---- what the code answers, by the questions' answers
abbrev answered : Bool → Bool → NameList → Result NameList Question
answered a b l = pick a (pick b (Ok l) (Err Question.NewNames)) (Err Question.Ranges)

record All (a b : Bool) (l m : NameList) : Type 0 where
  counted : a ≡ true
  once : b ≡ true
  same : l ≡ m

all_yes : (a b : Bool) (l m : NameList) → Ok m ≡ answered a b l → All a b l m
all_yes true true l m e = record { counted = refl; once = refl; same = cc }
all_yes true false l m e = record { counted = refl; once = cc; same = cc }
all_yes false b l m e = record { counted = cc; once = cc; same = cc }

-- the names of the line, where no question is answered "no"
pub record Passes (high : ℕ) (w : Option NameList) (m : NameList) : Type 0 where
  pub there : w ≡ Some m
  pub counted : within 1 high m.count ≡ true
  pub once : distinct (kept_names m) ≡ true

pub passes : (high : ℕ) (w : Option NameList) (m : NameList) → Ok m ≡ first_no high w → Passes high w m
unfolding first_no
passes high None m e = record { there = cc; counted = cc; once = cc }
passes high (Some l) m e =
    let y = all_yes (within 1 high l.count) (distinct (kept_names l)) l m e in
    record {
      there = ap Some y.same;
      counted = subst (λ (n : NameList). within 1 high n.count ≡ true) y.same y.counted;
      once = subst (λ (n : NameList). distinct (kept_names n) ≡ true) y.same y.once;
    }

in_range : (o a b : Bool) (l m : NameList) → Ok m ≡ pick o (answered a b l) (Err Question.Spelling) → a ≡ true
in_range true a b l m e = (all_yes a b l m e).counted
in_range false a b l m e = cc

module _ (high : ℕ) (w : Option NameList) (n : Result NameList Question) (first : n ≡ first_no high w) where
  none_misspelled : w ≡ None → n ≡ Err Question.Spelling
  none_misspelled e = first ∙ ap (first_no high) e ∙ sym (no_to_two high)

  three_four : (l : NameList) → w ≡ Some l → n ≡ answered (within 1 high l.count) (distinct (kept_names l)) l
  unfolding first_no
  three_four l e = first ∙ ap (first_no high) e

  counted : (m : NameList) → n ≡ Ok m → within 1 high m.count ≡ true
  counted m z = (passes high w m (sym z ∙ first)).counted

pub counted_few : (high : ℕ) (w : Option NameList) (m : NameList) → Ok m ≡ first_no high w → m.count ≤ high
counted_few high w m e = within_high 1 high m.count (passes high w m e).counted

-- ---- the step, by that question
pick_when : (t : Bool) (a b s : Step) → (t ≡ true → a ≡ b) → pick t a s ≡ pick t b s
pick_when true a b s h = h refl
pick_when false a b s h = refl

answered_no : (a b : Bool) (s : Step) (l : NameList) (e : Question) → Err e ≡ answered a b l
    → pick a (pick b s (no_to 4)) (no_to 3) ≡ no_to (number_of e)
answered_no true true s l e h = cc
answered_no true false s l e h =
    let q : Question.NewNames ≡ e = cc in
    ap (λ (x : Question). no_to (number_of x)) q
answered_no false b s l e h =
    let q : Question.Ranges ≡ e = cc in
    ap (λ (x : Question). no_to (number_of x)) q

answered_yes : (a b : Bool) (s : Step) → a ≡ true → b ≡ true → pick a (pick b s (no_to 4)) (no_to 3) ≡ s
answered_yes a b s p q = rw (p, q) refl

module _ {high : ℕ} {rest : List Name → Step} {f : maybe.Option (List Name) → Step} (q : AsksList high rest f) where
  module _ (l : NameList) (ns : List Name) (h : Listed ns l) where
    kept_all : within 1 high l.count ≡ true → kept_names l ≡ ns
    kept_all b = h.kept.held (omega (arith, q.few, h.kept.counted, within_high 1 high l.count b))

    -- the questions are those of the names that are kept
    of_kept : f (some ns) ≡ pick (within 1 high l.count) (pick (distinct (kept_names l)) (rest ns) (no_to 4)) (no_to 3)
    of_kept =
        let four : List Name → Step = λ ms. pick (distinct ms) (rest ns) (no_to 4) in
        q.listed ns
        ∙ ap (λ (m : ℕ). pick (within 1 high m) (four ns) (no_to 3)) (sym h.kept.counted)
        ∙ pick_when (within 1 high l.count) (four ns) (four (kept_names l)) (no_to 3) (λ b. ap four (sym (kept_all b)))

  comes_to : (r : Result code.Step Question) (x : maybe.Option (List Name)) (s : Step) → f x ≡ s → StepIs s r → StepIs (f x) r
  comes_to r x s e a = subst (λ (t : Step). StepIs t r) (sym e) a

  pub list_refused : (x : maybe.Option (List Name)) (w : Option NameList) (e : Question) → LineIs x w → Err e ≡ first_no high w
      → StepIs (f x) (Err e)
  unfolding first_no
  list_refused none None e h i =
      let z : Question.Spelling ≡ e = cc in
      subst (λ (s : Step). StepIs s (Err e)) (sym q.misspelled) (ap number_of (sym z))
  list_refused none (Some l) e h i = absurd h
  list_refused (some ns) None e h i = absurd h
  list_refused (some ns) (Some l) e h i =
      subst (λ (s : Step). StepIs s (Err e))
      (sym (of_kept l ns h ∙ answered_no (within 1 high l.count) (distinct (kept_names l)) (rest ns) l e i)) refl

  pub list_good : (x : maybe.Option (List Name)) (w : Option NameList) (m : NameList) (r : Result code.Step Question)
      → LineIs x w → Ok m ≡ first_no high w
      → ((ns : List Name) → m.count ≡ length ns → kept_names m ≡ ns → StepIs (rest ns) r)
      → StepIs (f x) r
  list_good x w m r h i a =
      let y = passes high w m i in
      go x (subst (LineIs x) y.there h)
    where
      go : (z : maybe.Option (List Name)) → LineIs z (Some m) → StepIs (f z) r
      go none g = absurd g
      go (some ns) g =
          let y = passes high w m i in
          subst (λ (s : Step). StepIs s r)
          (sym (of_kept m ns g ∙ answered_yes (within 1 high m.count) (distinct (kept_names m)) (rest ns) y.counted y.once))
          (a ns g.kept.counted (kept_all m ns g y.counted))
