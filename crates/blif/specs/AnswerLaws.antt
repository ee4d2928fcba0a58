-- What the code answers after the examination of the two sheets is what Export answers. Assumes nothing.
use Rattle.std.specs.Prelude.{◌≡◌, refl, ℕ, ◌≤◌, ◌<◌, Ok, Err}
use Rattle.std.proofs.Math.Path.{sym, ap₂}
use Rattle.std.proofs.Common.{ap, ◌∙◌, arith}
use mathlib.Core.List.{List}
use Rattle.std.proofs.Math.Nat.{zero-add}
use Rattle.std.proofs.Math.ListN.{length}
use Rattle.refusal.specs.Number.{number_of}
use Rattle.refusal.specs.declared.Refusal.{Refusal}
use Rattle.sheet.specs.Examine as sheets
use Rattle.sheet.specs.Examine.{Design}
use Rattle.network.specs.Network.{Network}
use Rattle.network.specs.Check.{Pair, refused_pair, pair, examine_pair}
use Rattle.network.specs.CheckLaws.{pair_drawn}
use Rattle.network.specs.OffendingLaws.{offending_none}
use Rattle.checker.specs.Beside.{BesideIs}
use Rattle.checker.specs.declared.Beside.{Beside}
use Rattle.emit.specs.Written.{Written}
use Rattle.blif.specs.Printer.{print_blif}
use Rattle.blif.specs.Export.{Exported, written, untouched, export_pair, export_of, export}
use Rattle.blif.specs.Room.{text_room}
use Rattle.blif.specs.Ready.{Passed, SomePassed}
use Rattle.blif.specs.OutcomeLaws.{put_short, put_fits}

-- ---- a refusal of the examination
pub refused_as : (t : List ℕ) (r : Refusal) (p : Pair) (s : List ℕ) → BesideIs t p (Err r)
    → untouched (number_of r.question) r.line s ≡ export_pair p s
refused_as t r (refused_pair q l) s g = ap₂ (λ (n m : ℕ). untouched n m s) g.number g.line
refused_as t r (pair d w) s g = absurd g

-- ---- a pair that passed
module _ (t : List ℕ) (b : Beside) (x : sheets.Examined) (h : BesideIs t (examine_pair x t) (Ok b)) where
  record PassedPair : Type 0 where
    pub design : Design
    pub said : Network
    pub is-pair : examine_pair x t ≡ pair design said
    pub passed : Passed t b.sheet b.network design said

  passed_as : (p : Pair) → examine_pair x t ≡ p → BesideIs t p (Ok b) → PassedPair
  passed_as (refused_pair q l) e g = absurd g
  passed_as (pair d w) e g =
      let (v, drawn) = pair_drawn t x d w e in
      let p : Passed t b.sheet b.network d w = record { shape = b.shape; drawing = g; within = offending_none d w drawn.passes } in
      record { design = d; said = w; is-pair = e; passed = p }

  passed_pair : PassedPair
  passed_pair = passed_as (examine_pair x t) refl h

  pub some_passed : SomePassed t b.sheet b.network
  some_passed = let q = passed_pair in record { design = q.design; said = q.said; passed = q.passed }

  -- the text that any pair has which passed and is held so
  abbrev Puts : List ℕ → List ℕ → ℕ → Type 0
  Puts s s' n = (d : Design) (w : Network) → Passed t b.sheet b.network d w → Written text_room s s' 0 n (print_blif d w)

  module _ (s a a' : List ℕ) (n : ℕ) (dry : Puts a a' n) where
    length-is : n ≡ length (print_blif passed_pair.design passed_pair.said)
    length-is = (dry passed_pair.design passed_pair.said passed_pair.passed).place ∙ zero-add _

    pub answer-short : length s < n → untouched 9 0 s ≡ export_of x t s
    unfolding export_of
    answer-short l =
        let q = passed_pair in
        let e : n ≡ length (print_blif q.design q.said) = length-is in
        sym (ap (λ (p : Pair). export_pair p s) q.is-pair ∙ put_short (print_blif q.design q.said) s (omega arith))

    pub answer-written : (s' : List ℕ) (m : ℕ)
        → n ≤ length s
        → Puts s s' m
        → record { answer = written m; buffer = s' } ≡ export_of x t s
    unfolding export_of
    answer-written s' m l put =
        let q = passed_pair in
        let w = put q.design q.said q.passed in
        let e : n ≡ length (print_blif q.design q.said) = length-is in
        let g : m ≡ length (print_blif q.design q.said) = w.place ∙ zero-add _ in
        ap₂ (λ (k : ℕ) (u : List ℕ). record { answer = written k; buffer = u }) g w.bytes
        ∙ sym (ap (λ (p : Pair). export_pair p s) q.is-pair ∙ put_fits (print_blif q.design q.said) s (omega arith))

-- ---- on a design sheet
pub answer_of_sheet : (s t c : List ℕ) (a : Exported) → a ≡ export_of (sheets.examine s) t c → a ≡ export s t c
unfolding export
answer_of_sheet s t c a h = h
