-- Question 11, output by output: the line that the code finds is the first that offends. Assumes nothing.
use Rattle.std.specs.Prelude.{◌≡◌, List, ℕ, ◌+◌, ◌≤◌, ◌<◌, length, get_or, Some, None}
use Rattle.std.proofs.Common.{sym, ap, arith, below_more}
use Rattle.std.proofs.Math.Decide.{dec_le}
use Rattle.limits.specs.Limits.{first_lut}
use Rattle.sheet.specs.Examine.{Design}
use Rattle.classes.specs.Width.{budget}
use Rattle.network.specs.Network.{Network}
use Rattle.network.specs.Numbers.{numbers_of}
use Rattle.network.specs.Answers.{read_count, Offends, lut_over, node_over}
use Rattle.network.specs.OffendingLaws.{some-offending, none_offending}
use Rattle.checker.specs.Limits.{LimitsAre, Judged}

module _ {d : Design} {w : Network} {limit luts outputs : ℕ} {reads widths : List ℕ}
    (h : LimitsAre d w limit luts outputs reads widths) where
  pub luts_judged : limit < luts → Judged d w (Some (limit + first_lut))
  luts_judged l =
      let a = h.limit_is in
      let b = h.luts-counted in
      let e : d.limit + first_lut ≡ limit + first_lut = omega arith in
      let s : Offends d w (d.limit + first_lut) = lut_over d.limit (omega arith) (omega arith) in
      some-offending d w (limit + first_lut) (record { offends = rw e at s; first = go })
    where
      go : (m : ℕ) → Offends d w m → limit + first_lut ≤ m
      go m (lut_over i a b) = omega (arith, h.limit_is)
      go m (node_over o a b) = omega (arith, h.limit_is, h.luts-counted)

  count_is : (o : ℕ) → o < outputs → read_count w o ≡ length (numbers_of luts (get_or reads o 0))
  count_is o l = ap length (sym (h.reading o l))

  pub node_judged : (o n : ℕ)
      → luts ≤ limit
      → o < outputs
      → ((p : ℕ) → p < o → length (numbers_of luts (get_or reads p 0)) ≤ get_or widths p 0)
      → n ≡ length (numbers_of luts (get_or reads o 0))
      → get_or widths o 0 < n
      → Judged d w (Some (luts + first_lut + o))
  node_judged o n s l f e g =
      let b = h.luts-counted in
      let c = h.nodes-counted in
      let x = h.wide o l in
      let y = count_is o l in
      let q : length w.luts + first_lut + o ≡ luts + first_lut + o = omega arith in
      let k : Offends d w (length w.luts + first_lut + o) = node_over o (omega arith) (omega arith) in
      some-offending d w (luts + first_lut + o) (record { offends = rw q at k; first = go })
    where
      below : (p : ℕ) → budget d d.bound p < read_count w p → p < o → ⊥
      below p i j =
          let lt : o < outputs = l in
          omega (arith, f p j, h.wide p (omega arith), count_is p (omega arith))

      go : (m : ℕ) → Offends d w m → luts + first_lut + o ≤ m
      go m (lut_over i a b) = absurd (omega (arith, h.limit_is, h.luts-counted))
      go m (node_over p a b) =
          elim (dec_le o p) as (λ _. luts + first_lut + o ≤ m) [
            | yes i ↦ omega (arith, h.luts-counted)
            | no i ↦ absurd (below p b (omega arith))
          ]

  pub none_judged : luts ≤ limit
      → ((p : ℕ) → p < outputs → length (numbers_of luts (get_or reads p 0)) ≤ get_or widths p 0)
      → Judged d w None
  none_judged s f =
      none_offending d w
      (record {
        luts-within = omega (arith, h.limit_is, h.luts-counted);
        reads-within = λ o l.
            let i : o < outputs = omega (arith, h.nodes-counted) in
            omega (arith, f o i, h.wide o i, count_is o i);
      })

-- what the code knows after some outputs
abbrev pub Kept : ℕ → List ℕ → List ℕ → ℕ → Type 0
Kept luts reads widths o = (p : ℕ) → p < o → length (numbers_of luts (get_or reads p 0)) ≤ get_or widths p 0

pub kept_more : (luts : ℕ) (reads widths : List ℕ) (o n : ℕ)
    → Kept luts reads widths o
    → n ≡ length (numbers_of luts (get_or reads o 0))
    → n ≤ get_or widths o 0
    → Kept luts reads widths (o + 1)
kept_more luts reads widths o n f e g =
    below_more (λ (p : ℕ). length (numbers_of luts (get_or reads p 0)) ≤ get_or widths p 0) o f (omega arith)
