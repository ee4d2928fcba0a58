-- `read_text`: the size, the lines before the cubes, and the cubes. Assumes nothing.
use Rattle.std.proofs.Common.{◌≡◌, refl, sym, ◌∙◌, List, ℕ, ◌≤◌, false, length, eqb, eqb-true, arith}
use Rattle.std.proofs.lemmas.Bool.{eqb-false}
use Rattle.std.proofs.lemmas.Result.{err_from_is_err_and}
use Rattle.platext.specs.SizeLaws.{head_fits, no_bytes, many_bytes, bad_head, bad-cubes, right-text}
use Rattle.platext.proofs.read_text.Goals as goal
use Rattle.platext.proofs.read_text.Goals.{then-is_empty-via-then-is_empty, then-is_empty-via-else-is_empty+then-s-gt-MAX_PLA}

not_empty : (s : List ℕ) → eqb (length s) 0 ≡ false → 1 ≤ length s
not_empty s e = omega (arith, eqb-false (length s) 0 e)

pub returns-then-is_empty : goal.returns-then-is_empty
returns-then-is_empty c =
    elim c.then-is_empty.branch [
      | then-is_empty-via-then-is_empty w ↦ no_bytes c.args.s.now (omega (arith, eqb-true (length c.args.s.now) 0 (sym c.is_empty.ensures ∙ w.if-is_empty.true)))
      | then-is_empty-via-else-is_empty+then-s-gt-MAX_PLA w ↦ many_bytes c.args.s.now w.if-s-gt-MAX_PLA.true
    ]

pub returns-in_err-h : goal.returns-in_err-h
returns-in_err-h c =
    let p = err_from_is_err_and c.from_residual.result c.from_residual.ensures.1 in
    rw (p.1, p.2) (bad_head c.args.s.now (not_empty c.args.s.now (sym c.is_empty.ensures ∙ c.if-is_empty.false)) c.if-s-gt-MAX_PLA.false c.in_err-h.field-0.0 c.in_err-h.ensures)

pub returns-in_err-read_cubes : goal.returns-in_err-read_cubes
returns-in_err-read_cubes c =
    let p = err_from_is_err_and c.from_residual-in_err-read_cubes.result c.from_residual-in_err-read_cubes.ensures.1 in
    let x = c.in_ok-h.ensures in
    rw (p.1, p.2)
    (bad-cubes c.args.s.now (not_empty c.args.s.now (sym c.is_empty.ensures ∙ c.if-is_empty.false)) c.if-s-gt-MAX_PLA.false c.in_ok-h.h x c.in_err-read_cubes.field-0.0 (c.in_err-read_cubes.ensures x.head (head_fits x)))

pub returns : goal.returns
returns c =
    let x = c.in_ok-h.ensures in
    right-text c.args.s.now (not_empty c.args.s.now (sym c.is_empty.ensures ∙ c.if-is_empty.false)) c.if-s-gt-MAX_PLA.false c.in_ok-h.h x _ (c.in_ok-read_cubes.ensures x.head (head_fits x)) refl refl refl refl
