-- Questions 1 and 2 on the second text as a walk over its lines: each ends in 0x0A, as the last byte is one. Assumes nothing.
use Rattle.std.specs.Prelude.{◌≡◌, refl, Bool, true, false, List, [], ◌∷◌, ℕ, ◌+◌, ◌-◌, ◌≤◌, ◌<◌, length, take, drop, Option, Some, None, is_some, Result, Ok, Err}
use Rattle.std.proofs.Common.{sym, ◌∙◌, subst, length-drop}
use Rattle.std.proofs.Math.Path.{ap}
use Rattle.std.proofs.Math.Option as maybe
use Rattle.std.proofs.Math.Option.{some, none}
use native.Mathlib.Omega.{arith}
use Rattle.bits.specs.LogicLaws.{true_false, and_left}
use Rattle.limits.specs.Limits.{max_sheet}
use Rattle.text.specs.Line.{lines}
use Rattle.text.specs.LineEnd.{LineEnd}
use Rattle.text.specs.LineEndLaws.{line_end_inside}
use Rattle.text.specs.LineCountLaws.{lines-some, lines_past}
use Rattle.names.specs.Name.{Name}
use Rattle.cursor.specs.declared.NameList.{NameList}
use Rattle.sheet.specs.Lines.{read_bound, read_limit}
use Rattle.sheet.specs.Examine.{sized, plain_lines, within}
use Rattle.sheet.specs.AskedLaws.{within_low}
use Rattle.sheet.specs.Known.{LineIs, LimitIs}
use Rattle.design.specs.SizeLaws.{sized-last}
use Rattle.panel.specs.Board.{Board, misspelled, board, bound_line, limit_line, after_limit, after_bound, read_board}
use Rattle.panel.specs.Held.{BoardIs}
use Rattle.refusal.specs.Number.{Refuses}
use Rattle.refusal.specs.declared.Refusal.{Refusal}
use Rattle.panel.specs.declared.BoardLines.{BoardLines}

-- ---- question 1
pub board_not_sized : (b : List ℕ) (r : Refusal) → false ≡ sized b → Refuses 1 0 r → BoardIs b (sized b) (read_board (lines b)) (Err r)
board_not_sized b r f h = subst (λ (t : Bool). BoardIs b t (read_board (lines b)) (Err r)) f h

sized-filled : (b : List ℕ) → sized b ≡ true → 1 ≤ length b
unfolding sized
sized-filled b e = within_low 1 max_sheet (length b) (and_left (within 1 max_sheet (length b)) (plain_lines b) e)

-- ---- the lines
-- the line of a place, in a text that ends in 0x0A
line_at : (b : List ℕ) (at e : ℕ)
    → at < length b
    → sized b ≡ true
    → LineEnd b at e
    → (e < length b) × (lines (drop at b) ≡ take (e - at) (drop at b) ∷ lines (drop (e + 1) b))
line_at b at e h s x =
    let l = line_end_inside b at e h (sized-last b s) x in
    (l, (x.ended l).1)

lines_left : (b : List ℕ) (at : ℕ) → at < length b → 0 < length (lines (drop at b))
lines_left b at h = lines-some (drop at b) (omega (arith, length-drop at b))

after_more : (bs : List Name) (n : ℕ) (ls : List (List ℕ)) → 0 < length ls → after_limit bs (some n) ls ≡ misspelled 3
after_more bs n [] h = absurd (omega arith)
after_more bs n (l ∷ ls) h = refl

-- what the code found, by its test for None
pub there : {A : Type 0} (w : Option A) → is_some w ≡ true → (x : A) × (w ≡ Some x)
there (Some x) e = (x, refl)
there None e = absurd (true_false (sym e))

pub missing : {A : Type 0} (w : Option A) → is_some w ≡ false → w ≡ None
missing (Some x) e = absurd (true_false e)
missing None e = refl

bound_missing : (x : maybe.Option (List Name)) → LineIs x None → x ≡ none
bound_missing none h = refl
bound_missing (some bs) h = absurd h

bound-found : (x : maybe.Option (List Name)) (l : NameList) → LineIs x (Some l) → (bs : List Name) × (x ≡ some bs)
bound-found none l h = absurd h
bound-found (some bs) l h = (bs, refl)

bad_limit : (n : ℕ) → None ≡ Some n → ⊥
bad_limit n e = cc

limit_missing : (x : maybe.Option ℕ) → LimitIs x None → x ≡ none
limit_missing none h = refl
limit_missing (some n) h = cc

limit_found : (x : maybe.Option ℕ) (n : ℕ) → LimitIs x (Some n) → x ≡ some n
limit_found none n h = cc
limit_found (some m) n h =
    let t : m ≡ n = cc in
    ap some t

module _ (b : List ℕ) (sizes : true ≡ sized b) where
  -- by what the lines say
  by_lines : (y : Board) (r : Result BoardLines Refusal) → read_board (lines b) ≡ y → BoardIs b true y r → BoardIs b (sized b) (read_board (lines b)) r
  by_lines y r e h =
      subst (λ (t : Bool). BoardIs b t (read_board (lines b)) r) sizes (subst (λ (z : Board). BoardIs b true z r) (sym e) h)

  -- ---- the first line
  module _ (e : ℕ) (x : LineEnd b 0 e) where
    pub first_inside : e < length b
    first_inside = (line_at b 0 e (sized-filled b (sym sizes)) (sym sizes) x).0

    first_read : read_board (lines b) ≡ after_bound (read_bound (take e b)) (lines (drop (e + 1) b))
    unfolding read_board
    first_read =
        let h = (line_at b 0 e (sized-filled b (sym sizes)) (sym sizes) x).1 in
        let all : e - 0 ≡ e = omega arith in
        ap read_board h ∙ ap (λ (i : ℕ). after_bound (read_bound (take i b)) (lines (drop (e + 1) b))) all

    pub no_bound : LineIs (read_bound (take e b)) None → (r : Refusal) → Refuses 2 bound_line r
        → BoardIs b (sized b) (read_board (lines b)) (Err r)
    no_bound h r g =
        by_lines (misspelled bound_line) (Err r)
        (first_read ∙ ap (λ (y : maybe.Option (List Name)). after_bound y (lines (drop (e + 1) b))) (bound_missing (read_bound (take e b)) h)) g

    module _ (w : NameList) (h : LineIs (read_bound (take e b)) (Some w)) where
      bound_is : (bs : List Name) × (read_bound (take e b) ≡ some bs)
      bound_is = bound-found (read_bound (take e b)) w h

      after_first : read_board (lines b) ≡ after_bound (some bound_is.0) (lines (drop (e + 1) b))
      after_first = first_read ∙ ap (λ (y : maybe.Option (List Name)). after_bound y (lines (drop (e + 1) b))) bound_is.1

      pub no_second : length b ≤ e + 1 → (r : Refusal) → Refuses 2 limit_line r → BoardIs b (sized b) (read_board (lines b)) (Err r)
      no_second l r g =
          by_lines (misspelled limit_line) (Err r) (after_first ∙ ap (after_bound (some bound_is.0)) (lines_past b (e + 1) l)) g

      -- ---- the second line
      module _ (more : e + 1 < length b) (end : ℕ) (y : LineEnd b (e + 1) end) where
        abbrev second : List ℕ
        second = take (end - (e + 1)) (drop (e + 1) b)

        second-inside : end < length b
        second-inside = (line_at b (e + 1) end more (sym sizes) y).0

        second-read : read_board (lines b) ≡ after_limit bound_is.0 (read_limit second) (lines (drop (end + 1) b))
        second-read = after_first ∙ ap (after_bound (some bound_is.0)) (line_at b (e + 1) end more (sym sizes) y).1

        pub no-limit : LimitIs (read_limit second) None → (r : Refusal) → Refuses 2 limit_line r
            → BoardIs b (sized b) (read_board (lines b)) (Err r)
        no-limit lim r g =
            by_lines (misspelled limit_line) (Err r)
            (second-read
            ∙ ap (λ (o : maybe.Option ℕ). after_limit bound_is.0 o (lines (drop (end + 1) b))) (limit_missing (read_limit second) lim)) g

        module _ (n : ℕ) (lim : LimitIs (read_limit second) (Some n)) where
          limit_is : read_limit second ≡ some n
          limit_is = limit_found (read_limit second) n lim

          both_read : read_board (lines b) ≡ after_limit bound_is.0 (some n) (lines (drop (end + 1) b))
          both_read = second-read ∙ ap (λ (o : maybe.Option ℕ). after_limit bound_is.0 o (lines (drop (end + 1) b))) limit_is

          pub third-line : end + 1 < length b → (r : Refusal) → Refuses 2 3 r → BoardIs b (sized b) (read_board (lines b)) (Err r)
          third-line l r g =
              by_lines (misspelled 3) (Err r)
              (both_read ∙ after_more bound_is.0 n (lines (drop (end + 1) b)) (lines_left b (end + 1) l)) g

          pub board-right : length b ≤ end + 1
              → BoardIs b (sized b) (read_board (lines b)) (Ok (record { bound = e; limit = end }))
          board-right l =
              by_lines (board bound_is.0 n) (Ok (record { bound = e; limit = end }))
              (both_read ∙ ap (after_limit bound_is.0 (some n)) (lines_past b (end + 1) l))
              (record {
                bound_read = bound_is.1;
                limit_read = limit_is;
                ordered = omega (arith, y.after-start);
                inside = omega (arith, second-inside);
              })
