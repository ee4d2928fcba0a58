-- The tables with one cube more, output by output: those passed have the cube's rows, the others are as they were. Assumes nothing.
use Rattle.std.specs.Prelude.{◌≡◌, refl, Bool, true, false, ◌&&◌, ◌||◌, List, [], ℕ, ◌+◌, ◌≤◌, ◌<◌, length, get_or, set}
use Rattle.std.proofs.Common.{sym, ap, ◌∙◌, subst, arith, length-set, get_or-set_same, get_or-set_other, eq-eqb, ne_eqb}
use Rattle.std.proofs.Math.Decide.{dec_lt}
use Rattle.bits.specs.Logic.{orb}
use Rattle.limits.specs.Limits.{max_outputs}
use Rattle.bits.specs.LogicLaws.{or_false}
use Rattle.rows.specs.Words.{Rowwise, row_on}
use Rattle.sheet.specs.Known.{table_at}
use Rattle.sheet.specs.OutputLaws.{words_of}
use Rattle.sheet.specs.declared.Rows.{Rows}
use Rattle.panel.specs.Held.{with_rows, Added}

or_is : (a b : Bool) → orb a b ≡ a || b
or_is true b = refl
or_is false b = refl

-- the outputs before o are done
pub record AddedUpTo (ts : List Rows) (rows marks : List ℕ) (o : ℕ) (next : List Rows) : Type 0 where
  pub few : o ≤ length marks
  pub size : length next ≡ max_outputs
  pub done : (j : ℕ) → j < o → Rowwise (with_rows (table_at ts j) rows (get_or marks j 0)) (table_at next j)
  pub kept : (j : ℕ) → o ≤ j → table_at next j ≡ table_at ts j

module _ (ts : List Rows) (rows marks : List ℕ) where
  pub added_none : length ts ≡ max_outputs → AddedUpTo ts rows marks 0 ts
  added_none h = record { few = omega arith; size = h; done = λ j l. absurd (omega arith); kept = λ j l. refl }

  -- what is done at o goes on to the next output
  module _ (o : ℕ) (next after : List Rows) (w : AddedUpTo ts rows marks o next) (l : o < length marks) where
    go_on : length after ≡ max_outputs
        → Rowwise (with_rows (table_at ts o) rows (get_or marks o 0)) (table_at after o)
        → ((j : ℕ) → (j ≡ o → ⊥) → table_at after j ≡ table_at next j)
        → AddedUpTo ts rows marks (o + 1) after
    go_on s here others =
        record {
          few = omega arith;
          size = s;
          done = λ j g.
              elim (dec_lt j o) as (λ _. Rowwise (with_rows (table_at ts j) rows (get_or marks j 0)) (table_at after j)) [
                | yes b ↦
                    subst (Rowwise (with_rows (table_at ts j) rows (get_or marks j 0))) (sym (others j (λ e. omega arith))) (w.done j b)
                | no b ↦
                    let e : o ≡ j = omega arith in
                    subst (λ (i : ℕ). Rowwise (with_rows (table_at ts i) rows (get_or marks i 0)) (table_at after i)) e here
              ];
          kept = λ j g. others j (λ e. omega arith) ∙ w.kept j (omega arith);
        }

  module _ (o : ℕ) (next : List Rows) (w : AddedUpTo ts rows marks o next) (l : o < length marks) where
    pub added_unmarked : (get_or marks o 0 ≡ 0x31 → ⊥) → AddedUpTo ts rows marks (o + 1) next
    added_unmarked h =
        go_on o next next w l w.size
        (record {
          each = λ x b.
              ap (λ (t : List ℕ). row_on t x) (w.kept o (omega arith))
              ∙ sym (or_false (row_on (table_at ts o) x))
              ∙ ap (λ (t : Bool). row_on (table_at ts o) x || (t && row_on rows x)) (sym (ne_eqb (get_or marks o 0) 0x31 h));
        })
        (λ j e. refl)

    pub added_marked : (ws : List ℕ)
        → length marks ≤ max_outputs
        → get_or marks o 0 ≡ 0x31
        → Rowwise (λ (x : ℕ). orb (row_on (table_at next o) x) (row_on rows x)) ws
        → AddedUpTo ts rows marks (o + 1) (set next o (record { words = ws }))
    added_marked ws n h t =
        let row : Rows = record { words = ws } in
        let none-at : Rows = record { words = [] } in
        let here : table_at (set next o row) o ≡ ws
        = ap words_of (get_or-set_same next o row none-at (omega (arith, w.size))) in
        go_on o next (set next o row) w l (length-set next o row ∙ w.size)
        (record {
          each = λ x b.
              ap (λ (s : List ℕ). row_on s x) here
              ∙ t.each x b
              ∙ or_is (row_on (table_at next o) x) (row_on rows x)
              ∙ ap (λ (s : List ℕ). row_on s x || row_on rows x) (w.kept o (omega arith))
              ∙ ap (λ (s : Bool). row_on (table_at ts o) x || (s && row_on rows x)) (sym (eq-eqb (get_or marks o 0) 0x31 h));
        })
        (λ j e. ap words_of (get_or-set_other next o j row none-at e))

  pub added_all : (o : ℕ) (next : List Rows) → AddedUpTo ts rows marks o next → length marks ≤ o → Added ts rows marks next
  added_all o next w l = record { each = λ j g. w.done j (omega arith) }
