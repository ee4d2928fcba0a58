-- An output that given tables serve alone: it has no conflict left for the codes. One row that reads these tables is enough for
-- it: in each core the output's row can be replaced by that row, and the codes stay. So no other row of it is tried. Assumes
-- nothing.
use Rattle.std.specs.Prelude.{◌≡◌, ℕ, ◌+◌, ◌-◌, ◌^◌, ◌<◌, Bool, true, false, List, length, ◌≢◌, bit_and, bit_or, slice_set, refl, Some, None}
use Rattle.std.proofs.Common.{sym, ◌∙◌, subst}
use Rattle.std.proofs.Math.Decide.{ℕ_discrete}
use Rattle.bits.specs.Digit.{on}
use Rattle.bits.specs.LogicLaws.{never_both}
use Rattle.bits.specs.Count.{count}
use Rattle.problem.specs.Problem.{item}
use Rattle.relation.specs.Relation.{Left, NoneLeft}
use Rattle.subproblems.specs.Subproblem.{open_of, given_of}
use Rattle.readingsets.specs.Choice.{RowFits, Core, Agree, Lost, Chosen, numbered, Served}
use Rattle.readingsets.specs.ChoiceLaws.{agree_more}

-- ======== one row replaced
abbrev choice : (A : Type 0) → Dec A → ℕ → ℕ → ℕ
choice A (yes h) a b = a
choice A (no h) a b = b

choice_yes : (A : Type 0) (d : Dec A) (a b : ℕ) → A → choice A d a b ≡ a
choice_yes A (yes h) a b x = refl
choice_yes A (no h) a b x = absurd (h x)

choice_no : (A : Type 0) (d : Dec A) (a b : ℕ) → (A → ⊥) → choice A d a b ≡ b
choice_no A (yes h) a b x = absurd (x h)
choice_no A (no h) a b x = refl

-- the rows R with row for output n
abbrev replaced : ℕ → ℕ → (ℕ → ℕ) → ℕ → ℕ
replaced n row R o = choice (o ≡ n) (ℕ_discrete o n) row (R o)

module _ (n row : ℕ) (R : ℕ → ℕ) where
  replaced_same : (o : ℕ) → o ≡ n → replaced n row R o ≡ row
  replaced_same o e = choice_yes (o ≡ n) (ℕ_discrete o n) row (R o) e

  replaced_other : (o : ℕ) → (o ≢ n) → replaced n row R o ≡ R o
  replaced_other o d = choice_no (o ≡ n) (ℕ_discrete o n) row (R o) d

-- ======== a core with that row
module _ (cl given budgets : List ℕ) (kn val v m u g n row : ℕ) (fits : RowFits (item budgets n) u g row) (serves : NoneLeft cl given (given_of row) n v) where
  core-replaced : (R F : ℕ → ℕ) → Core cl given budgets kn val v m u g R F → Core cl given budgets kn val v m u g (replaced n row R) F
  core-replaced R F c = record {
    answers = record { tells = λ o x y h e a b l s. tells o x y h e a b l s (ℕ_discrete o n); fixed = c.answers.fixed };
    rows = λ o h. fit o h (ℕ_discrete o n);
    zero = c.zero;
  }
    where
      tells : (o x y : ℕ) → o < 8 → on (2 ^ m - 1) o ≡ true → x < v → y < v → Left cl given (given_of (replaced n row R o)) o x y
          → bit_and (F x) (open_of (replaced n row R o)) ≡ bit_and (F y) (open_of (replaced n row R o)) → Dec (o ≡ n) → ⊥
      tells o x y h e a b l s (yes q) = serves.none x y a b
          (subst (λ (o : ℕ). Left cl given (given_of row) o x y) q (subst (λ (r : ℕ). Left cl given (given_of r) o x y) (replaced_same n row R o q) l))
      tells o x y h e a b l s (no q) = c.answers.tells o x y h e a b
          (subst (λ (r : ℕ). Left cl given (given_of r) o x y) (replaced_other n row R o q) l)
          (subst (λ (r : ℕ). bit_and (F x) (open_of r) ≡ bit_and (F y) (open_of r)) (replaced_other n row R o q) s)

      fit : (o : ℕ) → o < m → Dec (o ≡ n) → RowFits (item budgets o) u g (replaced n row R o)
      fit o h (yes q) = subst (RowFits (item budgets o) u g) (sym (replaced_same n row R o q)) (subst (λ (o : ℕ). RowFits (item budgets o) u g row) (sym q) fits)
      fit o h (no q) = subst (RowFits (item budgets o) u g) (sym (replaced_other n row R o q)) (c.rows o h)

  module _ (done with-n : ℕ) (rows : List ℕ) (long : length rows ≡ 8) (h : n < 8) (free : on done n ≡ false) (ew : with-n ≡ bit_or done (2 ^ n)) where
    served_lost : Lost cl given budgets kn val v m u g with-n (slice_set rows n row) → Lost cl given budgets kn val v m u g done rows
    served_lost s = record {
      none = λ R F c a. s.none (replaced n row R) F (core-replaced R F c)
          (subst (λ (d : ℕ). Agree d (slice_set rows n row) (replaced n row R)) (sym ew)
          (agree_more done n rows row long h free (replaced n row R)
          (λ p b. replaced_other n row R p (λ q. never_both b (subst (λ (o : ℕ). on done o ≡ false) (sym q) free)) ∙ a p b) (replaced_same n row R n refl)));
    }

    pub served_chosen : (rows' codes : List ℕ) (ok : Bool) → Chosen cl given budgets kn val v m u g with-n (slice_set rows n row) ok rows' codes
        → Chosen cl given budgets kn val v m u g done rows ok rows' codes
    served_chosen rows' codes true s = s
    served_chosen rows' codes false s = served_lost s

-- ======== such a row found
pub served_here : (cl given : List ℕ) (v u g n want r row tables : ℕ) → r < 2 ^ (u + g) → row ≡ numbered u r → tables ≡ given_of row
    → count (on row) 16 ≡ want → NoneLeft cl given tables n v → Served cl given v u g n want (Some r)
served_here cl given v u g n want r row tables h er et full s = (
  h,
  subst (λ (z : ℕ). count (on z) 16 ≡ want) er full,
  subst (λ (z : ℕ). NoneLeft cl given (given_of z) n v) er (subst (λ (z : ℕ). NoneLeft cl given z n v) et s),
)

pub served_none : (cl given : List ℕ) (v u g n want : ℕ) → Served cl given v u g n want None
served_none cl given v u g n want = tt
