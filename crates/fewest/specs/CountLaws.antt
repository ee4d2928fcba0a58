-- A count for which no cells are found is too small, and so the first count that is found is the least. Every table is complemented where
-- it is 1 at vertex 0, which tells apart what was told apart. Cells that serve without given tables and known digits are what the search
-- was asked for with none of either. Assumes nothing.
use Rattle.std.specs.Prelude.{◌≡◌, refl, Bool, true, false, List, [], ◌∷◌, ◌++◌, ℕ, zero, suc, ◌+◌, ◌^◌, ◌≤◌, ◌<◌, length}
use Rattle.std.proofs.Common.{sym, ap, ap₂, ◌∙◌, subst, append-nil, inl, inr, ⊎_elim, arith}
use Rattle.std.proofs.Math.Decide.{dec_lt}
use Rattle.std.specs.Int.Bits.{bit_xor}
use Rattle.bits.specs.Logic.{xorb, bit}
use Rattle.bits.specs.LogicLaws.{true_false, never_both, xor_self}
use Rattle.bits.specs.Digit.{on}
use Rattle.bits.specs.DigitLaws.{on_xor, on_none, on_zero}
use Rattle.bits.specs.Count.{count}
use Rattle.bits.specs.CountLaws.{less_or_equal}
use Rattle.cells.specs.FullSizeLaws.{xor_same}
use Rattle.cells.specs.CodesLaws.{cells-length, cells_zero}
use Rattle.cells.specs.Core.{Cell, Apart, reading, Differ, Serves, cells_from, core_of}
use Rattle.cells.specs.FullSize.{read_by}
use Rattle.problem.specs.declared.Answer as problem
use Rattle.problem.specs.declared.Answer.TheVariants.{Found, Nothing, Unsure}
use Rattle.problem.specs.Answer.{is_found}
use Rattle.problem.specs.Problem.{label_at, item}
use Rattle.relation.specs.Relation.{Conflict}
use Rattle.subproblems.specs.Subproblem.{open_of}
use Rattle.seeking.specs.Seeking.{Tables, Known, Lacks, open_cells, given_cells, Sought}
use Rattle.seeking.specs.SeekingLaws.{fit_open}
use Rattle.dominance.specs.Kept.{StandFor}
use Rattle.dominance.specs.KeptLaws.{kept_lacks}
use Rattle.fewest.specs.Count.{Zeroed, Opened, NoFewer, Answered}

-- ---- complementing: every table 0 at vertex 0
xor_own : (a : ℕ) → bit_xor a a ≡ 0
xor_own a = on_none (bit_xor a a) (λ i. on_xor a a i ∙ xor_self (on a i))

-- cells with other tables and the same rows: where they tell no less apart
cells_apart_more : (o x y n i : ℕ) (rows rows' codes codes' : ℕ → ℕ) → rows' o ≡ rows o → ((k : ℕ) → on (codes' x) k ≡ on (codes' y) k → on (codes x) k ≡ on (codes y) k)
    → Apart o x y (cells_from n i rows codes) → Apart o x y (cells_from n i rows' codes')
unfolding cells_from
cells_apart_more o x y zero i rows rows' codes codes' e s a = a
cells_apart_more o x y (suc n) i rows rows' codes codes' e s a = ⊎_elim
    (λ p. inl (ap (λ (z : ℕ). on z i) e ∙ p.0, λ q. p.1 (s i q)))
    (λ r. inr (cells_apart_more o x y n (suc i) rows rows' codes codes' e s r))
    a

cells_reading_same : (o n i : ℕ) (rows rows' codes codes' : ℕ → ℕ) → rows' o ≡ rows o → reading o (cells_from n i rows' codes') ≡ reading o (cells_from n i rows codes)
unfolding cells_from reading
cells_reading_same o zero i rows rows' codes codes' e = refl
cells_reading_same o (suc n) i rows rows' codes codes' e = ap₂ (λ (a : Bool) (b : ℕ). bit a + b) (ap (λ (z : ℕ). on z i) e) (cells_reading_same o n (suc i) rows rows' codes codes' e)

-- the open cells of rows, complemented where they are 1 at vertex 0, serve where the open cells do
zeroed_serves : (v m : ℕ) (Conflict : ℕ → ℕ → ℕ → Type 0) (budget : ℕ → ℕ) (u : ℕ) (rows codes fs r : List ℕ)
    → v ≤ 32 → m ≤ 8 → Opened rows 8 fs → Zeroed codes 32 r
    → Serves v m Conflict budget (open_cells u rows codes) → Serves v m Conflict budget (core_of u (item fs) (item r))
zeroed_serves v m Conflict budget u rows codes fs r few outs f z s = record {
  tells = λ o x y h a b c. cells_apart_more o x y u 0 opens (item fs) (item codes) (item r) (f.done o (omega arith))
      (λ k e. xor_same (on (item codes x) k) (on (item codes y) k) (on (item codes 0) k) (sym (digit x k (omega arith)) ∙ e ∙ digit y k (omega arith)))
      (s.tells o x y h a b c);
  within = λ o h. subst (λ (n : ℕ). n ≤ budget o) (sym (cells_reading_same o u 0 opens (item fs) (item codes) (item r) (f.done o (omega arith)))) (s.within o h);
}
  where
    opens : ℕ → ℕ
    opens o = open_of (item rows o)

    digit : (x k : ℕ) → x < 32 → on (item r x) k ≡ xorb (on (item codes x) k) (on (item codes 0) k)
    digit x k h = ap (λ (n : ℕ). on n k) (z.done x h) ∙ on_xor (item codes x) (item codes 0) k

-- ---- what is asked without given tables and known digits
pub serves_conflict : (cl : List ℕ) (v m : ℕ) (budget : ℕ → ℕ) (l : List Cell) → Serves v m (Differ (label_at cl)) budget l → Serves v m (Conflict cl) budget l
unfolding Conflict
serves_conflict cl v m budget l s = s

pub conflict_serves : (cl : List ℕ) (v m : ℕ) (budget : ℕ → ℕ) (l : List Cell) → Serves v m (Conflict cl) budget l → Serves v m (Differ (label_at cl)) budget l
unfolding Conflict
conflict_serves cl v m budget l s = s

pub no_tables : (given : List ℕ) (v : ℕ) → Tables given v 0 []
no_tables given v = record { long = refl; digits = λ i x h. absurd (omega arith) }

pub nothing_known : (val v : ℕ) (l : List Cell) → Known 0 val v l
nothing_known val v [] = tt
nothing_known val v (c ∷ l) = λ x h e. absurd (never_both e (on_zero x))

pub none_read : (l : List Cell) (rows : List ℕ) → l ++ given_cells rows [] ≡ l
unfolding read_by
none_read l rows = append-nil l

-- ---- the count
pub no_fewer_start : (cl given budgets : List ℕ) (v m : ℕ) → NoFewer cl given budgets v m 0
no_fewer_start cl given budgets v m = record { none = λ w h. absurd (omega arith) }

pub no_fewer_more : (cl given budgets : List ℕ) (v m u : ℕ) (rows codes : List ℕ) (ok : Bool) → ok ≡ false
    → Sought cl given budgets 0 0 v m u 0 ok rows codes → NoFewer cl given budgets v m u → NoFewer cl given budgets v m (u + 1)
no_fewer_more cl given budgets v m u rows codes ok e c a = record {
  none = λ w h. ⊎_elim (a.none w) (λ q. subst (λ (w : ℕ). Lacks cl given budgets 0 0 v m w 0) (sym q) lacks) (less_or_equal w u (omega arith));
}
  where
    lacks : Lacks cl given budgets 0 0 v m u 0
    lacks = subst (λ (b : Bool). Sought cl given budgets 0 0 v m u 0 b rows codes) e c

-- where no fewer serve the outputs kept, no fewer serve all
pub no_fewer_kept : (cl given budgets : List ℕ) (v m : ℕ) (labels budgets' : List ℕ) (n : ℕ) (by : List ℕ) (u : ℕ)
    → StandFor cl budgets v m labels budgets' n by → NoFewer labels given budgets' v n u → NoFewer cl given budgets v m u
no_fewer_kept cl given budgets v m labels budgets' n by u s a = record { none = λ w h. kept_lacks cl given budgets labels budgets' 0 0 v m n w 0 by s (a.none w h) }

no_fewer_length : (cl given budgets : List ℕ) (v m u : ℕ) (k : List Cell) → NoFewer cl given budgets v m u → Serves v m (Differ (label_at cl)) (item budgets) k → u ≤ length k
no_fewer_length cl given budgets v m u k a s = go (dec_lt (length k) u)
  where
    go : Dec (length k < u) → u ≤ length k
    go (yes h) = absurd ((a.none (length k) h).none k [] refl (no_tables given v) (nothing_known 0 v k)
        (subst (Serves v m (Conflict cl) (item budgets)) (sym (append-nil k)) (serves_conflict cl v m (item budgets) k s)))
    go (no h) = omega arith

-- Theorem B, found
pub answer_found : (cl given budgets : List ℕ) (v m u limit : ℕ) (rows codes fs r : List ℕ) (ok : Bool) → v ≤ 32 → m ≤ 8 → limit ≤ 6
    → u ≤ limit → ok ≡ true → Sought cl given budgets 0 0 v m u 0 ok rows codes → Opened rows 8 fs → Zeroed codes 32 r
    → NoFewer cl given budgets v m u → Answered cl budgets v m limit true u fs r
answer_found cl given budgets v m u limit rows codes fs r false few outs cells h e c f z a = absurd (true_false (sym e))
answer_found cl given budgets v m u limit rows codes fs r true few outs cells h e c f z a = record {
  few = h;
  low = λ _ o l. subst (λ (n : ℕ). n < 2 ^ u) (sym (f.done o (omega arith))) (c.fit o l).cells_low;
  full = λ _ o l. ap (λ (n : ℕ). count (on n) u) (f.done o (omega arith)) ∙ fit_open (item budgets o) u (item rows o) (omega arith) (c.fit o l);
  answer = (
    rw (cells-length u 0 (item fs) (item r)) h,
    record {
      serves = conflict_serves cl v m (item budgets) (core_of u (item fs) (item r)) (zeroed_serves v m (Conflict cl) (item budgets) u rows codes fs r few outs f z
          (subst (Serves v m (Conflict cl) (item budgets)) (none_read (open_cells u rows codes) rows) (c.serves [] (no_tables given v))));
      zero = cells_zero u 0 (item fs) (item r) (z.done 0 (omega arith) ∙ xor_own (item codes 0));
      fewest = λ k s. rw (cells-length u 0 (item fs) (item r)) (no_fewer_length cl given budgets v m u k a s);
    },
  );
}

-- Theorem B, not found
pub answer_none : (cl given budgets : List ℕ) (v m u limit : ℕ) (rows codes : List ℕ) → limit < u → NoFewer cl given budgets v m u → Answered cl budgets v m limit false 0 rows codes
answer_none cl given budgets v m u limit rows codes h a = record {
  answer = λ k s. (let z = no_fewer_length cl given budgets v m u k a s in omega arith);
  few = omega arith;
  low = λ e. absurd (true_false (sym e));
  full = λ e. absurd (true_false (sym e));
}

-- what is not an answer found
pub not_found : {T : Type 0} (a : problem.Answer T) → ((x : T) → a ≡ Found x → ⊥) → is_found a ≡ false
not_found (Found x) h = absurd (h x refl)
not_found Nothing h = refl
not_found Unsure h = refl
