-- Table, Map and Check refuse as demand 1 says. Assumes nothing.
use Rattle.std.specs.Prelude.{◌≡◌, Bool, true, false, List, ℕ, ◌≤◌, ◌<◌, leb, ltb, length}
use Rattle.std.proofs.Math.Path.{refl}
use Rattle.std.proofs.Common.{sym, ap, ◌∙◌, subst, inl, inr, arith}
use Rattle.std.proofs.Math.Option.{Option, some, none}
use Rattle.std.proofs.Math.Seq.{sets}
use borrow.Author.Tests.{ltb-true, ltb-false, leb-false, lt-ltb, le-ltb, lt-leb}
use Rattle.bits.specs.Logic.{pick}
use Rattle.limits.specs.Limits.{max_classes}
use Rattle.sheet.specs.Examine.{Design, Examined, refused, valid, examine}
use Rattle.sheet.specs.ExaminationLaws.{refused_right}
use Rattle.design.specs.Tabulate as tables
use Rattle.design.specs.Tabulate.{Tabulated, tabulate, table_of, table_digits, row_count, untouched}
use Rattle.classes.specs.Classes.{global_count}
use Rattle.network.specs.Network.{Network}
use Rattle.network.specs.Printer.{print_network}
use Rattle.network.specs.Examine.{Answer, bad_line, network, read_network, offending}
use Rattle.network.specs.Check as checks
use Rattle.network.specs.Check.{check, check_of, examine_pair, compare_pair, beside, judge}
use Rattle.network.specs.CheckLaws.{compared_not_refused}
use Rattle.network.specs.NetworkFor.{NetworkFor}
use Rattle.network.specs.Answers.{WithinLimits, Computes}
use Rattle.mapper.specs.Map.{First, MapAnswer, refused_by, OutcomeFor, OutcomeOf, Outcome}
use Rattle.mapper.specs.Map.{too_many_classes, no_network, buffer_short, written}
use Rattle.mapper.specs.FunctionLaws.{first_one}
use Rattle.demands.specs.OutcomeLaws.{outcome_for, outcome_refused}
use Rattle.demands.specs.Demand1.{TableRefuses, MapRefuses, CheckRefuses, TableNumber, MapNumber, CheckNumber, Demand1, SheetDemand1}
use Rattle.demands.specs.Demand1 as why
use Rattle.demands.specs.Demand3Laws.{mapped_not_refused}

-- ======== which answer was given
table_same : {q l p m : ℕ} → tables.refused_by q l ≡ tables.refused_by p m → (q ≡ p) × (l ≡ m)
table_same e = (cc, cc)

table-written : {n q l : ℕ} → tables.written n ≡ tables.refused_by q l → ⊥
table-written e = let z : ◌≡◌ {A = ℕ} 0 1 = cc in omega arith

pub map_same : {q l p m : ℕ} → refused_by q l ≡ refused_by p m → (q ≡ p) × (l ≡ m)
map_same e = (cc, cc)

check_same : {q l p m : ℕ} → checks.refused_by q l ≡ checks.refused_by p m → (q ≡ p) × (l ≡ m)
check_same e = (cc, cc)

-- ======== Table
module _ (x : Examined) (o : ℕ) (b : List ℕ) where
  table_refuses : (q l : ℕ) → TableRefuses x o (length b) q l → (table_of x o b).answer ≡ tables.refused_by q l
  unfolding table_of
  table_refuses q l (why.by_sheet p m e) = rw e refl
  table_refuses q l (why.by_output d e h) = rw (e, le-ltb o (length d.outputs) h) refl
  table_refuses q l (why.by_buffer d e h k) = rw (e, lt-ltb o (length d.outputs) h, lt-leb (row_count d) (length b) k) refl

  same-table : (q l p m : ℕ) → tables.refused_by p m ≡ tables.refused_by q l → TableRefuses x o (length b) p m → TableRefuses x o (length b) q l
  same-table q l p m f r =
      let (i, j) = table_same f in
      subst (λ (n : ℕ). TableRefuses x o (length b) n l) i (subst (TableRefuses x o (length b) p) j r)

  record TableSays (q l : ℕ) (y : Tabulated) : Type 0 where
    because : TableRefuses x o (length b) q l
    unchanged : y.buffer ≡ b

  table_says : (q l : ℕ) (y : Examined) → x ≡ y → (table_of y o b).answer ≡ tables.refused_by q l → TableSays q l (table_of y o b)
  unfolding table_of
  table_says q l (refused p m) e f = record { because = same-table q l p m f (why.by_sheet p m e); unchanged = refl }
  table_says q l (valid d) e f = go (ltb o (length d.outputs)) refl (leb (row_count d) (length b)) refl f
    where
      wrote : Tabulated
      wrote = record { answer = tables.written (row_count d); buffer = sets b 0 (table_digits d o) }

      go : (i : Bool)
          → ltb o (length d.outputs) ≡ i
          → (j : Bool)
          → leb (row_count d) (length b) ≡ j
          → (pick i (pick j wrote (untouched 9 0 b)) (untouched 6 0 b)).answer ≡ tables.refused_by q l
          → TableSays q l (pick i (pick j wrote (untouched 9 0 b)) (untouched 6 0 b))
      go false h j k f =
          record { because = same-table q l 6 0 f (why.by_output d e (ltb-false o (length d.outputs) h)); unchanged = refl }
      go true h true k f = absurd (table-written f)
      go true h false k f =
          let small = leb-false (row_count d) (length b) k in
          record { because = same-table q l 9 0 f (why.by_buffer d e (ltb-true o (length d.outputs) h) small); unchanged = refl }

-- ======== Check
module _ (x : Examined) (t : List ℕ) where
  check_refuses : (q l : ℕ) → CheckRefuses x t q l → check_of x t ≡ checks.refused_by q l
  unfolding check_of examine_pair
  check_refuses q l (why.by_sheet p m e) = rw e refl
  check_refuses q l (why.by_line d m e h) = rw (e, h) refl
  check_refuses q l (why.by_limits d w m e h k) = rw (e, h, k) refl

  same_check : (q l p m : ℕ) → checks.refused_by p m ≡ checks.refused_by q l → CheckRefuses x t p m → CheckRefuses x t q l
  same_check q l p m f r =
      let (i, j) = check_same f in
      subst (λ (n : ℕ). CheckRefuses x t n l) i (subst (CheckRefuses x t p) j r)

  check_because : (q l : ℕ) (y : Examined) → x ≡ y → check_of y t ≡ checks.refused_by q l → CheckRefuses x t q l
  unfolding check_of examine_pair
  check_because q l (refused p m) e f = same_check q l p m f (why.by_sheet p m e)
  check_because q l (valid e) g f = from-answer (read_network e t) refl f
    where
      from-judge : (w : Network)
          → read_network e t ≡ network w
          → (i : Option ℕ)
          → offending e w ≡ i
          → compare_pair (judge e w i) ≡ checks.refused_by q l
          → CheckRefuses x t q l
      from-judge w h (some m) k f = same_check q l 11 m f (why.by_limits e w m g h k)
      from-judge w h none k f = absurd (compared_not_refused e w q l f)

      from-answer : (i : Answer) → read_network e t ≡ i → compare_pair (beside e i) ≡ checks.refused_by q l → CheckRefuses x t q l
      from-answer (bad_line m) h f = same_check q l 10 m f (why.by_line e m g h)
      from-answer (network w) h f = from-judge w h (offending e w) refl f

-- ======== Map
module _ (b : List ℕ) (d : Design) where
  says_classes : {a : MapAnswer} {b' : List ℕ} → max_classes < global_count d d.bound → OutcomeFor d b a b' → a ≡ refused_by 7 0
  says_classes m (too_many_classes h) = refl
  says_classes m (no_network h n) = absurd (omega (arith, h, m))
  says_classes m (buffer_short w h p n) = absurd (omega (arith, h, m))
  says_classes m (written w h p n) = absurd (omega (arith, h, m))

  says_cells : {a : MapAnswer} {b' : List ℕ}
      → global_count d d.bound ≤ max_classes
      → ((w : Network) → NetworkFor d w → WithinLimits d w → Computes d w → ⊥)
      → OutcomeFor d b a b'
      → a ≡ refused_by 8 0
  says_cells m k (too_many_classes h) = absurd (omega (arith, h, m))
  says_cells m k (no_network h n) = refl
  says_cells m k (buffer_short w h p n) = absurd (k w p.permitted.wellformed p.permitted.within p.permitted.computes)
  says_cells m k (written w h p n) = absurd (k w p.permitted.wellformed p.permitted.within p.permitted.computes)

  says_buffer : {a : MapAnswer} {b' : List ℕ} (w : Network)
      → global_count d d.bound ≤ max_classes
      → First d w
      → length b < length (print_network d w)
      → OutcomeFor d b a b'
      → a ≡ refused_by 9 0
  says_buffer w m p k (too_many_classes h) = absurd (omega (arith, h, m))
  says_buffer w m p k (no_network h n) = absurd (n w p.permitted.wellformed p.permitted.within p.permitted.computes)
  says_buffer w m p k (buffer_short v h q n) = refl
  says_buffer w m p k (written v h q n) =
      let g = ap length (first_one d v w q p).0 in
      absurd (omega (arith, g, n, k))

module _ (x : Examined) (b : List ℕ) where
  map_refuses : (a : MapAnswer) (b' : List ℕ) (q l : ℕ) → OutcomeOf x b a b' → MapRefuses x (length b) q l → a ≡ refused_by q l
  map_refuses a b' q l o (why.by_sheet p m e) = (outcome_refused p m e o).refusal
  map_refuses a b' q l o (why.by_classes d e h) = says_classes b d h (outcome_for d e o)
  map_refuses a b' q l o (why.by_cells d e h n) = says_cells b d h n (outcome_for d e o)
  map_refuses a b' q l o (why.by_buffer d w e h p n) = says_buffer b d w h p n (outcome_for d e o)

  same_refusal : (q l p m : ℕ) → refused_by p m ≡ refused_by q l → MapRefuses x (length b) p m → MapRefuses x (length b) q l
  same_refusal q l p m f r =
      let (i, j) = map_same f in
      subst (λ (n : ℕ). MapRefuses x (length b) n l) i (subst (MapRefuses x (length b) p) j r)

  record MapSays (q l : ℕ) (b' : List ℕ) : Type 0 where
    because : MapRefuses x (length b) q l
    unchanged : b' ≡ b

  design_says : {a : MapAnswer} {b' : List ℕ} (q l : ℕ) (d : Design)
      → x ≡ valid d
      → OutcomeFor d b a b'
      → a ≡ refused_by q l
      → MapSays q l b'
  design_says {a} {b'} q l d e o f = go d a b' e o f
    where
      go : (d : Design) (a : MapAnswer) (b' : List ℕ) → x ≡ valid d → OutcomeFor d b a b' → a ≡ refused_by q l → MapSays q l b'
      go d a b' e (too_many_classes h) f = record { because = same_refusal q l 7 0 f (why.by_classes d e h); unchanged = refl }
      go d a b' e (no_network h n) f = record { because = same_refusal q l 8 0 f (why.by_cells d e h n); unchanged = refl }
      go d a b' e (buffer_short w h k n) f = record { because = same_refusal q l 9 0 f (why.by_buffer d w e h k n); unchanged = refl }
      go d a b' e (written w h k n) f = absurd (mapped_not_refused f)

  map_says : (a : MapAnswer) (b' : List ℕ) (q l : ℕ) (y : Examined)
      → x ≡ y
      → OutcomeOf y b a b'
      → a ≡ refused_by q l
      → MapSays q l b'
  map_says a b' q l (refused p m) e o f =
      record { because = same_refusal q l p m (sym o.refusal ∙ f) (why.by_sheet p m e); unchanged = o.untouched }
  map_says a b' q l (valid d) e o f = design_says q l d e o f

-- ======== demand 1 for every examination's answer
pub demand_1 : (x : Examined) (t : List ℕ) (o : ℕ) (b : List ℕ) (a : MapAnswer) (b' : List ℕ)
    → OutcomeOf x b a b'
    → Demand1 x t o b a b'
demand_1 x t o b a b' h =
    record {
      table_refuses = table_refuses x o b;
      table_because = λ q l f. (table_says x o b q l x refl f).because;
      table-untouched = λ q l f. (table_says x o b q l x refl f).unchanged;
      map_refuses = λ q l r. map_refuses x b a b' q l h r;
      map_because = λ q l f. (map_says x b a b' q l x refl h f).because;
      map-untouched = λ q l f. (map_says x b a b' q l x refl h f).unchanged;
      check_refuses = check_refuses x t;
      check_because = λ q l f. check_because x t q l x refl f;
    }

-- ======== and on sheets
sheet-number : (s : List ℕ) (q l : ℕ) → examine s ≡ refused q l → (1 ≤ q) × (q ≤ 5)
sheet-number s q l e = let r = refused_right s q l e in (r.at_least_one, r.at_most_five)

module _ (s : List ℕ) where
  table-number : (o n q l : ℕ) → TableRefuses (examine s) o n q l → TableNumber q
  table-number o n q l (why.by_sheet p m e) =
      let r = refused_right s p m e in
      let i = r.at_most_five in
      inl (r.at_least_one, omega arith)
  table-number o n q l (why.by_output d e h) = inl (omega arith, omega arith)
  table-number o n q l (why.by_buffer d e h k) = inr refl

  map-number : (n q l : ℕ) → MapRefuses (examine s) n q l → MapNumber q
  map-number n q l (why.by_sheet p m e) = inl (sheet-number s p m e)
  map-number n q l (why.by_classes e f h) = inr (omega arith, omega arith)
  map-number n q l (why.by_cells e f h k) = inr (omega arith, omega arith)
  map-number n q l (why.by_buffer e w f h p k) = inr (omega arith, omega arith)

  check-number : (t : List ℕ) (q l : ℕ) → CheckRefuses (examine s) t q l → CheckNumber q
  check-number t q l (why.by_sheet p m e) = inl (sheet-number s p m e)
  check-number t q l (why.by_line d m e h) = inr (omega arith, omega arith)
  check-number t q l (why.by_limits d w m e h k) = inr (omega arith, omega arith)

pub sheet_demand_1 : (s t : List ℕ) (o : ℕ) (b : List ℕ) (a : MapAnswer) (b' : List ℕ)
    → Outcome s b a b'
    → SheetDemand1 s t o b a b'
unfolding tabulate check
sheet_demand_1 s t o b a b' h =
    let d = demand_1 (examine s) t o b a b' h in
    record {
      refusals = d;
      table-number = λ q l f. table-number s o (length b) q l (d.table_because q l f);
      map-number = λ q l f. map-number s (length b) q l (d.map_because q l f);
      check-number = λ q l f. check-number s t q l (d.check_because q l f);
    }
