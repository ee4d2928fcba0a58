-- Why codes of the shared cells are enough. A private cell serves its own output only, so vertices of different classes with
-- the same shared digits need different private codes, and codes for all cells leave no block of shared digits with more
-- classes than the output's private cells have codes (solves_of). What is parted by shared and private cells is parted by what
-- is read (coded_of). So no answer is lost. The search starts with code 0 at vertex 0 and every code that fits elsewhere.
-- Assumes nothing.
use Rattle.cells.specs.Lists.{zeros, All, Pairs}
use Rattle.std.specs.Prelude.{◌≡◌, refl, Bool, true, false, not, List, ◌∷◌, ◌⊎◌, ℕ, zero, suc, ◌+◌, ◌-◌, ◌*◌, ◌/◌, ◌%◌, ◌^◌, ◌≤◌, ◌<◌, length, get_or, set}
use Rattle.std.proofs.Common.{sym, ap, ap₂, ◌∙◌, subst, inl, inr, ⊎_elim, arith}
use Rattle.std.proofs.Math.Decide.{ℕ_discrete, dec_lt}
use Rattle.std.specs.Int.Bits.{bit_and, bit_or}
use Rattle.std.proofs.lemmas.Nat.{and_le_l, and_le_r}
use Rattle.bits.specs.Logic.{andb, orb}
use Rattle.bits.specs.LogicLaws.{true_false, and_left, and_right, never_both, false_unless, and_false, or_first, or_second}
use Rattle.bits.specs.Digit.{on}
use Rattle.bits.specs.DigitLaws.{on_and, on_or, on-ones, on_above, on_complement}
use Rattle.bits.specs.Count.{count}
use Rattle.bits.specs.CountLaws.{less_or_equal}
use Rattle.bits.specs.FilledLaws.{filled_none, filled_more}
use Rattle.holding.specs.BlocksLaws.{copies_are}
use Rattle.cells.specs.SharedLaws.{crowd_bound, places_bound}
use Rattle.cells.specs.PigeonLaws.{agree_and, and_agree}
use Rattle.cells.specs.Core.{Within}
use Rattle.cells.specs.Codes.{Coded}
use Rattle.cells.specs.Shared.{Split, shared_code}
use Rattle.problem.specs.Problem.{label_at, part_at, item, Block, Blocks, Plan, Solves, Kept, Parted}
use Rattle.coding.specs.Known.{Fitting}
use Rattle.coding.specs.Values.{Agrees}
use Rattle.coding.specs.Tried.{Covers}
use Rattle.holding.specs.Blocks.{Table, copies}
use Rattle.readers.specs.Masks.{Short, Common, Planned, Seen, Start, private_cells}

-- ======== the loop over the outputs
pub seen_start : (rows : List ℕ) → Seen rows 0 0 0
seen_start rows = record { any = λ q i h. absurd (omega arith); two = λ p q i h. absurd (omega arith) }

pub seen_more : (rows : List ℕ) (o once many : ℕ) → Seen rows o once many → Seen rows (o + 1) (bit_or once (item rows o)) (bit_or many (bit_and once (item rows o)))
seen_more rows o once many s = record {
  any = λ q i h e. on_or once (item rows o) i ∙ ⊎_elim (λ l. or_first _ _ (s.any q i l e))
      (λ p. or_second (on once i) _ (subst (λ (z : ℕ). on (item rows z) i ≡ true) p e)) (less_or_equal q o (omega arith));
  two = λ p q i h k ne e f. on_or many (bit_and once (item rows o)) i ∙ pair p q i (less_or_equal p o (omega arith)) (less_or_equal q o (omega arith)) ne e f;
}
  where
    now_too : (q i : ℕ) → q < o → on (item rows q) i ≡ true → on (item rows o) i ≡ true → orb (on many i) (on (bit_and once (item rows o)) i) ≡ true
    now_too q i l e f = or_second (on many i) _ (on_and once (item rows o) i ∙ ap₂ andb (s.any q i l e) f)

    pair : (p q i : ℕ) → (p < o) ⊎ (p ≡ o) → (q < o) ⊎ (q ≡ o) → (p ≡ q → ⊥) → on (item rows p) i ≡ true → on (item rows q) i ≡ true → orb (on many i) (on (bit_and once (item rows o)) i) ≡ true
    pair p q i (inl a) (inl b) ne e f = or_first _ _ (s.two p q i a b ne e f)
    pair p q i (inl a) (inr b) ne e f = now_too p i a e (subst (λ (z : ℕ). on (item rows z) i ≡ true) b f)
    pair p q i (inr a) (inl b) ne e f = now_too q i b f (subst (λ (z : ℕ). on (item rows z) i ≡ true) a e)
    pair p q i (inr a) (inr b) ne e f = absurd (ne (a ∙ sym b))

digit_low : (n i : ℕ) → n < 64 → on n i ≡ true → i < 6
digit_low n i h e = elim (dec_lt i 6) as (λ _. i < 6) [ yes l ↦ l | no l ↦ absurd (never_both e (on_above 6 n i h (omega arith))) ]

pub seen_all : (rows : List ℕ) (j o once many : ℕ) → j ≤ o → Short rows j → Seen rows o once many → Common rows j (bit_and many 63)
seen_all rows j o once many h short s = record {
  two = λ p q i a b ne e f. on_and many 63 i ∙ ap₂ andb (s.two p q i (omega arith) (omega arith) ne e f) (on-ones 6 i (digit_low (item rows p) i (short p a) e));
  low = (let z = and_le_r many 63 in omega arith);
}

-- ======== the plan, output by output
pub planned_start : (rows : List ℕ) (sh : ℕ) → Planned rows sh 0 (zeros 8) (zeros 8) (zeros 8) (zeros 8)
planned_start rows sh = record {
  shared = filled_none _ _ refl;
  private = filled_none _ _ refl;
  caps_are = filled_none _ _ refl;
  spots_are = filled_none _ _ refl;
}

pub planned_more : (rows : List ℕ) (sh n : ℕ) (ms ps caps spots : List ℕ) (m p a b : ℕ) → n < 8
    → m ≡ bit_and (item rows n) sh → p ≡ private_cells rows sh n → a ≡ 2 ^ count (on p) 6
    → b ≡ 2 ^ count (on (item rows n)) 6 → Planned rows sh n ms ps caps spots
    → Planned rows sh (n + 1) (set ms n m) (set ps n p) (set caps n a) (set spots n b)
planned_more rows sh n ms ps caps spots m p a b h em ep ea eb s = record {
  shared = filled_more m h em s.shared;
  private = filled_more p h ep s.private;
  caps_are = filled_more a h (ea ∙ ap (λ (z : ℕ). 2 ^ count (on z) 6) ep) s.caps_are;
  spots_are = filled_more b h eb s.spots_are;
}

-- ======== what the plan says
module _ (rows : List ℕ) (sh j : ℕ) (ms ps caps spots : List ℕ) (short : Short rows j) (c : Common rows j sh) (p : Planned rows sh j ms ps caps spots) where
  shared_on : (o i : ℕ) → o < j → on (item ms o) i ≡ andb (on (item rows o) i) (on sh i)
  shared_on o i h = ap (λ (z : ℕ). on z i) (p.shared.done o h) ∙ on_and (item rows o) sh i

  private_on : (o i : ℕ) → o < j → i < 6 → on (item ps o) i ≡ andb (on (item rows o) i) (not (on sh i))
  private_on o i h l = ap (λ (z : ℕ). on z i) (p.private.done o h) ∙ on_and (item rows o) (2 ^ 8 - 1 - sh) i ∙ ap (λ (b : Bool). andb (on (item rows o) i) b)
      (on_complement 8 sh i (let z = c.low in omega arith) (omega arith))

  private_low : (o : ℕ) → o < j → item ps o < 64
  private_low o h = let e = p.private.done o h in let w = and_le_l (item rows o) (2 ^ 8 - 1 - sh) in let z = short o h in omega arith

  pub shared_low : (o : ℕ) → o < j → item ms o < 64
  shared_low o h = let e = p.shared.done o h in let w = and_le_l (item rows o) sh in let z = short o h in omega arith

  -- a private cell is read by its output and is not shared
  pub private_read : (o i : ℕ) → o < j → on (item ps o) i ≡ true → (on (item rows o) i ≡ true) × (on sh i ≡ false)
  private_read o i h e = go (on (item rows o) i) (on sh i) (sym (private_on o i h (digit_low (item ps o) i (private_low o h) e)) ∙ e)
    where
      go : (a b : Bool) → andb a (not b) ≡ true → (a ≡ true) × (b ≡ false)
      go true false e = (refl, refl)
      go true true e = absurd (true_false (sym e))
      go false b e = absurd (true_false (sym e))

  -- an output's private codes are as many as its private cells allow
  caps_of : (o : ℕ) → o < j → item caps o ≡ 2 ^ count (on (item ps o)) 6
  caps_of o h = p.caps_are.done o h ∙ sym (ap (λ (z : ℕ). 2 ^ count (on z) 6) (p.private.done o h))

  pub plan_of : Plan ms ps caps j
  plan_of = record {
    private = λ o q i h k e. shared_on q i k ∙ ap (λ (b : Bool). andb (on (item rows q) i) b) (private_read o i h e).1 ∙ and_false (on (item rows q) i);
    single = λ o q i h k ne e. false_unless _ (λ f. never_both (c.two o q i h k ne (private_read o i h e).0 (private_read q i k f).0) (private_read o i h e).1);
    room = caps_of;
    short = private_low;
    short_shared = shared_low;
  }

  pub shared_among : (o i : ℕ) → o < j → on (item ms o) i ≡ true → on sh i ≡ true
  shared_among o i h e = and_right (on (item rows o) i) (on sh i) (sym (shared_on o i h) ∙ e)

  split_of : Split j 6 (item rows) (item ms) (item ps) sh
  split_of = record {
    whole = λ o i h. whole o i h (dec_lt i 6);
    among = shared_among;
    outside = λ o i h e. (private_read o i h e).1;
    own = λ o q i h k ne e. false_unless _ (λ f. never_both (c.two o q i h k ne (private_read o i h e).0 f) (private_read o i h e).1);
    short = short;
    short_shared = shared_low;
  }
    where
      parts : (a b : Bool) → a ≡ orb (andb a b) (andb a (not b))
      parts true true = refl
      parts true false = refl
      parts false b = refl

      whole : (o i : ℕ) → o < j → Dec (i < 6) → on (item rows o) i ≡ orb (on (item ms o) i) (on (item ps o) i)
      whole o i h (yes l) = parts (on (item rows o) i) (on sh i) ∙ sym (ap₂ orb (shared_on o i h) (private_on o i h l))
      whole o i h (no l) = on_above 6 (item rows o) i (short o h) (omega arith) ∙ sym
          (ap₂ orb (on_above 6 (item ms o) i (shared_low o h) (omega arith)) (on_above 6 (item ps o) i (private_low o h) (omega arith)))

  -- codes that part by shared and private cells part by what is read
  pub coded_of : (cl : List ℕ) (v : ℕ) (r : List ℕ) → Parted cl ms ps v j r → Coded v j (Within (part_at cl) (label_at cl)) (item rows) (item r)
  coded_of cl v r t = record {
    tells = λ o x y h a b d e. d.1 (t.parted o x y h a b d.0
        (agree_and 6 (item ms o) (item r x) (item r y) (shared_low o h) (λ i l m. and_agree 6 (item rows o) (item r x) (item r y) e i l
        (and_left (on (item rows o) i) (on sh i) (sym (shared_on o i h) ∙ m))))
        (agree_and 6 (item ps o) (item r x) (item r y) (private_low o h) (λ i l m. and_agree 6 (item rows o) (item r x) (item r y) e i l (private_read o i h m).0)));
  }

  -- a core gives codes over the shared cells; what base promises is asked
  pub solves_of : (cl base : List ℕ) (v : ℕ) (f : ℕ → ℕ) → Coded v j (Within (part_at cl) (label_at cl)) (item rows) f
      → ((o l : ℕ) → o < j → l < 32 → (xs : List ℕ) × All (λ (x : ℕ). (x < v) × (label_at cl o x ≡ l)) xs × Pairs
      (λ (x y : ℕ). bit_and (shared_code sh f x) (item ms o) ≡ bit_and (shared_code sh f y) (item ms o) → ⊥) xs × (label_at base o l ≤ length xs)) → Solves cl base ms caps spots v j (shared_code sh f)
  solves_of cl base v f k need = record {
    fits = record {
      crowd = λ o t b xs h a q. subst (λ (z : ℕ). length xs ≤ z) (sym (caps_of o h)) (crowd_bound v j 6 (part_at cl) (label_at cl) (item rows) (item ms) (item ps) sh split_of f k o t b xs h a q);
      places = λ o t xs h a q. subst (λ (z : ℕ). length xs ≤ z) (sym (p.spots_are.done o h))
          (places_bound v j 6 (part_at cl) (label_at cl) (item rows) (item ms) (item ps) sh split_of f k o t xs h a q);
      needs = need;
    };
    small = λ x h. let z = and_le_r (f x) sh in let w = c.low in omega arith;
  }

-- ======== where the search starts
pub start_of_lem : (kn val : ℕ) (dom : List ℕ) → ((x : ℕ) → x < 32 → Fitting kn val x (item dom x)) → Start kn val (0 ∷ copies 31 64) dom
start_of_lem kn val dom any = record { first = refl; others = others; any = any }
  where
    others : (x : ℕ) → x < 32 → (x ≡ 0 → ⊥) → item (0 ∷ copies 31 64) x ≡ 64
    others zero h ne = absurd (ne refl)
    others (suc x) h ne = copies_are 31 64 x (omega arith)

pub start-agrees : (sh kn val : ℕ) (codes dom : List ℕ) (v : ℕ) (f : ℕ → ℕ) → v ≤ 32 → f 0 ≡ 0 → Start kn val codes dom → Agrees codes v (shared_code sh f)
start-agrees sh kn val codes dom v f few z s x h l = go (ℕ_discrete x 0)
  where
    go : Dec (x ≡ 0) → shared_code sh f x ≡ item codes x
    go (yes e) = ap (λ (y : ℕ). bit_and (f y) sh) e ∙ ap (λ (y : ℕ). bit_and y sh) z ∙ (let w = and_le_l 0 sh in let r : bit_and 0 sh ≡ 0 = omega arith in r) ∙ sym s.first ∙ ap (item codes) (sym e)
    go (no ne) = absurd (let e = s.others x (omega arith) ne in omega arith)

pub start-covers : (cl base ms caps spots : List ℕ) (v j kn val : ℕ) (codes dom d : List ℕ) → v ≤ 32 → Start kn val codes dom → Kept cl base ms caps spots v j codes dom d
    → Covers cl base ms caps spots v j kn val codes d
start-covers cl base ms caps spots v j kn val codes dom d few s k = record
    { covers = λ g f a b. (k.keeps g f (record { coded = a; within = λ x h. (s.any x (omega arith)).all (g x) (f.small x h) (b x h) })).within }

pub blocks_of : (ms bs : List ℕ) (j : ℕ) → Table ms (j * 64) bs → Blocks ms bs j
blocks_of ms bs j t = record {
  long = t.long;
  each = λ o c l k. subst (λ (z : ℕ). Block (item ms z) c (get_or bs (o * 64 + c) 0)) (let e : (o * 64 + c) / 64 ≡ o = omega arith in e)
      (subst (λ (z : ℕ). Block (item ms ((o * 64 + c) / 64)) z (get_or bs (o * 64 + c) 0)) (let e : (o * 64 + c) % 64 ≡ c = omega arith in e) (t.filled (o * 64 + c) (omega arith)));
}
