-- The members of a set of outputs in order: each is in the set and below the number of outputs, they rise, every output of the set
-- is one of them, and the selected elements of a list stand at their places. The set of all outputs selects all. Assumes nothing.
use Rattle.std.specs.Prelude.{◌≡◌, refl, true, false, List, [], ◌∷◌, map, ℕ, zero, suc, ◌+◌, ◌-◌, ◌^◌, ◌≤◌, ◌<◌, length, get_or}
use Rattle.std.proofs.Common.{ap, ◌∙◌, ⊎_elim, arith, pow_pos, pow_mono}
use Rattle.std.proofs.Math.Decide.{dec_lt}
use Rattle.bits.specs.Digit.{on}
use Rattle.bits.specs.DigitLaws.{on_above, on_none, on-ones}
use Rattle.bits.specs.LogicLaws.{either}
use Rattle.subsets.specs.Listed.{Place}
use Rattle.subsets.specs.Subset.{selected, members, size, member_at, SomeOf}

-- ---- each member is in the set, among the k numbers from i on
record Member (s i k x : ℕ) : Type 0 where
  pub from_start : i ≤ x
  pub to_end : x < i + k
  pub inside : on s x ≡ true

member_later : (s i k x : ℕ) → Member s (suc i) k x → Member s i (suc k) x
member_later s i k x p =
    let low : suc i ≤ x = p.from_start in
    let high : x < suc i + k = p.to_end in
    record { from_start = omega arith; to_end = omega arith; inside = p.inside }

first_or_later : (s i k : ℕ) (l : List ℕ)
    → on s i ≡ true
    → ((j : ℕ) → j < length l → Member s i (suc k) (get_or l j 0))
    → (j : ℕ)
    → j < length (i ∷ l)
    → Member s i (suc k) (get_or (i ∷ l) j 0)
first_or_later s i k l e later zero h = record { from_start = omega arith; to_end = omega arith; inside = e }
first_or_later s i k l e later (suc j) h = later j (omega arith)

each_member : (s i k j : ℕ) → j < length (members s i k) → Member s i k (get_or (members s i k) j 0)
unfolding members
each_member s i zero = λ j h. absurd (omega arith)
each_member s i (suc k) =
    let later : (j : ℕ) → j < length (members s (suc i) k) → Member s i (suc k) (get_or (members s (suc i) k) j 0)
    = λ j h. member_later s i k (get_or (members s (suc i) k) j 0) (each_member s (suc i) k j h) in
    ⊎_elim (λ e. rw e (first_or_later s i k (members s (suc i) k) e later)) (λ e. rw e later) (either (on s i))

pub member_below : (m s j : ℕ) → j < size m s → member_at m s j < m
member_below m s j h =
    let below : member_at m s j < 0 + m = (each_member s 0 m j h).to_end in
    omega arith

pub member_in : (m s j : ℕ) → j < size m s → on s (member_at m s j) ≡ true
member_in m s j h = (each_member s 0 m j h).inside

-- ---- members rise, so they are distinct
abbrev Rising : List ℕ → Type 0
Rising l = (j n : ℕ) → j < n → n < length l → get_or l j 0 < get_or l n 0

rising_more : (i : ℕ) (l : List ℕ) → ((j : ℕ) → j < length l → i < get_or l j 0) → Rising l → Rising (i ∷ l)
rising_more i l above rises zero zero g h = absurd (omega arith)
rising_more i l above rises zero (suc n) g h = above n (omega arith)
rising_more i l above rises (suc j) zero g h = absurd (omega arith)
rising_more i l above rises (suc j) (suc n) g h = rises j n (omega arith) (omega arith)

members_rise_from : (s i k : ℕ) → Rising (members s i k)
unfolding members
members_rise_from s i zero = λ j n g h. absurd (omega arith)
members_rise_from s i (suc k) =
    let later = members_rise_from s (suc i) k in
    ⊎_elim
    (λ e. rw e (rising_more i (members s (suc i) k) (λ j h. (each_member s (suc i) k j h).from_start) later))
    (λ e. rw e later)
    (either (on s i))

members_rise : (m s j n : ℕ) → j < n → n < size m s → member_at m s j < member_at m s n
members_rise m s = members_rise_from s 0 m

pub members-distinct : (m s j n : ℕ) → j < size m s → n < size m s → member_at m s j ≡ member_at m s n → j ≡ n
members-distinct m s j n h g e =
    elim (dec_lt j n) as (λ _. j ≡ n) [
      | yes l ↦ (let r : member_at m s j < member_at m s n = members_rise m s j n l g in absurd (omega arith))
      | no a ↦ elim (dec_lt n j) as (λ _. j ≡ n) [
        | yes l ↦ (let r : member_at m s n < member_at m s j = members_rise m s n j l h in absurd (omega arith))
        | no b ↦ omega arith
      ]
    ]

-- ---- every number of the set is a member
place_later : (i x : ℕ) (l : List ℕ) → Place l x → Place (i ∷ l) x
place_later i x l p =
    let h : p.place < length l = p.within in
    record { place = suc p.place; within = omega arith; is_there = p.is_there }

place_first : (i x : ℕ) (l : List ℕ) → i ≡ x → Place (i ∷ l) x
place_first i x l e = record { place = 0; within = omega arith; is_there = e }

member_place_from : (s i k x : ℕ) → Member s i k x → Place (members s i k) x
unfolding members
member_place_from s i zero x p = absurd (omega (arith, p.from_start, p.to_end))
member_place_from s i (suc k) x p =
    let low : i ≤ x = p.from_start in
    let high : x < i + suc k = p.to_end in
    let later : i < x → Place (members s (suc i) k) x
    = λ l. member_place_from s (suc i) k x (record { from_start = l; to_end = omega arith; inside = p.inside }) in
    elim (dec_lt i x) as (λ _. Place (members s i (suc k)) x) [
      | yes l ↦ ⊎_elim
          (λ e. rw e (place_later i x (members s (suc i) k) (later l)))
          (λ e. rw e (later l))
          (either (on s i))
      | no g ↦
          let q : i ≡ x = omega arith in
          rw (ap (on s) q ∙ p.inside) (place_first i x (members s (suc i) k) q)
    ]

pub member_place : (m s x : ℕ) → x < m → on s x ≡ true → Place (members s 0 m) x
member_place m s x h e = member_place_from s 0 m x (record { from_start = omega arith; to_end = omega arith; inside = e })

-- ---- how many members there are
members-most : (s i k : ℕ) → length (members s i k) ≤ k
unfolding members
members-most s i zero = omega arith
members-most s i (suc k) =
    let later : length (members s (suc i) k) ≤ k = members-most s (suc i) k in
    ⊎_elim (λ e. rw e (omega arith)) (λ e. rw e (omega arith)) (either (on s i))

pub size-most : (m s : ℕ) → size m s ≤ m
size-most m s = members-most s 0 m

none_in : (m s : ℕ) → s < 2 ^ m → size m s ≤ 0 → (k : ℕ) → on s k ≡ false
none_in m s b z k =
    elim (dec_lt k m) as (λ _. on s k ≡ false) [
      | yes l ↦ ⊎_elim (λ e. absurd (omega (arith, z, (member_place m s k l e).within))) (λ e. e) (either (on s k))
      | no g ↦ on_above m s k b (omega arith)
    ]

pub some_size : (m s : ℕ) → SomeOf m s → 1 ≤ size m s
some_size m s p =
    elim (dec_lt 0 (size m s)) as (λ _. 1 ≤ size m s) [
      | yes l ↦ l
      | no g ↦ absurd (omega (arith, p.filled, on_none s (none_in m s p.inside (omega arith))))
    ]

-- ---- the selected elements
selected_length_from : {A : Type 0} (s i : ℕ) (l : List A) → length (selected s i l) ≡ length (members s i (length l))
unfolding selected members
selected_length_from s i [] = refl
selected_length_from s i (a ∷ l) =
    let later = selected_length_from s (suc i) l in
    ⊎_elim (λ e. rw e (ap suc later)) (λ e. rw e later) (either (on s i))

pub selected-length : {A : Type 0} (s : ℕ) (l : List A) → length (selected s 0 l) ≡ size (length l) s
selected-length s l = selected_length_from s 0 l

-- the elements of p are those of l at the numbers of ns, where the first has the number i
abbrev Taken : {A : Type 0} → List A → List ℕ → ℕ → List A → A → Type 0
Taken p ns i l a = (j : ℕ) → j < length ns → get_or p j a ≡ get_or l (get_or ns j 0 - i) a

past_first : {A : Type 0} (b : A) (l : List A) (i x : ℕ) (a : A) → suc i ≤ x → get_or l (x - suc i) a ≡ get_or (b ∷ l) (x - i) a
past_first b l i x a h =
    let e : suc (x - suc i) ≡ x - i = omega arith in
    ap (λ (n : ℕ). get_or (b ∷ l) n a) e

taken_past : {A : Type 0} (b : A) (l p : List A) (s i k : ℕ) (a : A)
    → Taken p (members s (suc i) k) (suc i) l a
    → Taken p (members s (suc i) k) i (b ∷ l) a
taken_past b l p s i k a t j h =
    t j h ∙ past_first b l i (get_or (members s (suc i) k) j 0) a (each_member s (suc i) k j h).from_start

taken_first : {A : Type 0} (b : A) (l p : List A) (ns : List ℕ) (i : ℕ) (a : A)
    → Taken p ns i (b ∷ l) a
    → Taken (b ∷ p) (i ∷ ns) i (b ∷ l) a
taken_first b l p ns i a t zero h =
    let e : 0 ≡ i - i = omega arith in
    ap (λ (n : ℕ). get_or (b ∷ l) n a) e
taken_first b l p ns i a t (suc j) h = t j (omega arith)

selected_at_from : {A : Type 0} (s i : ℕ) (l : List A) (a : A) → Taken (selected s i l) (members s i (length l)) i l a
unfolding selected members
selected_at_from s i [] a = λ j h. refl
selected_at_from s i (b ∷ l) a =
    let others = selected s (suc i) l in
    let later = taken_past b l others s i (length l) a (selected_at_from s (suc i) l a) in
    ⊎_elim (λ e. rw e (taken_first b l others (members s (suc i) (length l)) i a later)) (λ e. rw e later) (either (on s i))

pub selected_at : {A : Type 0} (s : ℕ) (l : List A) (j : ℕ) (a : A)
    → j < size (length l) s
    → get_or (selected s 0 l) j a ≡ get_or l (member_at (length l) s j) a
selected_at s l j a h =
    let e : member_at (length l) s j - 0 ≡ member_at (length l) s j = omega arith in
    selected_at_from s 0 l a j h ∙ ap (λ (n : ℕ). get_or l n a) e

pub selected-map : {A B : Type 0} (f : A → B) (s i : ℕ) (l : List A) → map f (selected s i l) ≡ selected s i (map f l)
unfolding selected
selected-map f s i [] = refl
selected-map {B = B} f s i (a ∷ l) =
    let later = selected-map f s (suc i) l in
    ⊎_elim (λ e. rw e (ap (λ (m : List B). f a ∷ m) later)) (λ e. rw e later) (either (on s i))

-- ---- the set of all
abbrev AllIn : ℕ → ℕ → ℕ → Type 0
AllIn s i k = (x : ℕ) → i ≤ x → x < i + k → on s x ≡ true

all-later : (s i k : ℕ) → AllIn s i (suc k) → AllIn s (suc i) k
all-later s i k h x l g = h x (omega arith) (omega arith)

all_size_from : (s i k : ℕ) → AllIn s i k → length (members s i k) ≡ k
unfolding members
all_size_from s i zero h = refl
all_size_from s i (suc k) h =
    rw (h i (omega arith) (omega arith)) (ap suc (all_size_from s (suc i) k (all-later s i k h)))

all_selected_from : {A : Type 0} (s i : ℕ) (l : List A) → AllIn s i (length l) → selected s i l ≡ l
unfolding selected
all_selected_from s i [] h = refl
all_selected_from {A = A} s i (a ∷ l) h =
    rw (h i (omega arith) (omega arith))
    (ap (λ (m : List A). a ∷ m) (all_selected_from s (suc i) l (all-later s i (length l) h)))

all_in : (m : ℕ) → AllIn (2 ^ m - 1) 0 m
all_in m x l g = on-ones m x (omega arith)

pub all-some : (m : ℕ) → 1 ≤ m → SomeOf m (2 ^ m - 1)
all-some m h =
    let some : 0 < 2 ^ m = pow_pos m in
    let two : 2 ^ 1 ≤ 2 ^ m = pow_mono h in
    record { inside = omega arith; filled = omega arith }

pub all-size : (m : ℕ) → size m (2 ^ m - 1) ≡ m
all-size m = all_size_from (2 ^ m - 1) 0 m (all_in m)

pub all-selected : {A : Type 0} (l : List A) → selected (2 ^ length l - 1) 0 l ≡ l
all-selected l = all_selected_from (2 ^ length l - 1) 0 l (all_in (length l))
