-- A few sets of outputs, as theorems about the definitions: each holds by computation. Assumes nothing.
use Rattle.std.specs.Prelude.{◌≡◌, refl, List, [], ◌∷◌, ℕ, zero, suc, ◌<◌, eqb}
use Rattle.std.proofs.Common.{arith}
use Rattle.bits.specs.Logic.{pick}
use Rattle.bits.specs.Digit.{on, digit}
use Rattle.subsets.specs.Subset.{selected, members, size, member_at, Earlier}
use Rattle.subsets.specs.Rank.{rank}

-- ---- the set of outputs 0, 2 and 3 is 1 + 4 + 8
members_of_13 : members 13 0 4 ≡ 0 ∷ 2 ∷ 3 ∷ []
unfolding members on digit
members_of_13 = refl

size_of_13 : size 4 13 ≡ 3
unfolding members on digit
size_of_13 = refl

second_of_13 : member_at 4 13 1 ≡ 2
unfolding members on digit
second_of_13 = refl

selected_by_13 : selected {A = ℕ} 13 0 (10 ∷ 11 ∷ 12 ∷ 13 ∷ []) ≡ 10 ∷ 12 ∷ 13 ∷ []
unfolding selected on digit
selected_by_13 = refl

-- of three outputs it has 0 and 2 alone
size_of_13_in_3 : size 3 13 ≡ 2
unfolding members on digit
size_of_13_in_3 = refl

-- ---- the six pairs of four outputs in order: 0 and 1, 0 and 2, 0 and 3, 1 and 2, 1 and 3, 2 and 3
same_below_1 : (s t : ℕ) → on s 0 ≡ on t 0 → (o : ℕ) → o < 1 → on s o ≡ on t o
same_below_1 s t e zero h = e
same_below_1 s t e (suc o) h = absurd (omega arith)

same_below_2 : (s t : ℕ) → on s 0 ≡ on t 0 → on s 1 ≡ on t 1 → (o : ℕ) → o < 2 → on s o ≡ on t o
same_below_2 s t e f zero h = e
same_below_2 s t e f (suc zero) h = f
same_below_2 s t e f (suc (suc o)) h = absurd (omega arith)

zero_one_before_zero_two : Earlier 3 5
unfolding on digit
zero_one_before_zero_two = record { place = 1; in_first = refl; not_in_second = refl; same_below = same_below_1 3 5 refl }

zero_two_before_zero_three : Earlier 5 9
unfolding on digit
zero_two_before_zero_three = record { place = 2; in_first = refl; not_in_second = refl; same_below = same_below_2 5 9 refl refl }

zero_three_before_one_two : Earlier 9 6
unfolding on digit
zero_three_before_one_two = record { place = 0; in_first = refl; not_in_second = refl; same_below = λ o h. absurd (omega arith) }

one_two_before_one_three : Earlier 6 10
unfolding on digit
one_two_before_one_three = record { place = 2; in_first = refl; not_in_second = refl; same_below = same_below_2 6 10 refl refl }

one_three_before_two_three : Earlier 10 12
unfolding on digit
one_three_before_two_three = record { place = 1; in_first = refl; not_in_second = refl; same_below = same_below_1 10 12 refl }

-- 0 and 2 before 1 and 2
zero_two_before_one_two : Earlier 5 6
unfolding on digit
zero_two_before_one_two = record { place = 0; in_first = refl; not_in_second = refl; same_below = λ o h. absurd (omega arith) }

-- the sets of k of m outputs with the ranks below r, the greatest rank first
unfoldable by_rank : ℕ → ℕ → ℕ → List ℕ
by_rank m k zero = []
by_rank m k (suc r) =
    let later = by_rank m k r in
    pick (eqb (size m (rank m r)) k) (rank m r ∷ later) later

pairs_of_four : by_rank 4 2 16 ≡ 3 ∷ 5 ∷ 9 ∷ 6 ∷ 10 ∷ 12 ∷ []
unfolding by_rank rank members on digit
pairs_of_four = refl

threes_of_four : by_rank 4 3 16 ≡ 7 ∷ 11 ∷ 13 ∷ 14 ∷ []
unfolding by_rank rank members on digit
threes_of_four = refl
