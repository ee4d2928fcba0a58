-- The loop that gives each input its digit, from the last input to the first. Assumes nothing.
use mathlib.Core.Path.{◌≡◌, sym, ap, subst, ◌∙◌}
use mathlib.Core.List.{List, [], map}
use Prim.Native.Nat.{ℕ, zero, suc, ◌+◌, ◌-◌, ◌≤◌, ◌<◌}
use native.Mathlib.Decide.{ℕ_discrete}
use native.Mathlib.Omega.{arith}
use lib.ListN.{length, get_or, set, drop, length-set, length-map, replicate, drop_of_length-le}
use lib.Seq.{get_or-set_same, get_or-set_other}
use Rattle.limits.specs.Limits.{max_inputs, max_bound}
use Rattle.names.specs.Name.{Name}
use Rattle.sheet.specs.Known.{position}
use Rattle.classes.specs.Columns.{free}
use Rattle.classes.specs.Proper.{Parted}
use Rattle.classes.specs.Seen.{PlaceIs, Small, DigitsAre, digit_of}
use Rattle.classes.specs.PlaceLaws.{digit_of_bound, digit_of_free, free_from_bound, free_from_free}

-- the digits of the inputs from i on, where next is the digit of the next free input
pub record PlacedFor (ns bs : List Name) (list : List ℕ) (next i : ℕ) : Type 0 where
  pub next_is : next ≡ length bs + length (free (drop i ns) bs)
  pub done : (k : ℕ) → i ≤ k → k < length ns → get_or list k 0 ≡ digit_of bs (free ns bs) (get_or ns k [])

pub record Placed (places : List ℕ) (n : ℕ) (list : List ℕ) (next i : ℕ) : Type 0 where
  pub size : length list ≡ max_inputs
  pub within : i ≤ n
  pub low : next ≤ length places + (n - i)
  pub small : Small list
  pub right : (ns bs : List Name) → Parted ns bs → length ns ≡ n → places ≡ map (position ns) bs → PlacedFor ns bs list next i

pub small-zeros : (n : ℕ) → Small (replicate n 0)
small-zeros n = record { each = zeros n }
  where
    zeros : (n i : ℕ) → get_or (replicate n 0) i 0 < 64
    zeros zero i = omega arith
    zeros (suc n) zero = omega arith
    zeros (suc n) (suc i) = zeros n i

small-set : {list : List ℕ} {i v : ℕ} → Small list → i < length list → v < 64 → Small (set list i v)
small-set {list} {i} {v} s h l =
    record {
      each = λ k.
          elim (ℕ_discrete k i) as (λ _. get_or (set list i v) k 0 < 64) [
            | yes e ↦ subst (λ (x : ℕ). x < 64) (sym (ap (λ (j : ℕ). get_or (set list i v) j 0) e ∙ get_or-set_same list i v 0 h)) l
            | no g ↦ subst (λ (x : ℕ). x < 64) (sym (get_or-set_other list i k v 0 g)) (s.each k)
          ];
    }

pub placed_none : {places : List ℕ} {n : ℕ} {list : List ℕ} → length list ≡ max_inputs → Small list → Placed places n list (length places) n
unfolding free
placed_none {places} {n} {list} e s =
    record {
      size = e;
      within = omega arith;
      low = omega arith;
      small = s;
      right = λ ns bs p k q.
          let count : length places ≡ length bs = ap length q ∙ length-map bs (position ns) in
          let end : drop n ns ≡ [] = drop_of_length-le ns {i = n} (omega arith) in
          record {
            next_is = rw end (omega arith);
            done = λ j a b. absurd (omega arith);
          };
    }

module _ {places : List ℕ} {n : ℕ} {list : List ℕ} {next i j : ℕ} (s : Placed places n list next i) (m : n ≤ max_inputs)
    (pos : 0 < i) (at : PlaceIs places (i - 1) j) where
  -- the digit d of input i - 1 is stored, and the others stay
  store : (ns bs : List Name) (d next' : ℕ) → length ns ≡ n → PlacedFor ns bs list next i
      → next' ≡ length bs + length (free (drop (i - 1) ns) bs) → d ≡ digit_of bs (free ns bs) (get_or ns (i - 1) [])
      → PlacedFor ns bs (set list (i - 1) d) next' (i - 1)
  store ns bs d next' k f e g =
      let size : length list ≡ max_inputs = s.size in
      let within : i ≤ n = s.within in
      record {
        next_is = e;
        done = λ z a b.
            elim (ℕ_discrete z (i - 1)) as (λ _. get_or (set list (i - 1) d) z 0 ≡ digit_of bs (free ns bs) (get_or ns z [])) [
              | yes q ↦ (ap (λ (y : ℕ). get_or (set list (i - 1) d) y 0) q ∙ get_or-set_same list (i - 1) d 0 (omega arith) ∙ g
                  ∙ ap (λ (y : ℕ). digit_of bs (free ns bs) (get_or ns y [])) (sym q))
              | no q ↦ (get_or-set_other list (i - 1) z d 0 q ∙ f.done z (omega arith) b)
            ];
      }

  -- the input is bound
  pub placed_bound : length places ≤ max_bound → j < length places → Placed places n (set list (i - 1) (length places - 1 - j)) next (i - 1)
  placed_bound few h =
      let size : length list ≡ max_inputs = s.size in
      let within : i ≤ n = s.within in
      let low : next ≤ length places + (n - i) = s.low in
      record {
        size = length-set list (i - 1) (length places - 1 - j) ∙ size;
        within = omega arith;
        low = omega arith;
        small = small-set s.small (omega arith) (omega arith);
        right = λ ns bs p k q.
            let count : length places ≡ length bs = ap length q ∙ length-map bs (position ns) in
            let f : PlacedFor ns bs list next i = s.right ns bs p k q in
            let here : PlaceIs (map (position ns) bs) (i - 1) j = subst (λ (l : List ℕ). PlaceIs l (i - 1) j) q at in
            let up : suc (i - 1) ≡ i = omega arith in
            let same : length (free (drop (i - 1) ns) bs) ≡ length (free (drop i ns) bs)
            = free_from_bound ns bs p (i - 1) (omega arith) j here (omega arith)
            ∙ ap (λ (y : ℕ). length (free (drop y ns) bs)) up in
            store ns bs (length places - 1 - j) next k f (f.next_is ∙ ap (λ (y : ℕ). length bs + y) (sym same))
            (ap (λ (y : ℕ). y - 1 - j) count ∙ sym (digit_of_bound ns bs p (i - 1) (omega arith) j here (omega arith)));
      }

  -- the input is free
  pub placed_free : length places ≤ max_bound → length places ≤ j → Placed places n (set list (i - 1) next) (next + 1) (i - 1)
  placed_free few h =
      let size : length list ≡ max_inputs = s.size in
      let within : i ≤ n = s.within in
      let low : next ≤ length places + (n - i) = s.low in
      record {
        size = length-set list (i - 1) next ∙ size;
        within = omega arith;
        low = omega arith;
        small = small-set s.small (omega arith) (omega arith);
        right = λ ns bs p k q.
            let count : length places ≡ length bs = ap length q ∙ length-map bs (position ns) in
            let f : PlacedFor ns bs list next i = s.right ns bs p k q in
            let here : PlaceIs (map (position ns) bs) (i - 1) j = subst (λ (l : List ℕ). PlaceIs l (i - 1) j) q at in
            let up : suc (i - 1) ≡ i = omega arith in
            let digit = digit_of_free ns bs p (i - 1) (omega arith) j here (omega arith) in
            let was : next ≡ length bs + length (free (drop i ns) bs) = f.next_is in
            let later : length (free (drop (suc (i - 1)) ns) bs) ≡ length (free (drop i ns) bs)
            = ap (λ (y : ℕ). length (free (drop y ns) bs)) up in
            let more : length (free (drop (i - 1) ns) bs) ≡ suc (length (free (drop (suc (i - 1)) ns) bs))
            = free_from_free ns bs p (i - 1) (omega arith) digit.0 in
            let is : digit_of bs (free ns bs) (get_or ns (i - 1) []) ≡ length bs + length (free (drop (suc (i - 1)) ns) bs) = digit.1 in
            store ns bs next (next + 1) k f (omega arith) (omega arith);
      }

pub placed_all : {places : List ℕ} {n : ℕ} {list : List ℕ} {next i : ℕ} → Placed places n list next i → i ≤ 0 → DigitsAre places n list
placed_all s h =
    record {
      size = s.size;
      small = s.small;
      right = λ ns bs p k q i l. (s.right ns bs p k q).done i (omega arith) (omega arith);
    }
