-- Places of the bound inputs among the inputs: an input is bound where its number is one of those places, and then its
-- digit follows from where; the digit of a free input is the number of free inputs after it, above the vertex.
-- Assumes nothing.
use Rattle.std.specs.Prelude.{◌≡◌, refl, true, false, ℕ, zero, suc, ◌+◌, ◌-◌, ◌≤◌, ◌<◌, drop}
use Rattle.std.proofs.Common.{sym, ap, ◌∙◌, ⊎_elim, arith, drop-cons}
use mathlib.Core.List.{List, [], ◌∷◌, map}
use Rattle.std.proofs.Math.ListN.{length, get_or, length-map}
use Rattle.bits.specs.LogicLaws.{either, false_unless}
use Rattle.names.specs.Name.{Name, same_name, among, distinct}
use Rattle.names.specs.Spelled.{spelled_by}
use Rattle.names.specs.SameLaws.{same_name_self, same_name_back, among_same}
use Rattle.names.specs.SpelledLaws.{spelled_same}
use Rattle.names.specs.LookupLaws.{look_first}
use Rattle.sheet.specs.Known.{position}
use Rattle.sheet.specs.PlaceLaws.{position_same}
use Rattle.classes.specs.Columns.{free}
use Rattle.classes.specs.Proper.{Parted}
use Rattle.classes.specs.Seen.{PlaceIs, from_last, digit_of}
use Rattle.classes.specs.FreeLaws.{among_at, distinct-later, first_another, bound_input, free_bound, free_unbound}
use Rattle.classes.specs.PositionLaws.{position_at, at_position}
use Rattle.classes.specs.DigitLaws.{digit_if_bound, digit_if_free}

-- ---- names by their place in a list
pub map_at : (f : Name → ℕ) (l : List Name) (j : ℕ) → j < length l → get_or (map f l) j 0 ≡ f (get_or l j [])
map_at f [] j h = absurd (omega arith)
map_at f (n ∷ l) zero h = refl
map_at f (n ∷ l) (suc j) h = map_at f l j (omega arith)

none_among : (bs : List Name) (n : Name) → ((k : ℕ) → k < length bs → same_name (get_or bs k []) n ≡ true → ⊥) → among n bs ≡ false
unfolding among
none_among [] n h = refl
none_among (b ∷ bs) n h =
    rw (false_unless (same_name b n) (h 0 (omega arith))) (none_among bs n (λ k l. h (suc k) (omega arith)))

-- the digit of a free input
free_from_last : (ns bs : List Name) (i : ℕ) → distinct ns ≡ true → i < length ns → among (get_or ns i []) bs ≡ false
    → from_last (free ns bs) (get_or ns i []) ≡ length (free (drop (suc i) ns) bs)
unfolding from_last
free_from_last [] bs i e l h = absurd (omega arith)
free_from_last (n ∷ ns) bs zero e l h = rw (free_unbound n ns bs h, same_name_self n)
free_from_last (n ∷ ns) bs (suc i) e l h =
    let later : from_last (free ns bs) (get_or ns i []) ≡ length (free (drop (suc i) ns) bs)
    = free_from_last ns bs i (distinct-later n ns e) (omega arith) h in
    ⊎_elim
    (λ q. rw (free_bound n ns bs q) later)
    (λ q. rw (free_unbound n ns bs q, first_another n (get_or ns i []) ns e (among_at ns i (omega arith))) later)
    (either (among n bs))

module _ (ns bs : List Name) (p : Parted ns bs) (i : ℕ) (l : i < length ns) where
  -- a bound name at input i's place is input i, and the other way round
  place_name : (j : ℕ) → j < length bs → get_or (map (position ns) bs) j 0 ≡ i → same_name (get_or bs j []) (get_or ns i []) ≡ true
  place_name j h e =
      let b : Name = get_or bs j [] in
      let n : Name = get_or ns i [] in
      let spelled : n ≡ spelled_by ns b
      = ap (λ (k : ℕ). get_or ns k []) (sym e ∙ map_at (position ns) bs j h)
      ∙ at_position ns b (bound_input ns bs p b (among_at bs j h)) in
      same_name_back b n ∙ ap (λ (m : Name). same_name m b) spelled ∙ spelled_same ns b

  name_place : (j : ℕ) → j < length bs → same_name (get_or bs j []) (get_or ns i []) ≡ true → get_or (map (position ns) bs) j 0 ≡ i
  name_place j h e =
      map_at (position ns) bs j h
      ∙ position_same ns (get_or bs j []) (get_or ns i []) e
      ∙ position_at ns i p.inputs_distinct l

  place_bound : (j : ℕ) → j < length bs → get_or (map (position ns) bs) j 0 ≡ i → among (get_or ns i []) bs ≡ true
  place_bound j h e = sym (among_same (get_or bs j []) (get_or ns i []) (place_name j h e) bs) ∙ among_at bs j h

  pub digit_of_bound : (j : ℕ) → PlaceIs (map (position ns) bs) i j → j < length bs
      → digit_of bs (free ns bs) (get_or ns i []) ≡ length bs - 1 - j
  unfolding from_last
  digit_of_bound j q h =
      let n : Name = get_or ns i [] in
      let count : length (map (position ns) bs) ≡ length bs = length-map bs (position ns) in
      let there : get_or (map (position ns) bs) j 0 ≡ i = q.there (omega arith) in
      digit_if_bound bs (free ns bs) n (place_bound j h there)
      ∙ look_first n (λ ms. from_last ms n) (λ k. k) (λ m ms. refl) bs j h (place_name j h there)
      (λ k g. false_unless (same_name (get_or bs k []) n) (λ e. q.not_before k g (name_place k (omega arith) e)))

  pub digit_of_free : (j : ℕ) → PlaceIs (map (position ns) bs) i j → length bs ≤ j
      → (among (get_or ns i []) bs ≡ false) × (digit_of bs (free ns bs) (get_or ns i []) ≡ length bs + length (free (drop (suc i) ns) bs))
  digit_of_free j q h =
      let n : Name = get_or ns i [] in
      let unbound : among n bs ≡ false
      = none_among bs n (λ k g e. q.not_before k (omega arith) (name_place k g e)) in (
        unbound,
        digit_if_free bs (free ns bs) n unbound
            ∙ ap (λ (k : ℕ). length bs + k) (free_from_last ns bs i p.inputs_distinct l unbound),
      )

  -- free inputs from input i on
  pub free_from_bound : (j : ℕ) → PlaceIs (map (position ns) bs) i j → j < length bs
      → length (free (drop i ns) bs) ≡ length (free (drop (suc i) ns) bs)
  free_from_bound j q h =
      let count : length (map (position ns) bs) ≡ length bs = length-map bs (position ns) in
      let bound : among (get_or ns i []) bs ≡ true = place_bound j h (q.there (omega arith)) in
      ap (λ (ms : List Name). length (free ms bs)) (drop-cons ns i [] l)
      ∙ ap length (free_bound (get_or ns i []) (drop (suc i) ns) bs bound)

  pub free_from_free : among (get_or ns i []) bs ≡ false → length (free (drop i ns) bs) ≡ suc (length (free (drop (suc i) ns) bs))
  free_from_free unbound =
      ap (λ (ms : List Name). length (free ms bs)) (drop-cons ns i [] l)
      ∙ ap length (free_unbound (get_or ns i []) (drop (suc i) ns) bs unbound)
