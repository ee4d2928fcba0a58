-- Names in a row: one name more at the end. Assumes nothing.
use Rattle.std.specs.Prelude.{◌≡◌, List, [], ◌∷◌, ◌++◌, map, ℕ, ◌+◌, ◌≤◌, ◌<◌, length, take, get_or, set}
use Rattle.std.proofs.Common.{sym, ap, ap₂, ◌∙◌, append_assoc, append-nil, arith, add-one, take-suc, take-suc-set}
use Rattle.std.proofs.lemmas.List.{map-append}
use Rattle.std.proofs.Math.ListN.{get_or-eq_default}
use Rattle.names.specs.Pack.{name_of}

pub named_more : (list : List ℕ) (at v : ℕ) → at < length list
    → map name_of (take (at + 1) (set list at v)) ≡ map name_of (take at list) ++ (name_of v ∷ [])
named_more list at v l =
    rw add-one (ap (map name_of) (take-suc-set list at v l) ∙ map-append name_of (take at list) (v ∷ []))

-- the front of a list, one element more
pub front_more : {A : Type 0} (f : ℕ → A) (list : List ℕ) (i : ℕ) → i < length list
    → map f (take i list) ++ (f (get_or list i 0) ∷ []) ≡ map f (take (i + 1) list)
front_more f list i l =
    sym (map-append f (take i list) (get_or list i 0 ∷ []))
    ∙ ap (map f) (sym (take-suc list i 0 l) ∙ ap (λ (k : ℕ). take k list) (sym (add-one i)))

-- ---- rows of names that grow by one name a turn
pub record Growing {A : Type 0} (f : ℕ → A) (before : List A) (list : List ℕ) (n i : ℕ) (now : List A) : Type 0 where
  pub within : i ≤ n
  pub grown : now ≡ before ++ map f (take i list)

module _ {A : Type 0} {f : ℕ → A} {before : List A} {list : List ℕ} {n : ℕ} where
  pub growing_none : {now : List A} → now ≡ before → Growing f before list n 0 now
  growing_none e = record { within = omega arith; grown = e ∙ sym (append-nil before) }

  pub growing_more : {i : ℕ} {now later : List A} {x : A} → Growing f before list n i now → i < n → n ≤ length list
      → later ≡ now ++ (x ∷ []) → x ≡ f (get_or list i 0) → Growing f before list n (i + 1) later
  growing_more {i} {now} {later} {x} g l few e v =
      record {
        within = omega arith;
        grown = e ∙ ap₂ (λ (a : List A) (b : A). a ++ (b ∷ [])) g.grown v
            ∙ append_assoc before (map f (take i list)) (f (get_or list i 0) ∷ [])
            ∙ ap (λ (t : List A). before ++ t) (front_more f list i (omega arith));
      }

  pub growing_all : {i : ℕ} {now : List A} → Growing f before list n i now → n ≤ i → now ≡ before ++ map f (take n list)
  growing_all {i} g l =
      let w : i ≤ n = g.within in
      let e : i ≡ n = omega arith in
      g.grown ∙ ap (λ (k : ℕ). before ++ map f (take k list)) e

pub past_default : (l : List ℕ) (p : ℕ) → length l ≤ p → 0 ≡ get_or l p 0
past_default l p h = sym (get_or-eq_default l 0 h)
