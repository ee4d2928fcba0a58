-- The items of a list, one after the other: a space stands before each but the first. Assumes nothing.
use Rattle.std.specs.Prelude.{◌≡◌, Bool, true, false, List, [], ◌∷◌, ◌++◌, map, ℕ, ◌+◌, ◌*◌, ◌≤◌, ◌<◌, eqb, length, take, get_or}
use Rattle.std.proofs.Common.{sym, ap, ◌∙◌, append-nil, append_assoc, arith, length-take-le, ne_eqb}
use Rattle.std.proofs.lemmas.List.{map-append, length-map}
use Rattle.names.specs.Pack.{name_of}
use Rattle.network.specs.Printer.{led, led_all}
use Rattle.emit.specs.Written.{item_room, Written}
use Rattle.emit.specs.PutLaws.{put_none, put_next, put_same, taken_more, taken_all}

led-later : (l : List (List ℕ)) (x : List ℕ) → led_all false (l ++ (x ∷ [])) ≡ led_all false l ++ led false x
unfolding led_all
led-later [] x = append-nil (led false x)
led-later (y ∷ l) x = ap (λ (t : List ℕ). led false y ++ t) (led-later l x) ∙ sym (append_assoc (led false y) (led_all false l) (led false x))

led-last : (l : List (List ℕ)) (x : List ℕ) → led_all true l ++ led (eqb (length l) 0) x ≡ led_all true (l ++ (x ∷ []))
unfolding led_all
led-last [] x = sym (append-nil x)
led-last (y ∷ l) x =
    ap (λ (t : Bool). (y ++ led_all false l) ++ led t x) (ne_eqb (length (y ∷ l)) 0 (λ e. omega arith))
    ∙ append_assoc y (led_all false l) (led false x) ∙ ap (λ (t : List ℕ). y ++ t) (sym (led-later l x))

-- the names up to i are put down
pub record Listing (ns : List ℕ) (a b : List ℕ) (at p i : ℕ) : Type 0 where
  pub within : i ≤ length ns
  pub so_far : Written (item_room * i) a b at p (led_all true (map name_of (take i ns)))

items_more : (ns : List ℕ) (i : ℕ) → i < length ns
    → led_all true (map name_of (take i ns)) ++ led (eqb i 0) (name_of (get_or ns i 0)) ≡ led_all true (map name_of (take (i + 1) ns))
items_more ns i l =
    let count : length (map name_of (take i ns)) ≡ i = length-map (take i ns) name_of ∙ length-take-le i ns (omega arith) in
    ap (λ (k : ℕ). led_all true (map name_of (take i ns)) ++ led (eqb k 0) (name_of (get_or ns i 0))) (sym count)
    ∙ led-last (map name_of (take i ns)) (name_of (get_or ns i 0))
    ∙ ap (led_all true) (sym (map-append name_of (take i ns) (get_or ns i 0 ∷ [])) ∙ ap (map name_of) (taken_more ns i l))

pub listing_more : {ns a b e : List ℕ} {at p q i : ℕ} → Listing ns a b at p i → i < length ns
    → Written item_room b e p q (led (eqb i 0) (name_of (get_or ns i 0))) → Listing ns a e at q (i + 1)
listing_more {ns} {i = i} n l w =
    record { within = omega arith; so_far = put_next n.so_far w (items_more ns i l) (omega arith) }

pub listing_none : (ns a : List ℕ) (at : ℕ) → Listing ns a a at at 0
unfolding led_all
listing_none ns a at = record { within = omega arith; so_far = put_none a at }

pub listing_all : {ns a b : List ℕ} {at p i : ℕ} → Listing ns a b at p i → length ns ≤ i
    → Written (item_room * length ns) a b at p (led_all true (map name_of ns))
listing_all {ns} {i = i} n l =
    let w : i ≤ length ns = n.within in
    put_same n.so_far (ap (λ (t : List ℕ). led_all true (map name_of t)) (taken_all ns i l)) (omega arith)
