-- The names of a proper design that its sheet holds: the name at a name's place is the name, so the names at the places of the
-- bound inputs are theirs. Assumes nothing.
use Rattle.std.specs.Prelude.{◌≡◌, refl, true, List, [], ◌∷◌, map, ℕ, ◌<◌, length, get_or, take}
use Rattle.std.proofs.Common.{sym, ap, ap₂, ◌∙◌, arith, get_or-take}
use Rattle.std.proofs.Math.ListN.{get_or-map}
use Rattle.bits.specs.LogicLaws.{and_left, and_right}
use Rattle.names.specs.Name.{Name, distinct}
use Rattle.names.specs.Pack.{unpack_within, name_of}
use Rattle.names.specs.Spelled.{stands_in, all_stand_in}
use Rattle.names.specs.StandLaws.{stands_among}
use Rattle.sheet.specs.Examine.{Design}
use Rattle.sheet.specs.Known.{position, Holds}
use Rattle.sheet.specs.declared.Sheet.{Sheet}
use Rattle.classes.specs.Proper.{Proper}
use Rattle.classes.specs.PositionLaws.{own_position, position-lt}
use Rattle.network.specs.Shown.{item}

-- ---- names held as numbers
pub held_name : (vs : List ℕ) (n p : ℕ) → p < n → name_of (get_or vs p 0) ≡ get_or (map name_of (take n vs)) p []
unfolding name_of unpack_within
held_name vs n p l = ap name_of (sym (get_or-take n vs p 0 l)) ∙ sym (get_or-map name_of (take n vs) p 0)

-- ---- the names at the places of names that stand among the inputs are these names
names_placed : (vs : List ℕ) (k : ℕ) (ns bs : List Name)
    → map name_of (take k vs) ≡ ns
    → length ns ≡ k
    → distinct ns ≡ true
    → all_stand_in bs ns ≡ true
    → map (λ (p : ℕ). name_of (get_or vs p 0)) (map (position ns) bs) ≡ bs
unfolding all_stand_in
names_placed vs k ns [] e c d h = refl
names_placed vs k ns (b ∷ bs) e c d h =
    let stands : stands_in b ns ≡ true = and_left (stands_in b ns) (all_stand_in bs ns) h in
    let below : position ns b < length ns = position-lt ns b (stands_among b ns stands) in
    ap₂ (λ (a : Name) (l : List Name). a ∷ l)
    (held_name vs k (position ns b) (omega arith)
    ∙ ap (λ (l : List Name). get_or l (position ns b) []) e
    ∙ own_position ns b d stands)
    (names_placed vs k ns bs e c d (and_right (stands_in b ns) (all_stand_in bs ns) h))

pub bound-named : (d : Design) (k : Sheet) → Holds d k → Proper d → map (λ (p : ℕ). name_of (item k.names p)) (take k.bounds k.bound) ≡ d.bound
bound-named d k h proper =
    ap (map (λ (p : ℕ). name_of (item k.names p))) h.bound_placed
    ∙ names_placed k.names k.inputs d.inputs d.bound h.inputs_named (sym h.inputs_counted)
    proper.parted.inputs_distinct proper.parted.bound_inputs
