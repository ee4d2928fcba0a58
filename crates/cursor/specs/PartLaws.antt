-- The part of a text from a place up to another: its length, and its first byte. Assumes nothing.
use Rattle.std.specs.Prelude.{◌≡◌, refl, List, ◌∷◌, ℕ, suc, ◌-◌, ◌≤◌, ◌<◌, length, get_or, take, drop}
use Rattle.std.proofs.Common.{arith, length-drop, drop-cons, length-take-le}

pub part_length : (s : List ℕ) (a e : ℕ) → a ≤ e → e ≤ length s → length (take (e - a) (drop a s)) ≡ e - a
part_length s a e h g = length-take-le (e - a) (drop a s) (simp length-drop (omega arith))

pub part-cons : (s : List ℕ) (a e : ℕ)
    → a < e → e ≤ length s → take (e - a) (drop a s) ≡ get_or s a 0 ∷ take (e - suc a) (drop (suc a) s)
part-cons s a e h g =
    let k : e - a ≡ suc (e - suc a) = omega arith in
    rw (k, drop-cons s a 0 (omega arith)) refl
