-- Packing bytes from the last to the first: the number so far is that of the bytes passed, and it has room for one more.
-- Assumes nothing.
use mathlib.Core.Path.{◌≡◌, sym, ap, ap₂, subst, ◌∙◌}
use mathlib.Core.List.{List, ◌∷◌}
use Prim.Native.Nat.{ℕ, suc, ◌+◌, ◌-◌, ◌*◌, ◌^◌, ◌≤◌, ◌<◌}
use native.Mathlib.Omega.{arith}
use native.Mathlib.Nat.{pow-suc, pow-le-pow_right, lt_of_lt_of_le}
use lib.ListN.{length, get_or, take, drop}
use lib.Seq.{drop-cons}
use Rattle.names.specs.Pack.{pack}

pub record Packed (s : List ℕ) (a e v i : ℕ) : Type 0 where
  pub after-start : a ≤ i
  pub before_end : i ≤ e
  pub number : v ≡ pack (take (e - i) (drop i s))
  pub small : v < 256 ^ (e - i)

pub packed_none : (s : List ℕ) (a e : ℕ) → a ≤ e → Packed s a e 0 e
unfolding pack
packed_none s a e h =
    let none : e - e ≡ 0 = omega arith in
    record {
      after-start = h;
      before_end = omega arith;
      number = ap (λ (k : ℕ). pack (take k (drop e s))) (sym none);
      small = subst (λ (k : ℕ). 0 < 256 ^ k) (sym none) (omega arith);
    }

-- the bytes from j on are the byte at j and those after it
part-cons : (s : List ℕ) (e j : ℕ) → j < e → e ≤ length s → take (e - j) (drop j s) ≡ get_or s j 0 ∷ take (e - suc j) (drop (suc j) s)
part-cons s e j l h =
    let one : e - j ≡ suc (e - suc j) = omega arith in
    ap₂ (λ (k : ℕ) (x : List ℕ). take k x) one (drop-cons s j 0 (omega arith))

room_step : (p v b : ℕ) → v < p → b < 256 → v * 256 + b < p * 256
room_step p v b h g = omega arith

pack_before : {s : List ℕ} {a e v j : ℕ} → Packed s a e v (suc j) → a ≤ j → e ≤ length s → get_or s j 0 < 256 → Packed s a e (v * 256 + get_or s j 0) j
unfolding pack
pack_before {s} {a} {e} {v} {j} p l h g =
    let one : e - j ≡ suc (e - suc j) = omega arith in
    let turned : v * 256 + get_or s j 0 ≡ get_or s j 0 + 256 * v = omega arith in
    record {
      after-start = l;
      before_end = omega arith;
      number = turned ∙ ap (λ (m : ℕ). get_or s j 0 + 256 * m) p.number ∙ ap pack (sym (part-cons s e j p.before_end h));
      small =
          subst (λ (k : ℕ). v * 256 + get_or s j 0 < k) (sym (ap (λ (k : ℕ). 256 ^ k) one ∙ pow-suc 256 (e - suc j)))
          (room_step (256 ^ (e - suc j)) v (get_or s j 0) p.small g);
    }

pub packed_more : {s : List ℕ} {a e v i : ℕ} → Packed s a e v i → a < i → e ≤ length s → get_or s (i - 1) 0 < 256 → Packed s a e (v * 256 + get_or s (i - 1) 0) (i - 1)
packed_more {s} {a} {e} {v} {i} p l h g =
    let back : i ≡ suc (i - 1) = omega arith in
    pack_before (subst (λ (k : ℕ). Packed s a e v k) back p) (omega arith) h g

-- before the first byte at most 7 bytes are passed
pub packed_room : {s : List ℕ} {a e v i : ℕ} → Packed s a e v i → a < i → e ≤ a + 8 → v < 2 ^ 56
packed_room {s} {a} {e} {v} {i} p l h =
    let few : e - i ≤ 7 = omega arith in
    lt_of_lt_of_le p.small (pow-le-pow_right {n = 256} (omega arith) few)
