-- The code's answers for each number: the line's span in the number's sheet, or the design sheet's end; the part at such a place is
-- the line itself, and its length is the line's. Assumes nothing.
use Rattle.std.specs.Prelude.{◌≡◌, refl, Bool, true, false, List, ℕ, ◌+◌, ◌-◌, ◌≤◌, ◌<◌, length, take, drop}
use Rattle.std.proofs.Common.{sym, ap, ap₂, ◌∙◌, subst, arith}
use Rattle.std.specs.Borrow.{Bor}
use Rattle.locate.specs.Located.{Part, part_of, located, sheet_of}
use Rattle.locate.specs.Places.{SpanIs, RangeIs, LineIs, PlaceIs}
use Rattle.locate.specs.InsideLaws.{part_inside}
use Rattle.locate.specs.NumberLaws.{in_design, in_network, in_neither}

-- ---- by number
span_range : (b : Bool) (s : List ℕ) (l start end : ℕ) → SpanIs s l start end → RangeIs (part_of b s l) b start end
span_range b s l start end x = record { which = refl; starts = x.starts; ends = x.ends }

module _ (d t : List ℕ) (q l : ℕ) where
  pub range_design : (start end : ℕ) → 2 ≤ q → q < 6 → SpanIs d l start end → RangeIs (located d t q l) false start end
  range_design start end h i x =
      subst (λ (p : Part). RangeIs p false start end) (sym (in_design d t q l h i)) (span_range false d l start end x)

  pub range_network : (start end : ℕ) → 10 ≤ q → q < 12 → SpanIs t l start end → RangeIs (located d t q l) true start end
  range_network start end h i x =
      subst (λ (p : Part). RangeIs p true start end) (sym (in_network d t q l h i)) (span_range true t l start end x)

  pub range_neither : (2 ≤ q → q < 6 → ⊥) → (10 ≤ q → q < 12 → ⊥) → RangeIs (located d t q l) false (length d) (length d)
  range_neither h i =
      subst (λ (p : Part). RangeIs p false (length d) (length d)) (sym (in_neither d t q l h i))
      (record { which = refl; starts = refl; ends = omega arith })

-- ---- the part at such a place
module _ (d t : List ℕ) (q l : ℕ) (b : Bool) (start end : ℕ) (x : RangeIs (located d t q l) b start end) where
  pub range_rises : start ≤ end
  range_rises = let f = x.starts in let g = x.ends in omega arith

  pub range_within : (s : List ℕ) → sheet_of b d t ≡ s → end ≤ length s
  range_within s e =
      let sheet : sheet_of (located d t q l).second d t ≡ s = ap (λ (c : Bool). sheet_of c d t) (sym x.which) ∙ e in
      let i = (part_inside d t q l).within in
      let n : length (sheet_of (located d t q l).second d t) ≡ length s = ap length sheet in
      let g = x.ends in
      omega arith

-- the sheet's bytes, as a slice's or by themselves
bytes_of : (b : Bool) (d t : Bor (List ℕ)) → sheet_of b d.now t.now ≡ (sheet_of b d t).now
bytes_of true d t = refl
bytes_of false d t = refl

pub line_is : (d t s : Bor (List ℕ)) (q l : ℕ) (b : Bool) (start end : ℕ)
    → RangeIs (located d.now t.now q l) b start end
    → sheet_of b d t ≡ s
    → LineIs (located d.now t.now q l) d t
    (record { ref_ptr = (s.ref_ptr.0, start + s.ref_ptr.1); now = take (end - start) (drop start s.now) })
line_is d t s q l b start end x e =
    let p = located d.now t.now q l in
    let sheet : s ≡ sheet_of p.second d t = sym e ∙ ap (λ (c : Bool). sheet_of c d t) x.which in
    let bytes : s.now ≡ sheet_of p.second d.now t.now = ap (λ (r : Bor (List ℕ)). r.now) sheet ∙ sym (bytes_of p.second d t) in
    let f = x.starts in
    let g = x.ends in
    let many : end - start ≡ length p.text = omega arith in
    record {
      bytes =
          ap₂ (λ (n : ℕ) (u : List ℕ). take n (drop start u)) many bytes
          ∙ ap (λ (k : ℕ). take (length p.text) (drop k (sheet_of p.second d.now t.now))) f
          ∙ (part_inside d.now t.now q l).bytes;
      block = ap (λ (r : Bor (List ℕ)). r.ref_ptr.0) sheet;
      offset =
          let o : s.ref_ptr.1 ≡ (sheet_of p.second d t).ref_ptr.1 = ap (λ (r : Bor (List ℕ)). r.ref_ptr.1) sheet in
          omega arith;
    }

-- ---- its length
pub line_place : (p : Part) (d t r : Bor (List ℕ)) (b : Bool) (start end : ℕ)
    → LineIs p d t r
    → RangeIs p b start end
    → PlaceIs p b start (length r.now)
line_place p d t r b start end x y = record { which = y.which; starts = y.starts; counts = ap length x.bytes }
