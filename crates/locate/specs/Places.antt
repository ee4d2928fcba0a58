-- What the code answers: a part by where it starts and ends, the part itself, and the part by its start and its length (clause 11.8). Assumes nothing.
use Rattle.std.specs.Prelude.{◌≡◌, Bool, true, false, List, ℕ, ◌+◌, ◌≤◌, length, take, drop}
use Rattle.std.specs.Borrow.{Bor}
use Rattle.locate.specs.declared.Sheet.{Sheet}
use Rattle.locate.specs.Located.{Part, start_of, text_of, sheet_of}

-- whether a sheet is the second one
abbrev pub is_network : Sheet → Bool
is_network Sheet.Design = false
is_network Sheet.Network = true

-- line l of a text
pub record SpanIs (t : List ℕ) (l start end : ℕ) : Type 0 where
  pub starts : start ≡ start_of t l
  pub ends : end ≡ start_of t l + length (text_of t l)

-- a part of one of two sheets
pub record RangeIs (p : Part) (second : Bool) (start end : ℕ) : Type 0 where
  pub which : second ≡ p.second
  pub starts : start ≡ p.start
  pub ends : end ≡ p.start + length p.text

-- the same by its length
pub record PlaceIs (p : Part) (second : Bool) (start count : ℕ) : Type 0 where
  pub which : second ≡ p.second
  pub starts : start ≡ p.start
  pub counts : count ≡ length p.text

-- a part lies in its sheet
pub record Inside (s : List ℕ) (p : Part) : Type 0 where
  pub within : p.start + length p.text ≤ length s
  pub bytes : take (length p.text) (drop p.start s) ≡ p.text

-- the part itself, of the slice d or the slice t: its bytes, and where it starts
pub record LineIs (p : Part) (d t r : Bor (List ℕ)) : Type 0 where
  pub bytes : r.now ≡ p.text
  pub block : r.ref_ptr.0 ≡ (sheet_of p.second d t).ref_ptr.0
  pub offset : r.ref_ptr.1 ≡ (sheet_of p.second d t).ref_ptr.1 + p.start
