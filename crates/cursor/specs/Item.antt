-- What the cursor's methods answer, by the definitions: an item with the text after the moved cursor, or no such item.
-- Assumes nothing.
use Rattle.std.specs.Prelude.{◌≡◌, List, map, ℕ, ◌≤◌, length, take, drop, Option, Some, None}
use Rattle.text.specs.Bytes.{Read, found, bad}
use Rattle.limits.specs.Limits.{max_inputs}
use Rattle.names.specs.Name.{Name}
use Rattle.names.specs.Pack.{name_of}
use Rattle.cursor.specs.Opening as spec
use Rattle.cursor.specs.declared.Cursor.{Cursor}
use Rattle.cursor.specs.declared.Gate.{Gate}
use Rattle.cursor.specs.declared.Opening.{Opening}
use Rattle.cursor.specs.declared.NameList.{NameList}

-- the text from a cursor on
abbrev pub from : List ℕ → Cursor → List ℕ
from s c = drop c.at s

-- an item of the code and the text after it, by what the item means
pub record At {A : Type 0} (s : List ℕ) (a : A) (c : Cursor) (r : Read A) : Type 0 where
  pub inside : c.at ≤ length s
  pub is : found a (from s c) ≡ r

abbrev pub MovedIs : List ℕ → Option Cursor → Read (Unit {0}) → Type 0
MovedIs s (Some c) r = At s tt c r
MovedIs s None r = bad ≡ r

abbrev pub NumberIs : List ℕ → Option (ℕ × Cursor) → Read ℕ → Type 0
NumberIs s (Some p) r = At s p.0 p.1 r
NumberIs s None r = bad ≡ r

abbrev pub NameIs : List ℕ → Option (ℕ × Cursor) → Read Name → Type 0
NameIs s (Some p) r = At s (name_of p.0) p.1 r
NameIs s None r = bad ≡ r

abbrev pub gate_of : Gate → spec.Gate
gate_of Gate.And = spec.and_gate
gate_of Gate.Or = spec.or_gate
gate_of Gate.Xor = spec.xor_gate

abbrev pub OpeningIs : List ℕ → Option Opening → Read spec.Opening → Type 0
OpeningIs s (Some (Opening.Name v c)) r = At s (spec.name-opens (name_of v)) c r
OpeningIs s (Some (Opening.Digit b c)) r = At s (spec.digit-opens b) c r
OpeningIs s (Some (Opening.Not c)) r = At s spec.not-opens c r
OpeningIs s (Some (Opening.Gate g c)) r = At s (spec.gate_opens (gate_of g)) c r
OpeningIs s None r = bad ≡ r

-- the names ns, of which the code keeps the first ten
pub record Kept (ns : List Name) (count : ℕ) (kept : List ℕ) : Type 0 where
  pub counted : count ≡ length ns
  pub held : length ns ≤ max_inputs → map name_of (take count kept) ≡ ns

-- a list of the code, by the names ns and the text t after it
pub record ListAt (s : List ℕ) (l : NameList) (ns : List Name) (t : List ℕ) : Type 0 where
  pub inside : l.next.at ≤ length s
  pub rest : from s l.next ≡ t
  pub kept : Kept ns l.count l.names

abbrev pub NamesAre : List ℕ → Option NameList → Read (List Name) → Type 0
NamesAre s (Some l) (found ns t) = ListAt s l ns t
NamesAre s (Some l) bad = ⊥
NamesAre s None r = bad ≡ r
