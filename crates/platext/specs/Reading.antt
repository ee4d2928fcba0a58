-- What the code holds of a PLA text, by the definitions. Assumes nothing.
use Rattle.std.specs.Prelude.{◌≡◌, true, false, not, ◌||◌, List, [], ◌∷◌, ℕ, ◌+◌, ◌-◌, ◌≤◌, ◌<◌, length, take, drop, Some, None, Result, Ok, Err}
use Rattle.std.specs.Prelude as code
use Rattle.std.proofs.Math.Option.{Option, some, none}
use Rattle.text.specs.Line.{lines, ends_line, is_last}
use Rattle.names.specs.Name.{Name}
use Rattle.cursor.specs.declared.NameList.{NameList}
use Rattle.sheet.specs.Known.{Listed}
use Rattle.cubes.specs.Cube.{Cube}
use Rattle.cubes.specs.Spelled.{CubeWritten}
use Rattle.platext.specs.Lines.{first_cube, read_count, read_named}
use Rattle.platext.specs.Text.{Pla, Answer, bad_line, pla, Head, next_line, read_cubes, read_lines}
use Rattle.platext.specs.declared.Header.{Header}
use Rattle.platext.specs.declared.PlaText.{PlaText}

-- ---- the line at a place
-- it ends in the 0x0A at e
pub record LineHere (s : List ℕ) (at e : ℕ) : Type 0 where
  pub after-start : at ≤ e
  pub inside : e < length s
  pub is : lines (drop at s) ≡ take (e - at) (drop at s) ∷ lines (drop (e + 1) s)
  pub ended : ends_line s || not (is_last (lines (drop (e + 1) s))) ≡ true

-- there is none, or no 0x0A ends it
pub data NoLine (s : List ℕ) (at : ℕ) : Type 0 where
  none_left : lines (drop at s) ≡ [] → NoLine s at
  open_line : (l : List ℕ) → lines (drop at s) ≡ l ∷ [] → ends_line s ≡ false → NoLine s at

abbrev pub NextIs : List ℕ → ℕ → code.Option ℕ → Type 0
NextIs s at (Some e) = LineHere s at e
NextIs s at None = NoLine s at

-- the line at a place is read as a, and the next one stands at `next`; or it is bad
pub record Passed {A : Type 0} (s : List ℕ) (at : ℕ) (read : List ℕ → Option A) (a : A) (next : ℕ) : Type 0 where
  pub inside : next ≤ length s
  pub is : (n : ℕ) (onward : A → List (List ℕ) → Answer)
      → next_line (ends_line s) n read onward (lines (drop at s)) ≡ onward a (lines (drop next s))

pub record Stopped {A : Type 0} (s : List ℕ) (at : ℕ) (read : List ℕ → Option A) : Type 0 where
  pub is : (n : ℕ) (onward : A → List (List ℕ) → Answer) → next_line (ends_line s) n read onward (lines (drop at s)) ≡ bad_line n

-- ---- the lines before the cubes
abbrev pub CountIs : Option ℕ → code.Option ℕ → Type 0
CountIs x (Some n) = x ≡ some n
CountIs x None = x ≡ none

-- the number and the place of the next line
abbrev pub CountLineIs : List ℕ → ℕ → List ℕ → ℕ → code.Option (ℕ × ℕ) → Type 0
CountLineIs s at w low (Some r) = Passed s at (read_count w low) r.0 r.1
CountLineIs s at w low None = Stopped s at (read_count w low)

pub record NamesHere (s : List ℕ) (at : ℕ) (w : List ℕ) (n : ℕ) (l : NameList) (next : ℕ) : Type 0 where
  pub names : List Name
  pub listed : Listed names l
  pub passed : Passed s at (read_named w n) names next

-- the names and the place of the next line
abbrev pub NamedLineIs : List ℕ → ℕ → List ℕ → ℕ → code.Option (NameList × ℕ) → Type 0
NamedLineIs s at w n (Some r) = NamesHere s at w n r.0 r.1
NamedLineIs s at w n None = Stopped s at (read_named w n)

pub record HeadHere (s : List ℕ) (r : Header) : Type 0 where
  pub head : Head
  pub inputs_listed : Listed head.inputs r.inputs
  pub outputs_listed : Listed head.outputs r.outputs
  pub cubes_counted : head.cubes ≡ r.cubes
  pub inside : r.next ≤ length s
  pub is : read_lines (ends_line s) (lines s) ≡ read_cubes (ends_line s) head [] first_cube (lines (drop r.next s))

abbrev pub HeadIs : List ℕ → Result Header ℕ → Type 0
HeadIs s (Ok h) = HeadHere s h
HeadIs s (Err n) = read_lines (ends_line s) (lines s) ≡ bad_line n

-- ---- the cubes
-- a cube of i literals and o marks stands at a place, and 0x0A after it
pub record CubeHere (s : List ℕ) (i o at : ℕ) (c : Cube) : Type 0 where
  pub inside : at + (i + 1 + o) < length s
  pub written : CubeWritten i o (take (i + 1 + o) (drop at s)) c

-- cubes stand one after another from a place up to e
abbrev pub Stand : List ℕ → ℕ → ℕ → ℕ → List Cube → ℕ → Type 0
Stand s i o at [] e = (at ≡ e) × (e ≤ length s)
Stand s i o at (c ∷ cs) e = CubeHere s i o at c × Stand s i o (at + (i + 1 + o) + 1) cs e

pub record Fits (i o p : ℕ) (h : Head) : Type 0 where
  pub inputs_counted : length h.inputs ≡ i
  pub outputs_counted : length h.outputs ≡ o
  pub cubes_counted : h.cubes ≡ p

pub record Said (s : List ℕ) (at : ℕ) (h : Head) (x : Pla) : Type 0 where
  pub inputs_same : x.inputs ≡ h.inputs
  pub outputs_same : x.outputs ≡ h.outputs
  pub counted : length x.cubes ≡ h.cubes
  pub end : ℕ
  pub stand : Stand s (length h.inputs) (length h.outputs) at x.cubes end

-- the first bad line, or what the text says
abbrev pub CubesAre : List ℕ → ℕ → Head → Answer → Result (Unit {0}) ℕ → Type 0
CubesAre s at h a (Err n) = a ≡ bad_line n
CubesAre s at h (bad_line n) (Ok u) = ⊥
CubesAre s at h (pla x) (Ok u) = Said s at h x

-- the last line, which ends at e and has the number n, after so many cubes where there are to be p: wrong by the number of cubes,
-- or by what comes after it
pub record LastIs (s : List ℕ) (e n cubes p : ℕ) (r : Result (Unit {0}) ℕ) : Type 0 where
  pub other-count : (cubes ≡ p → ⊥) → r ≡ Err n
  pub more_text : cubes ≡ p → e + 1 < length s → r ≡ Err (n + 1)
  pub right : cubes ≡ p → length s ≤ e + 1 → r ≡ Ok tt

-- ---- the whole text
pub record ReadAs (s : List ℕ) (x : Pla) (r : PlaText) : Type 0 where
  pub inputs_listed : Listed x.inputs r.inputs
  pub outputs_listed : Listed x.outputs r.outputs
  pub cubes_counted : r.cubes ≡ length x.cubes
  pub end : ℕ
  pub stand : Stand s (length x.inputs) (length x.outputs) r.first x.cubes end

abbrev pub TextIs : List ℕ → Answer → Result PlaText ℕ → Type 0
TextIs s (bad_line n) (Ok r) = ⊥
TextIs s (pla x) (Ok r) = ReadAs s x r
TextIs s a (Err n) = a ≡ bad_line n
