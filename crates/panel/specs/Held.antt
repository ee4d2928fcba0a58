-- What the code holds of a pair's two texts, by the definitions. Assumes nothing.
use Rattle.std.specs.Prelude.{◌≡◌, Bool, true, false, ◌&&◌, ◌||◌, List, [], ℕ, ◌+◌, ◌-◌, ◌≤◌, ◌<◌, eqb, length, get_or, take, drop, Option, Some, None, Result, Ok, Err}
use Rattle.std.proofs.Math.Option as maybe
use Rattle.std.proofs.Math.Option.{some, none}
use Rattle.limits.specs.Limits.{max_outputs}
use Rattle.names.specs.Name.{Name, distinct}
use Rattle.rows.specs.Words.{Rowwise, row_on}
use Rattle.refusal.specs.Number.{number_of, Refuses}
use Rattle.refusal.specs.declared.Refusal.{Refusal}
use Rattle.cursor.specs.Item.{Kept}
use Rattle.sheet.specs.Lines.{read_bound, read_limit}
use Rattle.sheet.specs.Examine as spec
use Rattle.sheet.specs.Examine.{Design, refused}
use Rattle.sheet.specs.Known.{Holds, table_at}
use Rattle.sheet.specs.declared.Sheet.{Sheet}
use Rattle.sheet.specs.declared.Rows.{Rows}
use Rattle.cubes.specs.Cube.{Cube}
use Rattle.cubes.specs.Cover.{cover_on, cube_at}
use Rattle.platext.specs.Text.{Pla}
use Rattle.platext.specs.Reading.{Stand, ReadAs}
use Rattle.platext.specs.Writable.{Writable}
use Rattle.platext.specs.declared.PlaText.{PlaText}
use Rattle.panel.specs.Board.{Board, misspelled, board}
use Rattle.panel.specs.declared.BoardLines.{BoardLines}

-- ---- the PLA text
-- so many cubes of i literals and o marks stand in the text s from a place on
pub record CubesStand (s : List ℕ) (i o first cubes : ℕ) : Type 0 where
  pub list : List Cube
  pub end : ℕ
  pub stand : Stand s i o first list end
  pub counted : length list ≡ cubes

-- the line of the first cube with another mark, if there is one
abbrev pub OtherIs : Option ℕ → maybe.Option ℕ → Type 0
OtherIs r none = r ≡ None
OtherIs r (some l) = r ≡ Some l

-- the table `old` with a cube's rows, where the cube's mark is a 1
abbrev pub with_rows : List ℕ → List ℕ → ℕ → ℕ → Bool
with_rows old rows mark x = row_on old x || (eqb mark 0x31 && row_on rows x)

-- the tables ts with the rows and the marks of one cube more
pub record Added (ts : List Rows) (rows marks : List ℕ) (r : List Rows) : Type 0 where
  pub each : (o : ℕ) → o < length marks → Rowwise (with_rows (table_at ts o) rows (get_or marks o 0)) (table_at r o)

-- the table of each output is that of its cubes
pub record Covering (x : Pla) (ts : List Rows) : Type 0 where
  pub each : (o : ℕ) → o < length x.outputs → Rowwise (cover_on x.cubes o) (table_at ts o)

-- t is read of the text s, and has no more outputs than a sheet
pub record Readable (s : List ℕ) (t : PlaText) : Type 0 where
  pub text : Pla
  pub read_as : ReadAs s text t
  pub fitting : Writable text
  pub outputs_few : length text.outputs ≤ max_outputs

-- ---- the second text
pub record BoardRead (b : List ℕ) (bs : List Name) (n : ℕ) (r : BoardLines) : Type 0 where
  pub bound_read : read_bound (take r.bound b) ≡ some bs
  pub limit_read : read_limit (take (r.limit - (r.bound + 1)) (drop (r.bound + 1) b)) ≡ some n
  pub ordered : r.bound + 1 ≤ r.limit
  pub inside : r.limit ≤ length b

abbrev pub BadBoard : ℕ → ℕ → Result BoardLines Refusal → Type 0
BadBoard q l (Err r) = Refuses q l r
BadBoard q l (Ok y) = ⊥

abbrev pub GoodBoard : List ℕ → List Name → ℕ → Result BoardLines Refusal → Type 0
GoodBoard b bs n (Err r) = ⊥
GoodBoard b bs n (Ok y) = BoardRead b bs n y

-- by the answer to question 1 and what the lines say
abbrev pub BoardIs : List ℕ → Bool → Board → Result BoardLines Refusal → Type 0
BoardIs b false y r = BadBoard 1 0 r
BoardIs b true (misspelled l) r = BadBoard 2 l r
BoardIs b true (board bs n) r = GoodBoard b bs n r

-- ---- questions 3 to 5
-- the sheet holds a design
pub record Held (k : Sheet) : Type 0 where
  pub design : Design
  pub holds : Holds design k

-- the sheet k holds the design d of the inputs of x, whose outputs, with their names and tables, are to be added
pub record Ready (x : Pla) (d : Design) (k : Sheet) (n : ℕ) (names : List ℕ) (ts : List Rows) : Type 0 where
  pub holds : Holds d k
  pub same_inputs : d.inputs ≡ x.inputs
  pub no_outputs : d.outputs ≡ []
  pub outputs_kept : Kept x.outputs n names
  pub outputs_few : length x.outputs ≤ max_outputs
  pub covering : Covering x ts
  pub inputs_once : distinct x.inputs ≡ true
  pub literals_counted : (c : ℕ) → c < length x.cubes → length (cube_at x.cubes c).literals ≡ length x.inputs

pub record SomeReady (k : Sheet) (n : ℕ) (names : List ℕ) (ts : List Rows) : Type 0 where
  pub text : Pla
  pub design : Design
  pub ready : Ready text design k n names ts

-- questions that are asked before others: a design for these, or a refusal
pub record Onward (asked : (Design → spec.Examined) → spec.Examined) (k : Sheet) : Type 0 where
  pub design : Design
  pub holds : Holds design k
  pub is : (onward : Design → spec.Examined) → asked onward ≡ onward design

abbrev pub AskedIs : ((Design → spec.Examined) → spec.Examined) → Result Sheet Refusal → Type 0
AskedIs asked (Err r) = (onward : Design → spec.Examined) → asked onward ≡ refused (number_of r.question) r.line
AskedIs asked (Ok k) = Onward asked k
