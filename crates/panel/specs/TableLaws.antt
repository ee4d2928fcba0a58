-- The tables that the cubes say, cube after cube: the rows so far and the cubes to come cover what all cubes cover. Assumes nothing.
use Rattle.std.specs.Prelude.{◌≡◌, Bool, false, ◌&&◌, ◌||◌, ℕ, suc, ◌+◌, ◌-◌, ◌≤◌, ◌<◌, eqb, length, get_or, take, drop, replicate}
use Rattle.std.proofs.Math.Path.{sym, ap}
use Rattle.std.proofs.Common.{◌∙◌, subst, arith, add-one, length-take, drop_of_length-le, drop-cons}
use mathlib.Core.List.{List, [], map}
use Rattle.std.proofs.lemmas.List.{get_or-replicate}
use Rattle.bits.specs.DigitLaws.{on_zero}
use Rattle.limits.specs.Limits.{max_rows, max_outputs, table_words}
use Rattle.bits.specs.LogicLaws.{or_assoc, or_false}
use Rattle.rows.specs.Words.{Rowwise, row_on}
use Rattle.rows.specs.WordLaws.{repeated}
use Rattle.sheet.specs.Known.{table_at}
use Rattle.sheet.specs.declared.Rows.{Rows}
use Rattle.cubes.specs.Cube.{Literal, Cube, literal_byte}
use Rattle.cubes.specs.Cover.{covers, marked, cover_on, cube_at}
use Rattle.platext.specs.Text.{Pla}
use Rattle.platext.specs.Reading.{Stand, ReadAs}
use Rattle.platext.specs.declared.PlaText.{PlaText}
use Rattle.panel.specs.Held.{CubesStand, Added, Covering, Readable}
use Rattle.panel.specs.PassLaws.{CubesFrom, from_start, from_more, cube_there, literal-bytes, mark_bytes}

-- ---- the cubes of a text that is read
pub read_stand : (s : List ℕ) (x : Pla) (t : PlaText) (r : ReadAs s x t)
    → Stand s t.inputs.count t.outputs.count t.first x.cubes r.end
read_stand s x t r =
    subst (λ (o : ℕ). Stand s t.inputs.count o t.first x.cubes r.end) (sym r.outputs_listed.kept.counted)
    (subst (λ (i : ℕ). Stand s i (length x.outputs) t.first x.cubes r.end) (sym r.inputs_listed.kept.counted) r.stand)

pub read_cubes : (s : List ℕ) (x : Pla) (t : PlaText)
    → ReadAs s x t
    → CubesStand s t.inputs.count t.outputs.count t.first t.cubes
read_cubes s x t r = record { list = x.cubes; end = r.end; stand = read_stand s x t r; counted = sym r.cubes_counted }

pub outputs_counted : (s : List ℕ) (t : PlaText) → Readable s t → t.outputs.count ≤ max_outputs
outputs_counted s t r = omega (arith, r.outputs_few, r.read_as.outputs_listed.kept.counted)

pub part_few : (m o : ℕ) (l : List ℕ) → o ≤ max_outputs → length (take (m + o - m) l) ≤ max_outputs
part_few m o l h = omega (arith, length-take (m + o - m) l)

-- ---- cube after cube
-- the tables have the rows of the k cubes that are passed
pub record TablesFrom (s : List ℕ) (i o first cubes : ℕ) (ts : List Rows) (at k : ℕ) : Type 0 where
  pub cubes_from : CubesFrom s i o first cubes at k
  pub is : (cs : List Cube) (e : ℕ)
      → Stand s i o first cs e
      → length cs ≡ cubes
      → (j r : ℕ)
      → j < o
      → r < max_rows
      → cover_on cs j r ≡ row_on (table_at ts j) r || cover_on (drop k cs) j r

abbrev pub no_rows : Rows
no_rows = record { words = replicate table_words 0 }

no_row : (j r : ℕ) → j < max_outputs → r < max_rows → row_on (table_at (replicate max_outputs no_rows) j) r ≡ false
no_row j r h l =
    let none-at : Rows = record { words = [] } in
    ap (λ (t : Rows). row_on t.words r) (get_or-replicate max_outputs j no_rows none-at h)
    ∙ (repeated 0 false (λ k g. on_zero k)).each r l

pub tables_start : (s : List ℕ) (i o first cubes : ℕ) → o ≤ max_outputs → TablesFrom s i o first cubes (replicate max_outputs no_rows) first 0
tables_start s i o first cubes h =
    record {
      cubes_from = from_start s i o first cubes;
      is = λ cs e d n j r b l. ap (λ (t : Bool). t || cover_on cs j r) (sym (no_row j r (omega arith) l));
    }

cover_next : (k : ℕ) (cs : List Cube) (j r : ℕ)
    → k < length cs
    → cover_on (drop k cs) j r ≡ (marked (cube_at cs k) j && covers (cube_at cs k).literals r) || cover_on (drop (suc k) cs) j r
unfolding cover_on
cover_next k cs j r h =
    let none-at : Cube = record { literals = []; marks = [] } in
    ap (λ (l : List Cube). cover_on l j r) (drop-cons cs k none-at h)

module _ (s : List ℕ) (i o first cubes : ℕ) (ts : List Rows) (at k : ℕ) (w : TablesFrom s i o first cubes ts at k) where
  -- the next cube has its literals before m, and its marks before e
  pub tables_more : k < cubes
      → (m e : ℕ) (rows : List ℕ) (next : List Rows)
      → m ≡ at + i
      → e ≡ m + 1 + o
      → ((ls : List Literal) → take (m - at) (drop at s) ≡ map literal_byte ls → Rowwise (covers ls) rows)
      → Added ts rows (take (e - (m + 1)) (drop (m + 1) s)) next
      → TablesFrom s i o first cubes next (e + 1) (k + 1)
  tables_more l m e rows next p q covered added =
      record {
        cubes_from = from_more w.cubes_from l (e + 1) (omega arith);
        is = λ cs end h n j r b c.
            let here = cube_there w.cubes_from l cs end h n in
            let cube = cube_at cs k in
            let old = row_on (table_at ts j) r in
            let later = cover_on (drop (suc k) cs) j r in
            let marks = mark_bytes s i o at cube here (m + 1) e (omega arith) (omega arith) in
            let inside : j < length (take (e - (m + 1)) (drop (m + 1) s)) = omega (arith, ap length marks, here.written.marks_counted) in
            let lit = (covered cube.literals (literal-bytes s i o at cube here m p)).each r c in
            w.is cs end h n j r b c
            ∙ ap (λ (t : Bool). old || t) (cover_next k cs j r (omega arith))
            ∙ or_assoc old (marked cube j && covers cube.literals r) later
            ∙ ap (λ (t : Bool). (old || (marked cube j && t)) || later) (sym lit)
            ∙ ap (λ (t : List ℕ). (old || (eqb (get_or t j 0) 0x31 && row_on rows r)) || later) (sym marks)
            ∙ ap (λ (t : Bool). t || later) (sym ((added.each j inside).each r c))
            ∙ ap (λ (x : ℕ). row_on (table_at next j) r || cover_on (drop x cs) j r) (sym (add-one k));
      }

  tables_are : cubes ≤ k
      → (cs : List Cube) (e : ℕ)
      → Stand s i o first cs e
      → length cs ≡ cubes
      → (j : ℕ)
      → j < o
      → Rowwise (cover_on cs j) (table_at ts j)
  unfolding cover_on
  tables_are l cs e h n j b =
      record {
        each = λ r c.
            sym
            (w.is cs e h n j r b c
            ∙ ap (λ (t : List Cube). row_on (table_at ts j) r || cover_on t j r) (drop_of_length-le cs {i = k} (omega arith))
            ∙ or_false (row_on (table_at ts j) r));
      }

pub tables_all : (s : List ℕ) (t : PlaText) (ts : List Rows) (at k : ℕ)
    → TablesFrom s t.inputs.count t.outputs.count t.first t.cubes ts at k
    → t.cubes ≤ k
    → (x : Pla)
    → ReadAs s x t
    → Covering x ts
tables_all s t ts at k w l x r =
    record {
      each = λ j b.
          tables_are s t.inputs.count t.outputs.count t.first t.cubes ts at k w l x.cubes r.end
          (read_stand s x t r) (sym r.cubes_counted) j (omega (arith, r.outputs_listed.kept.counted));
    }
