-- From a PLA text that passes question 12: it is the print of what it says, and that can be written. Assumes nothing.
use Rattle.std.specs.Prelude.{◌≡◌, Bool, not, ◌||◌, List, [], ◌∷◌, ◌++◌, map, ℕ, suc, eqb, length}
use Rattle.std.proofs.Math.Path.{refl}
use Rattle.std.proofs.Common.{sym, ap, ap₂, ◌∙◌, append_assoc, append-nil, arith, eqb-true}
use Rattle.std.proofs.Math.Bool.{true, false}
use Rattle.std.proofs.Math.Option.{Option, some, none}
use Rattle.bits.specs.Logic.{pick}
use Rattle.bits.specs.LogicLaws.{and_left, and_right}
use Rattle.limits.specs.Limits.{max_pla}
use Rattle.text.specs.Bytes.{space, same}
use Rattle.text.specs.BytesLaws.{same_equal}
use Rattle.text.specs.Line.{lines, ended_lines, ends_line, is_last}
use Rattle.text.specs.Unbroken.{unbroken, all_unbroken}
use Rattle.text.specs.LineLaws.{unbroken-tail, unbroken_back, lines_all_unbroken}
use Rattle.text.specs.EndedLaws.{ended_of_lines}
use Rattle.names.specs.Name.{Name}
use Rattle.sheet.specs.Examine.{within}
use Rattle.sheet.specs.AskedLaws.{within_high}
use Rattle.cubes.specs.Cube.{literal_byte, Cube, print_cube, read_cube}
use Rattle.cubes.specs.CubeLaws.{cube_print_of_read}
use Rattle.platext.specs.Lines.{inputs_line, outputs_line, input_names_line, output_names_line, cubes_line, first_cube}
use Rattle.platext.specs.Lines.{inputs_word, outputs_word, input_names_word, output_names_word, cubes_word, end_line}
use Rattle.platext.specs.Lines.{print_count, read_count, read_named}
use Rattle.platext.specs.Text.{Pla, pla_lines, print_pla, Answer, bad_line, pla, or_bad, next_line, Head, last, as_cube}
use Rattle.platext.specs.Text.{read_cube_line, nothing_more, at_last, by_kind, read_cubes, read_lines, read_pla}
use Rattle.platext.specs.Writable.{CubesFit, no_cube, one_more, Writable, Writes}
use Rattle.platext.specs.LineLaws.{count_inverse, named_inverse}

bad_pla : {n : ℕ} {x : Pla} → bad_line n ≡ pla x → ⊥
bad_pla e =
    let z : ◌≡◌ {A = ℕ} 0 1 = cc in
    omega arith

pub pla_is : {x y : Pla} → pla x ≡ pla y → x ≡ y
pla_is e = cc

abbrev first_then : List ℕ → List (List ℕ) → List (List ℕ)
first_then l ls = l ∷ ls

-- ---- the next line, and what follows it
record LineSaid {A : Type 0} (ended : Bool) (read : List ℕ → Option A) (onward : A → List (List ℕ) → Answer) (ls : List (List ℕ)) (x : Pla) : Type 0 where
  pub line : List ℕ
  pub others : List (List ℕ)
  pub item : A
  pub lines_are : ls ≡ line ∷ others
  pub says : read line ≡ some item
  pub onward_says : onward item others ≡ pla x
  pub ended_here : ended || not (is_last others) ≡ true
  pub line_unbroken : unbroken line ≡ true
  pub others-unbroken : all_unbroken others ≡ true

line_said : {A : Type 0} (ended : Bool) (n : ℕ) (read : List ℕ → Option A) (onward : A → List (List ℕ) → Answer) (ls : List (List ℕ)) (x : Pla)
    → all_unbroken ls ≡ true
    → next_line ended n read onward ls ≡ pla x
    → LineSaid ended read onward ls x
unfolding all_unbroken
line_said ended n read onward [] x u e = absurd (bad_pla e)
line_said {A} ended n read onward (l ∷ ls) x u e = go (ended || not (is_last ls)) refl (read l) refl e
  where
    go : (t : Bool) → ended || not (is_last ls) ≡ t → (o : Option A) → read l ≡ o
        → pick t (or_bad n o (λ a. onward a ls)) (bad_line n) ≡ pla x
        → LineSaid ended read onward (l ∷ ls) x
    go true q none r e = absurd (bad_pla e)
    go true q (some a) r e =
        record {
          line = l;
          others = ls;
          item = a;
          lines_are = refl;
          says = r;
          onward_says = e;
          ended_here = q;
          line_unbroken = and_left (unbroken l) (all_unbroken ls) u;
          others-unbroken = and_right (unbroken l) (all_unbroken ls) u;
        }
    go false q o r e = absurd (bad_pla e)

-- ---- the cubes and `.e`
marks_unbroken : (c : Cube) → unbroken (print_cube c) ≡ true → unbroken c.marks ≡ true
unfolding print_cube
marks_unbroken c u = unbroken-tail space c.marks (unbroken_back (map literal_byte c.literals) (space ∷ c.marks) u)

abbrev said_by : Head → List Cube → Pla
said_by h cs = record { inputs = h.inputs; outputs = h.outputs; cubes = cs }

-- what the lines say, where the head h and the cubes cs are said before
record CubesSaid (ended : Bool) (h : Head) (cs : List Cube) (ls : List (List ℕ)) (x : Pla) : Type 0 where
  pub ds : List Cube
  pub lines_are : ls ≡ map print_cube ds ++ (end_line ∷ [])
  pub said : said_by h (cs ++ ds) ≡ x
  pub counted : length (cs ++ ds) ≡ h.cubes
  pub fit : CubesFit (length h.inputs) (length h.outputs) ds
  pub ended-last : ended ≡ true

module _ (ended : Bool) (h : Head) (cs : List Cube) (n : ℕ) (l : List ℕ) (ls : List (List ℕ)) (x : Pla) where
  last-said : ended || not (is_last ls) ≡ true
      → l ≡ end_line
      → at_last h cs n ls ≡ pla x
      → CubesSaid ended h cs (l ∷ ls) x
  unfolding at_last
  last-said q e p = go (eqb (length cs) h.cubes) refl ls q p
    where
      or_false : (b : Bool) → b || false ≡ true → b ≡ true
      or_false true r = refl
      or_false false r = r

      go : (t : Bool) → eqb (length cs) h.cubes ≡ t → (ms : List (List ℕ)) → ended || not (is_last ms) ≡ true
          → pick t (nothing_more n (said_by h cs) ms) (bad_line n) ≡ pla x
          → CubesSaid ended h cs (l ∷ ms) x
      go true r [] q p =
          record {
            ds = [];
            lines_are = ap (λ (m : List ℕ). m ∷ []) e;
            said = ap (said_by h) (append-nil cs) ∙ pla_is p;
            counted = ap length (append-nil cs) ∙ eqb-true (length cs) h.cubes r;
            fit = no_cube;
            ended-last = or_false ended q;
          }
      go true r (m ∷ ms) q p = absurd (bad_pla p)
      go false r ms q p = absurd (bad_pla p)

  one_cube_said : (c : Cube) → read_cube (length h.inputs) (length h.outputs) l ≡ some c → unbroken l ≡ true
      → CubesSaid ended h (cs ++ (c ∷ [])) ls x
      → CubesSaid ended h cs (l ∷ ls) x
  one_cube_said c r u s =
      let written = cube_print_of_read (length h.inputs) (length h.outputs) l c r in
      let all : (cs ++ (c ∷ [])) ++ s.ds ≡ cs ++ (c ∷ s.ds) = append_assoc cs (c ∷ []) s.ds in
      record {
        ds = c ∷ s.ds;
        lines_are = ap₂ first_then written.is_print s.lines_are;
        said = ap (said_by h) (sym all) ∙ s.said;
        counted = ap length (sym all) ∙ s.counted;
        fit =
            one_more
            (record {
              literals_counted = written.literals_counted;
              marks_counted = written.marks_counted;
              marks_unbroken = marks_unbroken c (rw written.is_print at u);
            })
            s.fit;
        ended-last = s.ended-last;
      }

cubes_said : (ls : List (List ℕ)) (ended : Bool) (h : Head) (cs : List Cube) (n : ℕ) (x : Pla)
    → all_unbroken ls ≡ true
    → read_cubes ended h cs n ls ≡ pla x
    → CubesSaid ended h cs ls x
unfolding read_cubes read_cube_line all_unbroken
cubes_said [] ended h cs n x u e = absurd (bad_pla e)
cubes_said (l ∷ ls) ended h cs n x u e =
    go (ended || not (is_last ls)) refl (same l end_line) refl (read_cube (length h.inputs) (length h.outputs) l) refl
    (λ c. cubes_said ls ended h (cs ++ (c ∷ [])) (suc n) x (and_right (unbroken l) (all_unbroken ls) u)) e
  where
    further : Cube → Answer
    further c = read_cubes ended h (cs ++ (c ∷ [])) (suc n) ls

    go : (t : Bool) → ended || not (is_last ls) ≡ t
        → (s : Bool) → same l end_line ≡ s
        → (k : Option Cube) → read_cube (length h.inputs) (length h.outputs) l ≡ k
        → ((c : Cube) → further c ≡ pla x → CubesSaid ended h (cs ++ (c ∷ [])) ls x)
        → pick t (or_bad n (pick s (some last) (as_cube k)) (λ a. by_kind (at_last h cs n ls) further a)) (bad_line n) ≡ pla x
        → CubesSaid ended h cs (l ∷ ls) x
    go true q true r k p f e = last-said ended h cs n l ls x q (same_equal l end_line r) e
    go true q false r none p f e = absurd (bad_pla e)
    go true q false r (some c) p f e = one_cube_said ended h cs n l ls x c p (and_left (unbroken l) (all_unbroken ls) u) (f c e)
    go false q s r k p f e = absurd (bad_pla e)

-- ---- every line
abbrev from_cubes : Bool → List Name → List Name → ℕ → List (List ℕ) → Answer
from_cubes ended ns ms p = read_cubes ended (record { inputs = ns; outputs = ms; cubes = p }) [] first_cube

abbrev from_count : Bool → List Name → List Name → List (List ℕ) → Answer
from_count ended ns ms = next_line ended cubes_line (read_count cubes_word 0) (from_cubes ended ns ms)

abbrev from_output_names : Bool → ℕ → List Name → List (List ℕ) → Answer
from_output_names ended o ns = next_line ended output_names_line (read_named output_names_word o) (from_count ended ns)

abbrev from_input_names : Bool → ℕ → ℕ → List (List ℕ) → Answer
from_input_names ended i o = next_line ended input_names_line (read_named input_names_word i) (from_output_names ended o)

abbrev from_outputs : Bool → ℕ → List (List ℕ) → Answer
from_outputs ended i = next_line ended outputs_line (read_count outputs_word 1) (from_input_names ended i)

record LinesSaid (ended : Bool) (ls : List (List ℕ)) (x : Pla) : Type 0 where
  pub writable : Writable x
  pub lines_are : ls ≡ pla_lines x
  pub ended-last : ended ≡ true

lines-said : (ended : Bool) (ls : List (List ℕ)) (x : Pla) → all_unbroken ls ≡ true → read_lines ended ls ≡ pla x → LinesSaid ended ls x
unfolding read_lines pla_lines
lines-said ended ls x u e =
    let a = line_said ended inputs_line (read_count inputs_word 1) (from_outputs ended) ls x u e in
    let i = a.item in
    let b = line_said ended outputs_line (read_count outputs_word 1) (from_input_names ended i) a.others x a.others-unbroken a.onward_says in
    let o = b.item in
    let c = line_said ended input_names_line (read_named input_names_word i) (from_output_names ended o) b.others x b.others-unbroken b.onward_says in
    let ns = c.item in
    let d = line_said ended output_names_line (read_named output_names_word o) (from_count ended ns) c.others x c.others-unbroken c.onward_says in
    let ms = d.item in
    let f = line_said ended cubes_line (read_count cubes_word 0) (from_cubes ended ns ms) d.others x d.others-unbroken d.onward_says in
    let h : Head = record { inputs = ns; outputs = ms; cubes = f.item } in
    let s = cubes_said f.others ended h [] first_cube x f.others-unbroken f.onward_says in
    let (i-counts, i-line) = (count_inverse inputs_word 1).print_of_read a.line i a.says in
    let (o-counts, o-line) = (count_inverse outputs_word 1).print_of_read b.line o b.says in
    let (named, ns-line) = (named_inverse input_names_word i).print_of_read c.line ns c.says in
    let (named', ms-line) = (named_inverse output_names_word o).print_of_read d.line ms d.says in
    let (p-counts, p-line) = (count_inverse cubes_word 0).print_of_read f.line f.item f.says in
    let said : LinesSaid ended ls (said_by h s.ds) =
    record {
      writable =
          record {
            inputs_some = omega (arith, i-counts.enough, named.counted);
            inputs_few = rw named.counted i-counts.small;
            inputs_named = named.all_names_lem;
            outputs_some = omega (arith, o-counts.enough, named'.counted);
            outputs_few = rw named'.counted o-counts.small;
            outputs_named = named'.all_names_lem;
            cubes_few = rw s.counted p-counts.small;
            cubes_fit = s.fit;
          };
      lines_are =
          a.lines_are ∙ ap₂ first_then (i-line ∙ ap (print_count inputs_word) (sym named.counted))
          (b.lines_are ∙ ap₂ first_then (o-line ∙ ap (print_count outputs_word) (sym named'.counted))
          (c.lines_are ∙ ap₂ first_then ns-line
          (d.lines_are ∙ ap₂ first_then ms-line
          (f.lines_are ∙ ap₂ first_then (p-line ∙ ap (print_count cubes_word) (sym s.counted)) s.lines_are))));
      ended-last = s.ended-last;
    } in
    rw s.said at said

-- ---- the text
sized-said : (b : Bool) (y : Answer) (x : Pla) → pick b y (bad_line 0) ≡ pla x → (b ≡ true) × (y ≡ pla x)
sized-said true y x h = (refl, h)
sized-said false y x h = absurd (bad_pla h)

pub pla_print_of_read : (t : List ℕ) (x : Pla) → read_pla t ≡ pla x → Writes t x
unfolding read_pla print_pla
pla_print_of_read t x e =
    let (sized, said) = sized-said (within 1 max_pla (length t)) (read_lines (ends_line t) (lines t)) x e in
    let s = lines-said (ends_line t) (lines t) x (lines_all_unbroken t) said in
    record {
      writable = s.writable;
      is_print = ended_of_lines t s.ended-last ∙ ap ended_lines s.lines_are;
      fits = within_high 1 max_pla (length t) sized;
    }
