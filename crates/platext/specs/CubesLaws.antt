-- The cubes, line after line: while every line is a cube, the lines that are left are read as those from the first cube on, for
-- every head with so many inputs and outputs; and where the cubes stand. Assumes nothing.
use Rattle.std.specs.Prelude.{◌≡◌, Bool, false, ℕ, suc, ◌+◌, ◌-◌, ◌≤◌, ◌<◌, length, take, drop, Result}
use Rattle.std.proofs.Math.Path.{refl, sym, ap, ap₂, subst}
use Rattle.std.proofs.Common.{◌∙◌, arith, add-one, length-append, length-drop, length-take-le, eqb-true}
use Rattle.std.proofs.Math.Bool.{true}
use mathlib.Core.List.{List, [], ◌∷◌, ◌++◌}
use Rattle.std.proofs.Math.Option.{Option, some, none}
use Rattle.std.proofs.Math.Decide.{dec_lt}
use Rattle.std.proofs.Math.Dec.{eqb}
use Rattle.std.proofs.lemmas.Bool.{eqb-false}
use Rattle.bits.specs.Logic.{pick}
use Rattle.bits.specs.LogicLaws.{true_false}
use Rattle.text.specs.Bytes.{same}
use Rattle.text.specs.Line.{lines, ends_line}
use Rattle.text.specs.LineCountLaws.{lines_past, lines-some}
use Rattle.cubes.specs.Cube.{Cube, read_cube}
use Rattle.cubes.specs.CubeLaws.{cube_print_of_read, cube_line_length}
use Rattle.cubes.specs.Spelled.{is_there, CubeWritten}
use Rattle.platext.specs.Lines.{first_cube, end_line}
use Rattle.platext.specs.Text.{Pla, Answer, bad_line, Head, next_line, CubeLine, last, one, as_cube, read_cube_line, nothing_more, at_last, by_kind, read_cubes}
use Rattle.platext.specs.Reading.{LineHere, NoLine, Stopped, CubeHere, Stand, Fits, CubesAre, LastIs}
use Rattle.platext.specs.LinePassLaws.{no_line_stops, read_passes, unread_stops}

-- ---- where they stand
stand_more : (s : List ℕ) (i o at : ℕ) (cs : List Cube) (e : ℕ) (c : Cube) → Stand s i o at cs e → CubeHere s i o e c
    → Stand s i o at (cs ++ (c ∷ [])) (e + (i + 1 + o) + 1)
stand_more s i o at [] e c t h =
    let k = h.inside in
    (subst (λ (a : ℕ). CubeHere s i o a c) (sym t.0) h, (ap (λ (a : ℕ). a + (i + 1 + o) + 1) t.0, omega arith))
stand_more s i o at (d ∷ cs) e c t h = (t.0, stand_more s i o (at + (i + 1 + o) + 1) cs e c t.1 h)

-- ---- what a line among the cubes says
module _ (i o : ℕ) (l : List ℕ) where
  by_end : (b : Bool) → same l end_line ≡ b → read_cube_line i o l ≡ pick b (some last) (as_cube (read_cube i o l))
  unfolding read_cube_line
  by_end b e = ap (λ (x : Bool). pick x (some last) (as_cube (read_cube i o l))) e

  there : (x : Option Cube) → is_there x ≡ true → (c : Cube) × (x ≡ some c)
  there none e = absurd (true_false (sym e))
  there (some c) e = (c, refl)

  not_there : (x : Option Cube) → is_there x ≡ false → x ≡ none
  not_there none e = refl
  not_there (some c) e = absurd (true_false e)

-- ---- one line more
module _ (s : List ℕ) (at i o : ℕ) where
  -- after so many cubes the next line starts at `start`
  pub record Cubes (start cubes : ℕ) : Type 0 where
    pub inside : start ≤ length s
    pub few : at + cubes ≤ start
    pub passed : List Cube
    pub counted : cubes ≡ length passed
    pub stand : Stand s i o at passed start
    pub is : (h : Head) → length h.inputs ≡ i → length h.outputs ≡ o
        → read_cubes (ends_line s) h [] first_cube (lines (drop at s)) ≡ read_cubes (ends_line s) h passed (first_cube + cubes) (lines (drop start s))

  pub cubes_none : at ≤ length s → Cubes at 0
  cubes_none h = record { inside = h; few = omega arith; passed = []; counted = refl; stand = (refl, h); is = λ k e f. refl }

  module _ {start cubes : ℕ} (w : Cubes start cubes) where
    -- what follows a line of each kind
    abbrev onward : Head → CubeLine → List (List ℕ) → Answer
    onward h k others =
        by_kind (at_last h w.passed (first_cube + cubes) others)
        (λ c. read_cubes (ends_line s) h (w.passed ++ (c ∷ [])) (suc (first_cube + cubes)) others) k

    as_line : (h : Head) (ls : List (List ℕ)) → read_cubes (ends_line s) h w.passed (first_cube + cubes) ls
        ≡ next_line (ends_line s) (first_cube + cubes) (read_cube_line (length h.inputs) (length h.outputs)) (onward h) ls
    unfolding read_cubes
    as_line h [] = refl
    as_line h (l ∷ ls) = refl

    from-here : (h : Head) → length h.inputs ≡ i → length h.outputs ≡ o → read_cubes (ends_line s) h [] first_cube (lines (drop at s))
        ≡ next_line (ends_line s) (first_cube + cubes) (read_cube_line i o) (onward h) (lines (drop start s))
    from-here h e f =
        w.is h e f ∙ as_line h (lines (drop start s))
        ∙ ap₂ (λ (a b : ℕ). next_line (ends_line s) (first_cube + cubes) (read_cube_line a b) (onward h) (lines (drop start s))) e f

    stopped_here : (p : ℕ) → Stopped s start (read_cube_line i o) → (h : Head) → Fits i o p h
        → read_cubes (ends_line s) h [] first_cube (lines (drop at s)) ≡ bad_line (first_cube + cubes)
    stopped_here p x h f = from-here h f.inputs_counted f.outputs_counted ∙ x.is (first_cube + cubes) (onward h)

    pub no_line_here : (p : ℕ) → NoLine s start → (h : Head) → Fits i o p h
        → read_cubes (ends_line s) h [] first_cube (lines (drop at s)) ≡ bad_line (first_cube + cubes)
    no_line_here p n = stopped_here p (no_line_stops (read_cube_line i o) n)

    module _ {e : ℕ} (x : LineHere s start e) where
      abbrev line : List ℕ
      line = take (e - start) (drop start s)

      line-size : length line ≡ e - start
      line-size =
          let a = x.after-start in
          let b = x.inside in
          length-take-le (e - start) (drop start s) (omega (arith, length-drop start s))

      pub no-cube-here : (p : ℕ) → same line end_line ≡ false → is_there (read_cube i o line) ≡ false → (h : Head) → Fits i o p h
          → read_cubes (ends_line s) h [] first_cube (lines (drop at s)) ≡ bad_line (first_cube + cubes)
      no-cube-here p f g =
          stopped_here p
          (unread_stops (read_cube_line i o) x (by_end i o line false f ∙ ap as_cube (not_there i o line (read_cube i o line) g)))

      cube-here : (c : Cube) → read_cube i o line ≡ some c → CubeHere s i o start c
      cube-here c f =
          let a = x.after-start in
          let b = x.inside in
          let size : e - start ≡ i + 1 + o = sym line-size ∙ cube_line_length i o line c f in
          record {
            inside = omega arith;
            written = subst (λ (k : ℕ). CubeWritten i o (take k (drop start s)) c) size (cube_print_of_read i o line c f);
          }

      pub one-more-cube : same line end_line ≡ false → is_there (read_cube i o line) ≡ true → Cubes (e + 1) (cubes + 1)
      one-more-cube f g =
          let (c, q) = there i o line (read_cube i o line) g in
          let a = x.after-start in
          let b = x.inside in
          let few = w.few in
          let size : e - start ≡ i + 1 + o = sym line-size ∙ cube_line_length i o line c q in
          let end : start + (i + 1 + o) + 1 ≡ e + 1 = omega arith in
          let pass = read_passes (read_cube_line i o) x (one c) (by_end i o line false f ∙ ap as_cube q) in
          let next : suc (first_cube + cubes) ≡ first_cube + (cubes + 1) = omega arith in
          record {
            inside = omega arith;
            few = omega arith;
            passed = w.passed ++ (c ∷ []);
            counted = omega (arith, w.counted, length-append w.passed (c ∷ []));
            stand = subst (λ (k : ℕ). Stand s i o at (w.passed ++ (c ∷ [])) k) end (stand_more s i o at w.passed start c w.stand (cube-here c q));
            is = λ h m n.
                from-here h m n ∙ pass.is (first_cube + cubes) (onward h)
                ∙ ap (λ (k : ℕ). read_cubes (ends_line s) h (w.passed ++ (c ∷ [])) k (lines (drop (e + 1) s))) next;
          }

      -- ---- the last line
      module _ (p : ℕ) {r : Result (Unit {0}) ℕ} (h : Head) (f : Fits i o p h) (k : LastIs s e (first_cube + cubes) cubes p r) where
        abbrev whole : Pla
        whole = record { inputs = h.inputs; outputs = h.outputs; cubes = w.passed }

        after_last : (b : Bool) → eqb cubes p ≡ b → (ls : List (List ℕ)) → lines (drop (e + 1) s) ≡ ls
            → CubesAre s at h (pick b (nothing_more (first_cube + cubes) whole ls) (bad_line (first_cube + cubes))) r
        after_last false g ls q = rw (k.other-count (eqb-false cubes p g)) refl
        after_last true g [] q =
            let m = eqb-true cubes p g in
            let past : length s ≤ e + 1 = elim (dec_lt (e + 1) (length s)) as (λ _. length s ≤ e + 1) [
              | yes l ↦ absurd (omega (arith, lines-some (drop (e + 1) s) (omega (arith, length-drop (e + 1) s)), ap length q))
              | no l ↦ omega arith
            ] in
            rw (k.right m past)
            (record {
              inputs_same = refl;
              outputs_same = refl;
              counted = sym w.counted ∙ m ∙ sym f.cubes_counted;
              end = start;
              stand = subst (λ (a : ℕ). Stand s a (length h.outputs) at w.passed start) (sym f.inputs_counted)
                  (subst (λ (a : ℕ). Stand s i a at w.passed start) (sym f.outputs_counted) w.stand);
            })
        after_last true g (l ∷ ls) q =
            let m = eqb-true cubes p g in
            let more : e + 1 < length s = elim (dec_lt (e + 1) (length s)) as (λ _. e + 1 < length s) [
              | yes l ↦ l
              | no l ↦ absurd (omega (arith, ap length (sym q ∙ lines_past s (e + 1) (omega arith))))
            ] in
            rw (k.more_text m more) (ap bad_line (sym (add-one (first_cube + cubes))))

        pub last-here : same line end_line ≡ true → CubesAre s at h (read_cubes (ends_line s) h [] first_cube (lines (drop at s))) r
        unfolding at_last
        last-here g =
            let pass = read_passes (read_cube_line i o) x last (by_end i o line true g) in
            let count : eqb cubes p ≡ eqb (length w.passed) h.cubes = ap₂ eqb w.counted (sym f.cubes_counted) in
            subst (λ (a : Answer). CubesAre s at h a r)
            (ap (λ (b : Bool). pick b (nothing_more (first_cube + cubes) whole (lines (drop (e + 1) s))) (bad_line (first_cube + cubes))) count
            ∙ sym (from-here h f.inputs_counted f.outputs_counted ∙ pass.is (first_cube + cubes) (onward h)))
            (after_last (eqb cubes p) refl (lines (drop (e + 1) s)) refl)
