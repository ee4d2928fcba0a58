-- A network sheet line after line: while every line is spelled right, the lines that are left are asked as the whole
-- sheet is, beside every design whose names the code holds. Assumes nothing.
use Rattle.std.specs.Prelude.{◌≡◌, refl, Bool, true, false, Option, Some, None, Result, Ok, Err, ◌&&◌, ℕ, suc, ◌+◌, ◌-◌, ◌≤◌, ◌<◌, leb, length, take, drop}
use Rattle.std.proofs.Common.{sym, ◌∙◌, arith, add-one, length-drop, take-append-drop, length-take-le, le-leb}
use Rattle.std.proofs.Math.Path.{ap, ap₂, subst}
use mathlib.Core.List.{List}
use Rattle.std.proofs.lemmas.Bool.{lt-leb}
use Rattle.bits.specs.Logic.{pick}
use Rattle.bits.specs.LogicLaws.{true_false}
use Rattle.limits.specs.Limits.{max_network}
use Rattle.text.specs.Line.{lines, ends_line}
use Rattle.text.specs.LineEnd.{LineEnd}
use Rattle.text.specs.LastLineLaws.{last_line, not-ended, line_here, is_ended, ended_inside}
use Rattle.text.specs.LineCountLaws.{lines_past}
use Rattle.sheet.specs.Examine.{Design}
use Rattle.network.specs.Network.{Network}
use Rattle.network.specs.Examine as spec
use Rattle.network.specs.Examine.{Answer, bad_line, Step, misspelled, next, ask_line, ask_lines, at_end, follow, nothing, read_network}
use Rattle.netsheet.specs.Answer.{NetworkIs}
use Rattle.netsheet.specs.Named.{NamedIs}
use Rattle.netsheet.specs.Reading.{place_of, is_over, fresh, Safe, PartOf, Known, StepIs, Staged}
use Rattle.netsheet.specs.declared.Named.{Named}
use Rattle.netsheet.specs.declared.NetworkSheet.{NetworkSheet}
use Rattle.netsheet.specs.declared.Place.{Place}
use Rattle.netsheet.specs.declared.Reading.{Reading}

-- ---- the size
module _ (d : Design) (t : List ℕ) where
  by_size : (a b : Bool) → leb 1 (length t) ≡ a → leb (length t) max_network ≡ b
      → read_network d t ≡ pick (a && b) (ask_lines d (ends_line t) spec.at_network nothing 1 (lines t)) (bad_line 0)
  unfolding read_network
  by_size a b e f = ap₂ (λ (x y : Bool). pick (x && y) (ask_lines d (ends_line t) spec.at_network nothing 1 (lines t)) (bad_line 0)) e f

  pub no_bytes : length t < 1 → read_network d t ≡ bad_line 0
  no_bytes h = by_size false (leb (length t) max_network) (lt-leb 1 (length t) h) refl

  pub many_bytes : max_network < length t → read_network d t ≡ bad_line 0
  many_bytes h = by_size (leb 1 (length t)) false refl (lt-leb (length t) max_network h) ∙ never (leb 1 (length t))
    where
      never : (a : Bool) → pick (a && false) (ask_lines d (ends_line t) spec.at_network nothing 1 (lines t)) (bad_line 0) ≡ bad_line 0
      never true = refl
      never false = refl

  sized : 1 ≤ length t → length t ≤ max_network → read_network d t ≡ ask_lines d (ends_line t) spec.at_network nothing 1 (lines t)
  sized h g = by_size true true (le-leb 1 (length t) h) (le-leb (length t) max_network g)

pub refused_at : (d : Design) (t : List ℕ) (n : ℕ) → read_network d t ≡ bad_line n → NetworkIs d t (read_network d t) (Err n)
refused_at d t n e = subst (λ (x : Answer). NetworkIs d t x (Err n)) (sym e) refl

-- ---- the line at a place
module _ (t : List ℕ) (at e : ℕ) (h : at < length t) (x : LineEnd t at e) where
  part-here : PartOf t at (take (e - at) (drop at t))
  part-here =
      let left = length-drop at t in
      let i = x.inside in
      let size : length (take (e - at) (drop at t)) ≡ e - at = length-take-le (e - at) (drop at t) (omega arith) in
      let j = x.after-start in
      record { later = drop (e - at) (drop at t); inside = omega arith; is = sym (take-append-drop (e - at) (drop at t)) }

-- ---- the walk
-- the lines from the place at on, the first of which has the number n, are asked as the whole sheet is
pub record Along (d : Design) (t : List ℕ) (s : Reading) (at n : ℕ) : Type 0 where
  pub says : Network
  pub known : Known d t says s
  pub here : read_network d t ≡ ask_lines d (ends_line t) (place_of s.place) says n (lines (drop at t))

pub record Walk (t : List ℕ) (k : Named) (s : Reading) (at n : ℕ) : Type 0 where
  pub safe : Safe s
  pub inside : at ≤ length t
  pub few : n ≤ at + 1
  pub size : length t ≤ max_network
  pub asked : (d : Design) → NamedIs d k → 1 ≤ length d.outputs → Along d t s at n

pub walk_start : (t : List ℕ) (k : Named) (s : Reading) → s ≡ fresh → 1 ≤ length t → length t ≤ max_network → Walk t k s 0 1
walk_start t k s e h g =
    rw e
    (record {
      safe = record { few = omega arith; fits = tt };
      inside = omega arith;
      few = omega arith;
      size = g;
      asked = λ d m o.
          record {
            says = nothing;
            known =
                record {
                  staged = refl;
                  held =
                      record {
                        counted = refl;
                        few = omega arith;
                        luts_stand = λ i l. absurd (omega arith);
                        nodes_stand = λ i l. absurd (omega arith);
                      };
                };
            here = sized d t h g;
          };
    })

module _ {t : List ℕ} {k : Named} {s : Reading} {at n : ℕ} (v : Walk t k s at n) where
  module _ (e : ℕ) (h : at < length t) (x : LineEnd t at e) where
    -- a line of the text is no longer than the text may be
    pub walk_room : at + length (take (e - at) (drop at t)) ≤ max_network
    walk_room =
        let left = length-drop at t in
        let i = x.inside in
        let j = x.after-start in
        let size : length (take (e - at) (drop at t)) ≡ e - at = length-take-le (e - at) (drop at t) (omega arith) in
        let m = v.size in
        omega arith

    pub walk_open : e ≡ length t → (d : Design) → NamedIs d k → 1 ≤ length d.outputs → NetworkIs d t (read_network d t) (Err n)
    unfolding ask_lines
    walk_open g d m o =
        let a = v.asked d m o in
        refused_at d t n
        (a.here
        ∙ ap₂ (λ (y : Bool) (ls : List (List ℕ)). ask_lines d y (place_of s.place) a.says n ls) (not-ended t at e h x g) (last_line t at e h x g))

    module _ (g : e ≡ length t → ⊥) where
      abbrev line : List ℕ
      line = take (e - at) (drop at t)

      by_line : (d : Design) (a : Along d t s at n)
          → read_network d t
          ≡ follow (ask_line d (place_of s.place) a.says line) n (λ p w. ask_lines d (ends_line t) p w (suc n) (lines (drop (e + 1) t)))
      unfolding ask_lines
      by_line d a =
          a.here
          ∙ ap (ask_lines d (ends_line t) (place_of s.place) a.says n) (line_here t at e h x g)
          ∙ ap (λ (y : Bool). follow (pick y (ask_line d (place_of s.place) a.says line) misspelled) n (λ p w. ask_lines d (ends_line t) p w (suc n) (lines (drop (e + 1) t))))
          (is_ended t at e h x g)

      -- what the code says of the line, beside every design
      abbrev Asked : Option Reading → Type 0
      Asked r = (u : List ℕ) (d : Design) (w : Network) → PartOf u at line → NamedIs d k → Known d u w s → 0 < length d.outputs
          → StepIs d u (ask_line d (place_of s.place) w line) r

      module _ (r : Option Reading) (q : Asked r) where
        comes_to : (d : Design) → NamedIs d k → (o : 1 ≤ length d.outputs) → (a : Along d t s at n) → StepIs d t (ask_line d (place_of s.place) a.says line) r
        comes_to d m o a = q t d a.says (part-here t at e h x) m a.known o

        pub walk-bad : r ≡ None → (d : Design) → NamedIs d k → 1 ≤ length d.outputs → NetworkIs d t (read_network d t) (Err n)
        walk-bad f d m o =
            let a = v.asked d m o in
            go (ask_line d (place_of s.place) a.says line) (subst (StepIs d t (ask_line d (place_of s.place) a.says line)) f (comes_to d m o a)) (by_line d a)
          where
            go : (z : Step) → StepIs d t z None → read_network d t ≡ follow z n (λ p w. ask_lines d (ends_line t) p w (suc n) (lines (drop (e + 1) t))) → NetworkIs d t (read_network d t) (Err n)
            go misspelled y i = refused_at d t n i
            go (next p w) y i = absurd y

        pub walk_more : (u : Reading) → r ≡ Some u → Safe u → Walk t k u (e + 1) (n + 1)
        walk_more u f y =
            let i = x.inside in
            let j = x.after-start in
            let l = v.few in
            let c = ended_inside t at e h x g in
            record {
              safe = y;
              inside = omega arith;
              few = omega arith;
              size = v.size;
              asked = λ d m o.
                  let a = v.asked d m o in
                  go d (ask_line d (place_of s.place) a.says line) (subst (StepIs d t (ask_line d (place_of s.place) a.says line)) f (comes_to d m o a)) (by_line d a);
            }
          where
            go : (d : Design) (z : Step) → StepIs d t z (Some u) → read_network d t ≡ follow z n (λ p w. ask_lines d (ends_line t) p w (suc n) (lines (drop (e + 1) t))) → Along d t u (e + 1) (n + 1)
            go d misspelled c i = absurd c
            go d (next p w) c i =
                record {
                  says = w;
                  known = record { staged = subst (λ (z : spec.Place). Staged d z w) (sym c.placed) c.staged; held = c.held };
                  here =
                      i
                      ∙ ap₂ (λ (z : spec.Place) (j : ℕ). ask_lines d (ends_line t) z w j (lines (drop (e + 1) t))) (sym c.placed) (sym (add-one n));
                }

  pub walk_end : length t ≤ at → (r : Result NetworkSheet ℕ)
      → ((u : List ℕ) (d : Design) (w : Network) → Known d u w s → NetworkIs d u (at_end (place_of s.place) w n) r)
      → (d : Design) → NamedIs d k → 1 ≤ length d.outputs → NetworkIs d t (read_network d t) r
  unfolding ask_lines
  walk_end h r q d m o =
      let a = v.asked d m o in
      subst (λ (y : Answer). NetworkIs d t y r)
      (sym (a.here ∙ ap (ask_lines d (ends_line t) (place_of s.place) a.says n) (lines_past t at h)))
      (q t d a.says a.known)

-- ---- after the last line
module _ {t : List ℕ} {d : Design} {w : Network} {s : Reading} (kn : Known d t w s) (n : ℕ) where
  pub ended_early : (s.place ≡ Place.Over → ⊥) → NetworkIs d t (at_end (place_of s.place) w n) (Err n)
  ended_early e = go s.place e
    where
      go : (p : Place) → (p ≡ Place.Over → ⊥) → NetworkIs d t (at_end (place_of p) w n) (Err n)
      go Place.Network f = refl
      go Place.Luts f = refl
      go (Place.Node o) f = refl
      go Place.Count f = refl
      go Place.End f = refl
      go Place.Over f = absurd (f refl)

  is_over_lem : (p : Place) → is_over p ≡ true → p ≡ Place.Over
  is_over_lem Place.Network f = absurd (true_false (sym f))
  is_over_lem Place.Luts f = absurd (true_false (sym f))
  is_over_lem (Place.Node o) f = absurd (true_false (sym f))
  is_over_lem Place.Count f = absurd (true_false (sym f))
  is_over_lem Place.End f = absurd (true_false (sym f))
  is_over_lem Place.Over f = refl

  pub ended_over : s.place ≡ Place.Over → NetworkIs d t (at_end (place_of s.place) w n) (Ok s.sheet)
  ended_over over =
      let staged : Staged d spec.over w = subst (λ (p : Place). Staged d (place_of p) w) over kn.staged in
      rw over (record { nodes-counted = staged; held = kn.held })
