-- Demand 3 for each kind of outcome on a well-formed design; proofs/ThirdDemand.antt says it of every outcome. Assumes nothing.
use Rattle.std.specs.Prelude.{◌≡◌, refl, List, ℕ, ◌+◌, ◌≤◌, ◌<◌, length, take}
use Rattle.std.proofs.Common.{sym, ap, ◌∙◌, subst, ⊎_elim, arith}
use Rattle.std.proofs.lemmas.List.Edits.{sets}
use Rattle.limits.specs.Limits.{max_network, first_lut}
use Rattle.text.specs.Line.{lines, line_at}
use Rattle.sheet.specs.Examine.{Design, valid}
use Rattle.sheet.specs.WellFormed.{WellFormed}
use Rattle.network.specs.Network.{Network}
use Rattle.network.specs.Printer.{print_network}
use Rattle.network.specs.NetworkFor.{NetworkFor}
use Rattle.network.specs.Answers.{WithinLimits, Computes, Drawn}
use Rattle.network.specs.Check.{Checked, same, differs, check_of}
use Rattle.network.specs.NamedLaws.{design-named}
use Rattle.network.specs.LinePlaceLaws.{count_line}
use Rattle.network.specs.SpellingLaws.{print_spells, spells_lines}
use Rattle.network.specs.CompareLaws.{same_or_differs, compared_same}
use Rattle.network.specs.CheckLaws.{check_compares}
use Rattle.network.specs.PrintedLaws.{printed_drawn, printed_same, drawn_wellformed, drawn_within}
use Rattle.emit.specs.StoredLaws.{stored_text}
use Rattle.mapper.specs.Map.{Permitted, First, refused_by, mapped}
use Rattle.mapper.specs.FunctionLaws.{first_one}
use Rattle.demands.specs.SizeLaws.{print_fits}
use Rattle.demands.specs.Demand3.{Differs, Cells, TooShort, Demand3}

-- ---- Check on a network that passes 10 and 11 says "same" or "differs"
same_differs : (a : Checked) → a ≡ same → Differs a → ⊥
same_differs a e f =
    let g : same ≡ differs f.output f.row = sym e ∙ f.is in
    let z : ◌≡◌ {A = ℕ} 0 1 = cc in
    omega arith

differs_or_computes : (d : Design) (t : List ℕ) (w : Network) → Drawn d t w → (Computes d w → ⊥) → Differs (check_of (valid d) t)
differs_or_computes d t w n h =
    ⊎_elim
    (λ f. absurd (h (compared_same d w f)))
    (λ (o, r, f). record { output = o; row = r; is = check_compares d t w n ∙ f })
    (same_or_differs d w)

-- ---- which answer was given
pub mapped_not_refused : {q l u n : ℕ} → mapped u n ≡ refused_by q l → ⊥
mapped_not_refused e = let z : ◌≡◌ {A = ℕ} 0 1 = cc in omega arith

nine_eight : {l m : ℕ} → refused_by 9 l ≡ refused_by 8 m → ⊥
nine_eight e =
    let z : ◌≡◌ {A = ℕ} 9 8 = cc in
    omega arith

mapped_count : {u n v m : ℕ} → mapped u n ≡ mapped v m → u ≡ v
mapped_count e = cc

pub mapped_length : {u n v m : ℕ} → mapped u n ≡ mapped v m → n ≡ m
mapped_length e = cc

module _ (d : Design) (f : WellFormed d) where
  -- ---- a permitted network is drawn, and the same as the design
  module _ (w : Network) (p : Permitted d w) where
    pub permitted_drawn : Drawn d (print_network d w) w
    permitted_drawn =
        printed_drawn d w (design-named d f) p.wellformed p.within (print_fits d w f p.wellformed p.within)

    permitted_same : check_of (valid d) (print_network d w) ≡ same
    permitted_same =
        printed_same d w (design-named d f) p.wellformed p.within (print_fits d w f p.wellformed p.within) p.computes

    permitted_cells : Cells d (print_network d w) (length w.luts)
    permitted_cells =
        let u = length w.luts in
        let m = length d.outputs in
        let t = print_network d w in
        let n : first_lut + u + m ≡ u + first_lut + m = omega arith in
        let spelled = spells_lines d (design-named d f) w t (print_spells d w p.wellformed.node_each) in
        record {
          said = w;
          drawn = permitted_drawn;
          lut_lines_lem = refl;
          count_line = ap (line_at (lines t)) n ∙ count_line d w (lines t) spelled;
        }

    rival : (t : List ℕ) (v : Network) → Drawn d t v → check_of (valid d) t ≡ same → length w.luts ≤ length v.luts
    rival t v r g =
        let m = design-named d f in
        p.fewest v (drawn_wellformed d v m t r) (drawn_within d v m t r) (compared_same d v (sym (check_compares d t v r) ∙ g))

  -- ---- the buffer
  -- a buffer that holds one first network's print holds that of any other
  not_too_short : (b : List ℕ) (w : Network) → First d w → length (print_network d w) ≤ length b → TooShort d b → ⊥
  not_too_short b w q h s =
      let e = ap length (first_one d s.network w s.is_first q).0 in
      let l = s.shorter in
      omega (arith, e, l, h)

  long_not_short : (b : List ℕ) → TooShort d b → max_network ≤ length b → ⊥
  long_not_short b s h =
      let p = s.is_first.permitted in
      let fits = print_fits d s.network f p.wellformed p.within in
      let l = s.shorter in
      omega (arith, fits, l, h)

  -- ---- each outcome
  pub demand_written : (b : List ℕ) (w : Network)
      → First d w
      → length (print_network d w) ≤ length b
      → Demand3 (valid d) d b (mapped (length w.luts) (length (print_network d w))) (sets b 0 (print_network d w))
  demand_written b w q h =
      let p = q.permitted in
      let un = length w.luts in
      let nn = length (print_network d w) in
      let t = sets b 0 (print_network d w) in
      let read : take nn t ≡ print_network d w = stored_text b (print_network d w) h in
      record {
        refusal_is_true = λ e. absurd (mapped_not_refused e);
        true_refusal = λ g.
            absurd (same_differs (check_of (valid d) (print_network d w)) (permitted_same w p) (g (print_network d w) w (permitted_drawn w p)));
        short_is_true = λ e. absurd (mapped_not_refused e);
        true_short = λ s. absurd (not_too_short b w q h s);
        long_enough = λ _ e. mapped_not_refused e;
        otherwise_mapped = λ _ _. (un, nn, refl);
        counted = λ u n e.
            (let i = mapped_count e in
            let j : take n t ≡ print_network d w = ap (λ (k : ℕ). take k t) (sym (mapped_length e)) ∙ read in
            subst (λ (k : ℕ). Cells d (take n t) k) i (subst (λ (y : List ℕ). Cells d y un) (sym j) (permitted_cells w p)));
        same_as_design = λ u n e.
            (let j : take n t ≡ print_network d w = ap (λ (k : ℕ). take k t) (sym (mapped_length e)) ∙ read in
            ap (check_of (valid d)) j ∙ permitted_same w p);
        fewest_cells = λ u n e y v r g. subst (λ (m : ℕ). m ≤ length v.luts) (mapped_count e) (rival w p y v r g);
      }

  pub demand_none : (b : List ℕ)
      → ((w : Network) → NetworkFor d w → WithinLimits d w → Computes d w → ⊥)
      → Demand3 (valid d) d b (refused_by 8 0) b
  demand_none b h =
      let m = design-named d f in
      record {
        refusal_is_true = λ _ t w r. differs_or_computes d t w r (h w (drawn_wellformed d w m t r) (drawn_within d w m t r));
        true_refusal = λ _. refl;
        short_is_true = λ e. absurd (nine_eight (sym e));
        true_short = λ s. (let p = s.is_first.permitted in absurd (h s.network p.wellformed p.within p.computes));
        long_enough = λ _ e. nine_eight (sym e);
        otherwise_mapped = λ e _. absurd (e refl);
        counted = λ u n e. absurd (mapped_not_refused (sym e));
        same_as_design = λ u n e. absurd (mapped_not_refused (sym e));
        fewest_cells = λ u n e. absurd (mapped_not_refused (sym e));
      }

  pub demand_short : (b : List ℕ) (w : Network)
      → First d w
      → length b < length (print_network d w)
      → Demand3 (valid d) d b (refused_by 9 0) b
  demand_short b w q h =
      let p = q.permitted in
      let short : TooShort d b = record { network = w; is_first = q; shorter = h } in
      record {
        refusal_is_true = λ e. absurd (nine_eight e);
        true_refusal = λ g.
            absurd (same_differs (check_of (valid d) (print_network d w)) (permitted_same w p) (g (print_network d w) w (permitted_drawn w p)));
        short_is_true = λ _. short;
        true_short = λ _. refl;
        long_enough = λ k _. long_not_short b short k;
        otherwise_mapped = λ _ g. absurd (g short);
        counted = λ u n e. absurd (mapped_not_refused (sym e));
        same_as_design = λ u n e. absurd (mapped_not_refused (sym e));
        fewest_cells = λ u n e. absurd (mapped_not_refused (sym e));
      }
