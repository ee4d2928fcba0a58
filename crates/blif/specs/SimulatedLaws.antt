-- Whoever reads the text of a network by BLIF's rules computes what the network computes, and so Export does what is asked of
-- it. Assumes nothing.
use Rattle.std.specs.Prelude.{◌≡◌, refl, Bool, List, ℕ, ◌^◌, ◌≤◌, ◌<◌, length, take}
use Rattle.std.proofs.Common.{sym, ap, subst, ◌∙◌, arith}
use Rattle.std.proofs.Math.Option.{some}
use Rattle.limits.specs.Limits.{max_blif}
use Rattle.sheet.specs.Examine.{Design, Examined, valid}
use Rattle.sheet.specs.Value.{output_on}
use Rattle.sheet.specs.WellFormed.{WellFormed}
use Rattle.network.specs.Network.{Network}
use Rattle.network.specs.Check as checks
use Rattle.network.specs.Check.{check_of}
use Rattle.network.specs.Value.{network_on}
use Rattle.network.specs.NetworkFor.{NetworkFor}
use Rattle.network.specs.Answers.{Drawn}
use Rattle.network.specs.NamedLaws.{design-named}
use Rattle.network.specs.CheckLaws.{check_same}
use Rattle.network.specs.PrintedLaws.{drawn_wellformed, drawn_within}
use Rattle.blif.specs.Printer.{print_blif}
use Rattle.blif.specs.Modelled.{model_of}
use Rattle.blif.specs.Export.{Exported, written, export_of, put_text}
use Rattle.blif.specs.Simulated.{Simulates}
use Rattle.blif.specs.NamesOnceLaws.{signals_once}
use Rattle.blif.specs.ReadLaws.{text_read}
use Rattle.blif.specs.LengthLaws.{text_fits}
use Rattle.blif.specs.ValueLaws.{output_valued}
use Rattle.blif.specs.OutcomeLaws.{put_fits, put_text_lem, drawn_put}

pub simulated : (d : Design) (w : Network) → WellFormed d → NetworkFor d w → Simulates d (network_on d w) (print_blif d w)
unfolding model_of
simulated d w f g =
    record {
      model = model_of d w;
      is_read = text_read d w f (signals_once d w f g);
      name_is = refl;
      inputs_are = refl;
      outputs_are = refl;
      valued = λ o r l m. output_valued d w f g r o l;
    }

-- a text that has the values of one function has those of another that agrees with it
simulates_another : (d : Design) (f g : ℕ → ℕ → Bool) (t : List ℕ)
    → ((o r : ℕ) → o < length d.outputs → r < 2 ^ length d.inputs → f o r ≡ g o r)
    → Simulates d f t
    → Simulates d g t
simulates_another d f g t h s =
    record {
      model = s.model;
      is_read = s.is_read;
      name_is = s.name_is;
      inputs_are = s.inputs_are;
      outputs_are = s.outputs_are;
      valued = λ o r l m. s.valued o r l m ∙ ap some (h o r l m);
    }

module _ (x : Examined) (t b : List ℕ) (right : (d : Design) → x ≡ valid d → WellFormed d) where
  pub fits : (d : Design) (w : Network)
      → x ≡ valid d
      → Drawn d t w
      → max_blif ≤ length b
      → (export_of x t b).answer ≡ written (length (print_blif d w))
  fits d w e f h =
      let formed = right d e in
      let named = design-named d formed in
      let most = text_fits d w formed (drawn_wellformed d w named t f) (drawn_within d w named t f) in
      ap (λ (y : Exported). y.answer) (drawn_put x t b d w e f ∙ put_fits (print_blif d w) b (omega arith))

  pub simulates : (d : Design) (w : Network) (n : ℕ)
      → x ≡ valid d
      → Drawn d t w
      → (export_of x t b).answer ≡ written n
      → Simulates d (network_on d w) (take n (export_of x t b).buffer)
  simulates d w n e f h =
      let put = drawn_put x t b d w e f in
      let says : (put_text (print_blif d w) b).answer ≡ written n = sym (ap (λ (y : Exported). y.answer) put) ∙ h in
      let text : take n (export_of x t b).buffer ≡ print_blif d w =
      ap (λ (y : Exported). take n y.buffer) put ∙ put_text_lem (print_blif d w) b n says in
      subst (Simulates d (network_on d w)) (sym text)
      (simulated d w (right d e) (drawn_wellformed d w (design-named d (right d e)) t f))

  pub simulates_design : (d : Design) (n : ℕ)
      → x ≡ valid d
      → check_of x t ≡ checks.same
      → (export_of x t b).answer ≡ written n
      → Simulates d (output_on d) (take n (export_of x t b).buffer)
  simulates_design d n e c h =
      let (w, f, k) = check_same d t (subst (λ (y : Examined). check_of y t ≡ checks.same) e c) in
      simulates_another d (network_on d w) (output_on d) (take n (export_of x t b).buffer) k.agrees (simulates d w n e f h)
