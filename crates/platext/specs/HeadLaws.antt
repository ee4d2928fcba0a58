-- The lines before the cubes, one after another: where each is read the cubes are read next, and else the line is the bad one.
-- Assumes nothing.
use Rattle.std.specs.Prelude.{◌≡◌, refl, List, [], ℕ, drop, Result, Err}
use Rattle.std.proofs.Common.{◌∙◌}
use Rattle.text.specs.Line.{lines, ends_line}
use Rattle.names.specs.Name.{Name}
use Rattle.sheet.specs.Known.{Listed}
use Rattle.platext.specs.Lines.{inputs_line, outputs_line, input_names_line, output_names_line, cubes_line, first_cube}
use Rattle.platext.specs.Lines.{inputs_word, outputs_word, input_names_word, output_names_word, cubes_word, read_count, read_named}
use Rattle.platext.specs.Text.{Answer, bad_line, next_line, read_cubes, read_lines}
use Rattle.platext.specs.Reading.{Passed, Stopped, HeadHere, HeadIs}
use Rattle.platext.specs.declared.Header.{Header}

pub head_bad : (s : List ℕ) (r : Result Header ℕ) (n : ℕ) → read_lines (ends_line s) (lines s) ≡ bad_line n → r ≡ Err n → HeadIs s r
head_bad s r n e f = rw f e

module _ (s : List ℕ) where
  -- what each line is followed by
  abbrev then_cubes : List Name → List Name → ℕ → List (List ℕ) → Answer
  then_cubes ns ms p = read_cubes (ends_line s) (record { inputs = ns; outputs = ms; cubes = p }) [] first_cube

  abbrev then-count : List Name → List Name → List (List ℕ) → Answer
  then-count ns ms = next_line (ends_line s) cubes_line (read_count cubes_word 0) (then_cubes ns ms)

  abbrev then_output_names : ℕ → List Name → List (List ℕ) → Answer
  then_output_names o ns = next_line (ends_line s) output_names_line (read_named output_names_word o) (then-count ns)

  abbrev then_input_names : ℕ → ℕ → List (List ℕ) → Answer
  then_input_names i o = next_line (ends_line s) input_names_line (read_named input_names_word i) (then_output_names o)

  abbrev then_outputs : ℕ → List (List ℕ) → Answer
  then_outputs i = next_line (ends_line s) outputs_line (read_count outputs_word 1) (then_input_names i)

  pub no_inputs : Stopped s 0 (read_count inputs_word 1) → read_lines (ends_line s) (lines s) ≡ bad_line inputs_line
  unfolding read_lines
  no_inputs x = x.is inputs_line then_outputs

  module _ {i a : ℕ} (p : Passed s 0 (read_count inputs_word 1) i a) where
    inputs_read : read_lines (ends_line s) (lines s) ≡ then_outputs i (lines (drop a s))
    unfolding read_lines
    inputs_read = p.is inputs_line then_outputs

    pub no_outputs : Stopped s a (read_count outputs_word 1) → read_lines (ends_line s) (lines s) ≡ bad_line outputs_line
    no_outputs x = inputs_read ∙ x.is outputs_line (then_input_names i)

    module _ {o b : ℕ} (q : Passed s a (read_count outputs_word 1) o b) where
      outputs_read : read_lines (ends_line s) (lines s) ≡ then_input_names i o (lines (drop b s))
      outputs_read = inputs_read ∙ q.is outputs_line (then_input_names i)

      pub no-input-names : Stopped s b (read_named input_names_word i) → read_lines (ends_line s) (lines s) ≡ bad_line input_names_line
      no-input-names x = outputs_read ∙ x.is input_names_line (then_output_names o)

      module _ {ns : List Name} {c : ℕ} (u : Passed s b (read_named input_names_word i) ns c) where
        input-names-read : read_lines (ends_line s) (lines s) ≡ then_output_names o ns (lines (drop c s))
        input-names-read = outputs_read ∙ u.is input_names_line (then_output_names o)

        pub no-output-names : Stopped s c (read_named output_names_word o) → read_lines (ends_line s) (lines s) ≡ bad_line output_names_line
        no-output-names x = input-names-read ∙ x.is output_names_line (then-count ns)

        module _ {ms : List Name} {d : ℕ} (v : Passed s c (read_named output_names_word o) ms d) where
          output-names-read : read_lines (ends_line s) (lines s) ≡ then-count ns ms (lines (drop d s))
          output-names-read = input-names-read ∙ v.is output_names_line (then-count ns)

          pub no-count : Stopped s d (read_count cubes_word 0) → read_lines (ends_line s) (lines s) ≡ bad_line cubes_line
          no-count x = output-names-read ∙ x.is cubes_line (then_cubes ns ms)

          pub head-right : (r : Header) → Passed s d (read_count cubes_word 0) r.cubes r.next → Listed ns r.inputs → Listed ms r.outputs → HeadHere s r
          head-right r x f g =
              record {
                head = record { inputs = ns; outputs = ms; cubes = r.cubes };
                inputs_listed = f;
                outputs_listed = g;
                cubes_counted = refl;
                inside = x.inside;
                is = output-names-read ∙ x.is cubes_line (then_cubes ns ms);
              }
