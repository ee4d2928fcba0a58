-- What Export is for: whoever reads its text by BLIF's rules computes what the network computes (clause 14.8).
-- Assumes nothing.
use Rattle.std.specs.Prelude.{◌≡◌, Bool, List, [], ℕ, ◌^◌, ◌≤◌, ◌<◌, length, get_or, take}
use Rattle.std.proofs.Math.Option.{some}
use Rattle.limits.specs.Limits.{max_blif}
use Rattle.rows.specs.Row.{values_of}
use Rattle.text.specs.Bytes.{bytes}
use Rattle.sheet.specs.Examine.{Design, Examined, valid, output_names}
use Rattle.sheet.specs.Value.{output_on}
use Rattle.network.specs.Network.{Network}
use Rattle.network.specs.Check as checks
use Rattle.network.specs.Check.{check_of}
use Rattle.network.specs.Answers.{Drawn}
use Rattle.network.specs.Value.{network_on}
use Rattle.blif.specs.Printer.{print_blif}
use Rattle.blif.specs.Model.{Signal, Model}
use Rattle.blif.specs.Reader.{read_blif}
use Rattle.blif.specs.Value.{value_in}
use Rattle.blif.specs.Export.{export_of, refused_by, written}

-- output o of a design, as a signal
abbrev pub output_signal : Design → ℕ → Signal
output_signal d o = get_or (output_names d.outputs) o []

-- the text t is read in BLIF, its model is `panel`, its inputs and outputs are those of the design in the order of its sheet, and on
-- every row every output has the value that f says
pub record Simulates (d : Design) (f : ℕ → ℕ → Bool) (t : List ℕ) : Type 0 where
  pub model : Model
  pub is_read : read_blif t ≡ some model
  pub name_is : model.name ≡ bytes "panel"
  pub inputs_are : model.inputs ≡ d.inputs
  pub outputs_are : model.outputs ≡ output_names d.outputs
  pub valued : (o r : ℕ)
      → o < length d.outputs
      → r < 2 ^ length d.inputs
      → value_in model (values_of (length d.inputs) r) (output_signal d o) ≡ some (f o r)

-- the refusals, on a buffer of n bytes: those of Check, with their numbers and lines, then question 9
pub data ExportRefuses (x : Examined) (t : List ℕ) (n : ℕ) : ℕ → ℕ → Type 0 where
  as_check : (q l : ℕ) → check_of x t ≡ checks.refused_by q l → ExportRefuses x t n q l
  by_buffer : (d : Design) (w : Network) → x ≡ valid d → Drawn d t w → n < length (print_blif d w) → ExportRefuses x t n 9 0

-- x is what an examination answers, t any network sheet, b any buffer
pub record ExportDemand (x : Examined) (t b : List ℕ) : Type 0 where
  pub refuses : (q l : ℕ) → ExportRefuses x t (length b) q l → (export_of x t b).answer ≡ refused_by q l
  pub because : (q l : ℕ) → (export_of x t b).answer ≡ refused_by q l → ExportRefuses x t (length b) q l
  pub untouched : (q l : ℕ) → (export_of x t b).answer ≡ refused_by q l → (export_of x t b).buffer ≡ b
  -- a buffer of the named limit is long enough for every network that passes 10 and 11
  pub fits : (d : Design) (w : Network)
      → x ≡ valid d
      → Drawn d t w
      → max_blif ≤ length b
      → (export_of x t b).answer ≡ written (length (print_blif d w))
  -- the text at the buffer's start, and the bytes after it
  pub simulates : (d : Design) (w : Network) (n : ℕ)
      → x ≡ valid d
      → Drawn d t w
      → (export_of x t b).answer ≡ written n
      → Simulates d (network_on d w) (take n (export_of x t b).buffer)
  pub simulates_design : (d : Design) (n : ℕ)
      → x ≡ valid d
      → check_of x t ≡ checks.same
      → (export_of x t b).answer ≡ written n
      → Simulates d (output_on d) (take n (export_of x t b).buffer)
  pub same_length : length (export_of x t b).buffer ≡ length b
  pub later : (n i : ℕ) → (export_of x t b).answer ≡ written n → n ≤ i → get_or (export_of x t b).buffer i 0 ≡ get_or b i 0
