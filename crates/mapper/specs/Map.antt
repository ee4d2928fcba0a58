-- Map (clause 11.3): what its network is permitted to be, and questions 7, 8 and 9 on a design; before them stands an
-- examination, for a sheet questions 1 to 5. Of the permitted networks Map's is the first in byte order. Assumes nothing.
use Rattle.std.specs.Prelude.{◌≡◌, false, List, ℕ, ◌/◌, ◌≤◌, ◌<◌, length, get_or}
use Rattle.std.proofs.lemmas.List.Edits.{sets}
use Rattle.limits.specs.Limits.{max_classes}
use Rattle.order.specs.Order.{before}
use Rattle.sheet.specs.Examine.{Design, Examined, refused, valid, examine}
use Rattle.classes.specs.Columns.{vertex_count, free_count}
use Rattle.classes.specs.Classes.{global_count}
use Rattle.network.specs.Network.{Network}
use Rattle.network.specs.Printer.{print_network}
use Rattle.network.specs.NetworkFor.{NetworkFor, node_at}
use Rattle.network.specs.Answers.{WithinLimits, Computes}
use Rattle.network.specs.Value.{lut_at, code_at}

-- the permitted networks (clause 7.10): with as few shared tables as any network that serves, tables that begin with 0, and 0
-- in the entries of codes that occur at no vertex
pub record Permitted (d : Design) (w : Network) : Type 0 where
  pub wellformed : NetworkFor d w
  pub within : WithinLimits d w
  pub computes : Computes d w
  pub fewest : (v : Network) → NetworkFor d v → WithinLimits d v → Computes d v → length w.luts ≤ length v.luts
  pub zero_first : (i : ℕ) → i < length w.luts → lut_at w i 0 ≡ false
  pub unproduced : (o j : ℕ)
      → o < length d.outputs
      → ((x : ℕ) → x < vertex_count d.bound → code_at w (node_at w.nodes o).reads x ≡ j / free_count d.inputs d.bound → ⊥)
      → get_or (node_at w.nodes o).digits j false ≡ false

-- the first of the permitted networks (clause 7.12): no other's print stands before its own in byte order
pub record First (d : Design) (w : Network) : Type 0 where
  pub permitted : Permitted d w
  pub none_before : (v : Network) → Permitted d v → before (print_network d v) (print_network d w) ≡ false

-- Map's answer: a refusal by number and line, or U and the length
pub data MapAnswer : Type 0 where
  refused_by : ℕ → ℕ → MapAnswer
  mapped : ℕ → ℕ → MapAnswer

-- what Map answers on the design d and the buffer b, and the buffer afterwards: on a refusal it is untouched
pub data OutcomeFor (d : Design) (b : List ℕ) : MapAnswer → List ℕ → Type 0 where
  too_many_classes : max_classes < global_count d d.bound → OutcomeFor d b (refused_by 7 0) b
  no_network : global_count d d.bound ≤ max_classes
      → ((w : Network) → NetworkFor d w → WithinLimits d w → Computes d w → ⊥)
      → OutcomeFor d b (refused_by 8 0) b
  buffer_short : (w : Network)
      → global_count d d.bound ≤ max_classes
      → First d w
      → length b < length (print_network d w)
      → OutcomeFor d b (refused_by 9 0) b
  written : (w : Network)
      → global_count d d.bound ≤ max_classes
      → First d w
      → length (print_network d w) ≤ length b
      → OutcomeFor d b (mapped (length w.luts) (length (print_network d w))) (sets b 0 (print_network d w))

-- a refusal of the examination is Map's, and the buffer is untouched
pub record RefusedSheet (q l : ℕ) (b : List ℕ) (a : MapAnswer) (b' : List ℕ) : Type 0 where
  pub refusal : a ≡ refused_by q l
  pub untouched : b' ≡ b

-- what Map answers on what an examination answers
abbrev pub OutcomeOf : Examined → List ℕ → MapAnswer → List ℕ → Type 0
OutcomeOf (refused q l) b a b' = RefusedSheet q l b a b'
OutcomeOf (valid d) b a b' = OutcomeFor d b a b'

-- Map on the sheet s and the buffer b
abbrev pub Outcome : List ℕ → List ℕ → MapAnswer → List ℕ → Type 0
Outcome s b a b' = OutcomeOf (examine s) b a b'
