-- Where Map's definition says that a network was mapped, the print of a first network was written, and the answer's U is the
-- number of its tables. No code needs it: it says that the definition counts what it allows to be written. Assumes nothing.
use Rattle.std.specs.Prelude.{◌≡◌, refl, List, ℕ, length}
use Rattle.std.proofs.Common.{arith}
use Rattle.std.proofs.lemmas.List.Edits.{sets}
use Rattle.sheet.specs.Examine.{Design}
use Rattle.network.specs.Network.{Network}
use Rattle.network.specs.Printer.{print_network}
use Rattle.mapper.specs.Map.{First, MapAnswer, refused_by, mapped, OutcomeFor, too_many_classes, no_network, buffer_short, written}

-- the buffer b' is b with the print of a first network, of u tables and n bytes, at its start
pub record Wrote (d : Design) (b : List ℕ) (u n : ℕ) (b' : List ℕ) : Type 0 where
  pub network : Network
  pub first : First d network
  pub tables : length network.luts ≡ u
  pub bytes : length (print_network d network) ≡ n
  pub stored : b' ≡ sets b 0 (print_network d network)

not-refused : {q l u n : ℕ} → refused_by q l ≡ mapped u n → ⊥
not-refused e = let z : ◌≡◌ {A = ℕ} 0 1 = cc in omega arith

outcome_wrote : (d : Design) (b : List ℕ) {a : MapAnswer} {b' : List ℕ} (u n : ℕ)
    → OutcomeFor d b a b'
    → a ≡ mapped u n
    → Wrote d b u n b'
outcome_wrote d b u n (too_many_classes h) e = absurd (not-refused e)
outcome_wrote d b u n (no_network h k) e = absurd (not-refused e)
outcome_wrote d b u n (buffer_short w h p k) e = absurd (not-refused e)
outcome_wrote d b u n (written w h p k) e = record { network = w; first = p; tables = cc; bytes = cc; stored = refl }

pub mapped_wrote : (d : Design) (b : List ℕ) (u n : ℕ) (b' : List ℕ) → OutcomeFor d b (mapped u n) b' → Wrote d b u n b'
mapped_wrote d b u n b' o = outcome_wrote d b u n o refl
