-- The network sheet (clauses 8.2 to 8.7): how each kind of line is read, beside a design. Assumes nothing.
use Rattle.std.specs.Prelude.{Bool, true, false, List, [], ◌∷◌, ℕ, zero, suc, ◌+◌, ◌^◌, eqb, length}
use Rattle.std.proofs.Math.Option.{Option}
use Rattle.bits.specs.Logic.{pick}
use Rattle.text.specs.Bytes.{Read, found, bad, after, eat, whole, bytes}
use Rattle.names.specs.Name.{Name}
use Rattle.sheet.specs.Lines.{closed}
use Rattle.network.specs.Network.{Node}
use Rattle.network.specs.Printer.{led, lut_name}
use Rattle.network.specs.Given.{read_given, read_givens}

-- so many digits 0 and 1
unfoldable pub read_digits : ℕ → List ℕ → Read (List Bool)
read_digits zero s = found [] s
read_digits (suc k) [] = bad
read_digits (suc k) (b ∷ s) =
    let others = read_digits k s in
    pick (eqb b 0x30) (after others (λ ds t. found (false ∷ ds) t))
    (pick (eqb b 0x31) (after others (λ ds t. found (true ∷ ds) t)) bad)

-- the inputs ns as the last items of a list, its closing bracket and a space
unfoldable pub read_inputs : Bool → List Name → List ℕ → Read (Unit {0})
read_inputs first ns s = after (read_givens first ns s) (λ _ t. eat (bytes ") ") t)

-- lut line i up to its digits, and the whole line
unfoldable pub read_lut_head : List Name → ℕ → List ℕ → Read (Unit {0})
read_lut_head bs i l =
    after (eat (bytes "(lut ") l) (λ _ s.
    after (eat (lut_name i) s) (λ _ t.
    after (eat (bytes " (") t) (λ _ u. read_inputs true bs u)))

unfoldable pub read_lut : List Name → ℕ → List ℕ → Option (List Bool)
read_lut bs i l = whole (closed (after (read_lut_head bs i l) (λ _ s. read_digits (2 ^ length bs) s)))

abbrev pub first_found : {A : Type 0} → Read A → Read A → Read A
first_found (found a s) r = found a s
first_found bad r = r

-- the shared tables of a list, by rising number: each of the k numbers from i on is there or not
unfoldable pub read_reads : Bool → ℕ → ℕ → List ℕ → Read (List ℕ)
read_reads first zero i s = found [] s
read_reads first (suc k) i s =
    let there = after (eat (led first (lut_name i)) s) (λ _ t. after (read_reads false k (suc i) t) (λ is u. found (i ∷ is) u)) in
    let not_there = read_reads first k (suc i) s in
    first_found there not_there

abbrev pub none_of : List ℕ → Bool
none_of [] = true
none_of (i ∷ is) = false

-- the node line of the output n up to its list, after the shared tables of its list, and the whole line, beside u shared
-- tables and the free inputs fs
unfoldable pub read_node_head : Name → List ℕ → Read (Unit {0})
read_node_head n l = after (eat (bytes "(node ") l) (λ _ s. after (read_given n s) (λ _ t. eat (bytes " (") t))

abbrev pub read_node_rest : List Name → List ℕ → List ℕ → Read Node
read_node_rest fs is s =
    after (read_inputs (none_of is) fs s) (λ _ t.
    after (read_digits (2 ^ (length is + length fs)) t) (λ ds v. found (record { reads = is; digits = ds }) v))

unfoldable pub read_node : Name → List Name → ℕ → List ℕ → Option Node
read_node n fs u l =
    whole (closed (after (read_node_head n l) (λ _ s. after (read_reads true u 0 s) (λ is t. read_node_rest fs is t))))
