-- The entries of a code that no vertex has are 0 in Map's own network (clause 7.10) and free in a rival's: sheet G at limit 2 has
-- three classes and four codes; with two outputs more the tables are forced, and one code is never produced. Assumes nothing.
use Rattle.std.specs.Prelude.{◌≡◌, false, List, [], ◌∷◌, ◌++◌, ℕ, ◌+◌, ◌*◌, ◌<◌, length, get_or}
use Prim.Native.String.{String}
use Rattle.text.specs.Bytes.{bytes}
use Rattle.sheet.specs.Examine.{Design, valid, examine}
use Rattle.classes.specs.Columns.{vertex_count}
use Rattle.network.specs.Network.{Network}
use Rattle.network.specs.Examine as networks
use Rattle.network.specs.Examine.{read_network}
use Rattle.network.specs.NetworkFor.{node_at}
use Rattle.network.specs.Value.{code_at}
use Rattle.network.specs.Check.{check, same}
use Rattle.mapper.specs.Map.{Permitted}
use Rattle.demands.specs.Designs.{design_g, design_forced, bits, node, network}
use Rattle.demands.specs.Worked.{sheet_g, Prints}

-- no vertex produces the code in the tables that output o's node reads
abbrev pub Unproduced : Design → Network → ℕ → ℕ → Type 0
Unproduced d w o code = (x : ℕ) → x < vertex_count d.bound → code_at w (node_at w.nodes o).reads x ≡ code → ⊥

-- G's network with the tables (and a b) and (xor a b), by its four entries for the code 11, which no vertex produces
abbrev pub network_g : String → List ℕ
network_g s =
    bytes "(network 1)\n(lut _0 (a b) 0001)\n(lut _1 (a b) 0110)\n(node f (_0 _1 c d) 000001010011"
    ++ (bytes s ++ bytes ")\n(count 2)\n(end)\n")

-- the one with 1 in all four
abbrev pub rival_g : Network
rival_g = network (bits "0001" ∷ bits "0110" ∷ []) (node (0 ∷ 1 ∷ []) (bits "0000010100111111") ∷ [])

-- G with two outputs more, and such a network of it
abbrev pub sheet_forced : List ℕ
sheet_forced =
    bytes "(design 1)\n(in a b c d)\n(bound a b)\n(limit 2)\n(out f (or (and a b c) (and (xor a b) d)))\n"
    ++ bytes "(out g (xor a b c))\n(out h (xor (and a b) c))\n(end)\n"

abbrev pub network_forced : String → List ℕ
network_forced s =
    bytes "(network 1)\n(lut _0 (a b) 0001)\n(lut _1 (a b) 0110)\n(node f (_0 _1 c d) 000001010011"
    ++ (bytes s ++ bytes ")\n(node g (_1 c d) 00111100)\n(node h (_0 c d) 00111100)\n(count 2)\n(end)\n")

pub record WorkedUnproduced : Type 0 where
  -- sheet G at limit 2 has three classes and width 2
  pub said_g : examine (sheet_g "2") ≡ valid (design_g 2)
  pub prints_g : Prints (sheet_g "2") 2 (network_g "0000")
  pub bytes_g : length (network_g "0000") ≡ 106
  -- the entries of codes that no vertex has are 0, whichever network is permitted
  pub zero_g : (w : Network)
      → Permitted (design_g 2) w
      → (code y : ℕ)
      → y < 4
      → Unproduced (design_g 2) w 0 code
      → get_or (node_at w.nodes 0).digits (code * 4 + y) false ≡ false
  -- Map's network, and a rival's with other entries there: both are "same", the rival's is none that is permitted
  pub same_g : check (sheet_g "2") (network_g "0000") ≡ same
  pub rival_g_lem : check (sheet_g "2") (network_g "1111") ≡ same
  pub rival_said : read_network (design_g 2) (network_g "1111") ≡ networks.network rival_g
  pub not_permitted_g : Permitted (design_g 2) rival_g → ⊥
  -- with g and h the code 11 of f's node is produced by no vertex in any permitted network: its entries are 0
  pub said_forced : examine sheet_forced ≡ valid design_forced
  pub prints_forced : Prints sheet_forced 2 (network_forced "0000")
  pub bytes_forced : length (network_forced "0000") ≡ 160
  pub zero_forced : (w : Network) → Permitted design_forced w → (y : ℕ) → y < 4 → get_or (node_at w.nodes 0).digits (12 + y) false ≡ false
  pub same_forced : check sheet_forced (network_forced "0000") ≡ same
  pub rival_forced : check sheet_forced (network_forced "1111") ≡ same
