-- The sheets to try that are marked P (section 16 of docs/SPECIFICATION.md), about the definitions: what every outcome of Map is
-- on sheets A to H, what Check answers on J, and what Table, Map and Check answer on K. To be held beside that section.
-- Assumes nothing.
use Rattle.std.specs.Prelude.{◌≡◌, List, [], ◌++◌, ℕ, ◌≤◌, ◌<◌, length}
use Prim.Native.String.{String}
use Rattle.std.proofs.lemmas.List.Edits.{sets}
use Rattle.text.specs.Bytes.{bytes}
use Rattle.sheet.specs.Examine.{Design, Examined, valid, examine}
use Rattle.design.specs.Tabulate.{tabulate, untouched}
use Rattle.classes.specs.Classes.{local_count, global_count}
use Rattle.classes.specs.Width.{width}
use Rattle.network.specs.Check as checks
use Rattle.network.specs.Check.{check}
use Rattle.mapper.specs.Map.{MapAnswer, refused_by, mapped, OutcomeOf, Outcome}

-- the definition allows an outcome of Map on what was examined and the buffer b
pub record HasOutcome (x : Examined) (b : List ℕ) : Type 0 where
  pub answer : MapAnswer
  pub buffer : List ℕ
  pub is_outcome : OutcomeOf x b answer buffer

-- ======== what is said of Map on a sheet s, for all buffers and every outcome that its definition allows; and that it allows one
-- it refuses by number q and line l
pub record Refuses (s : List ℕ) (q l : ℕ) : Type 0 where
  pub has_outcome : (b : List ℕ) → HasOutcome (examine s) b
  pub answers : (b : List ℕ) (a : MapAnswer) (b' : List ℕ) → Outcome s b a b' → a ≡ refused_by q l
  pub untouched : (b : List ℕ) (a : MapAnswer) (b' : List ℕ) → Outcome s b a b' → b' ≡ b

-- it maps, with U = u and the length n; a buffer of fewer bytes is refused by 9
pub record Maps (s : List ℕ) (u n : ℕ) : Type 0 where
  pub has_outcome : (b : List ℕ) → HasOutcome (examine s) b
  pub answers : (b : List ℕ) (a : MapAnswer) (b' : List ℕ) → n ≤ length b → Outcome s b a b' → a ≡ mapped u n
  pub short : (b : List ℕ) (a : MapAnswer) (b' : List ℕ) → length b < n → Outcome s b a b' → a ≡ refused_by 9 0
  pub untouched : (b : List ℕ) (a : MapAnswer) (b' : List ℕ) → length b < n → Outcome s b a b' → b' ≡ b

-- it maps, and what it writes is t
pub record Prints (s : List ℕ) (u : ℕ) (t : List ℕ) : Type 0 where
  pub maps : Maps s u (length t)
  pub writes : (b : List ℕ) (a : MapAnswer) (b' : List ℕ) → length t ≤ length b → Outcome s b a b' → b' ≡ sets b 0 t

-- ======== the sheets
abbrev pub sheet_a : List ℕ
sheet_a =
    bytes "(design 1)\n(in a b c d)\n(bound a b c)\n(limit 2)\n"
    ++ bytes "(out f (xor a b c d))\n(out g (and (xor a b c) d))\n(end)\n"

abbrev pub network_a : List ℕ
network_a =
    bytes "(network 1)\n(lut _0 (a b c) 01101001)\n"
    ++ bytes "(node f (_0 d) 0110)\n(node g (_0 d) 0001)\n(count 1)\n(end)\n"

-- C, D and G by their limits
abbrev pub sheet_c : String → List ℕ
sheet_c n =
    bytes "(design 1)\n(in a b c)\n(bound a b)\n(limit "
    ++ (bytes n ++ bytes ")\n(out f (xor a c))\n(out g (xor b c))\n(end)\n")

-- C's network at limit 2
abbrev pub network_c : List ℕ
network_c =
    bytes "(network 1)\n(lut _0 (a b) 0011)\n(lut _1 (a b) 0101)\n"
    ++ bytes "(node f (_0 c) 0110)\n(node g (_1 c) 0110)\n(count 2)\n(end)\n"

abbrev pub sheet_d : String → List ℕ
sheet_d n =
    bytes "(design 1)\n(in a b c)\n(bound a b)\n(limit "
    ++ (bytes n ++ bytes ")\n(out f (xor a c))\n(out g (xor b c))\n(out h (xor a b c))\n(end)\n")

-- D's network at limit 3
abbrev pub network_d : List ℕ
network_d =
    bytes "(network 1)\n(lut _0 (a b) 0011)\n(lut _1 (a b) 0101)\n(lut _2 (a b) 0110)\n"
    ++ bytes "(node f (_0 c) 0110)\n(node g (_1 c) 0110)\n(node h (_2 c) 0110)\n(count 3)\n(end)\n"

abbrev pub sheet_e : List ℕ
sheet_e =
    bytes "(design 1)\n(in a b c d)\n(bound a b)\n(limit 2)\n"
    ++ bytes "(out f (or (and a c) (and b d)))\n(out g (xor a b c))\n(end)\n"

abbrev pub network_e : List ℕ
network_e =
    bytes "(network 1)\n(lut _0 (a b) 0011)\n(lut _1 (a b) 0110)\n"
    ++ bytes "(node f (_0 _1 c d) 0000010101110011)\n(node g (_1 c d) 00111100)\n(count 2)\n(end)\n"

abbrev pub sheet_f : List ℕ
sheet_f = bytes "(design 1)\n(in a b c d)\n(bound a b)\n(limit 0)\n(out f (or c d))\n(end)\n"

abbrev pub network_f : List ℕ
network_f = bytes "(network 1)\n(node f (c d) 0111)\n(count 0)\n(end)\n"

abbrev pub sheet_g : String → List ℕ
sheet_g n =
    bytes "(design 1)\n(in a b c d)\n(bound a b)\n(limit "
    ++ (bytes n ++ bytes ")\n(out f (or (and a b c) (and (xor a b) d)))\n(end)\n")

abbrev pub sheet_h : List ℕ
sheet_h = bytes "(design 1)\n(in a b)\n(bound a b)\n(limit 1)\n(out f (and a b))\n(end)\n"

abbrev pub network_h : List ℕ
network_h = bytes "(network 1)\n(lut _0 (a b) 0001)\n(node f (_0) 01)\n(count 1)\n(end)\n"

-- J: networks beside sheet A
abbrev pub network_j : List ℕ
network_j =
    bytes "(network 1)\n(lut _0 (a b c) 01101001)\n"
    ++ bytes "(node f (_0 d) 0110)\n(node g (_0 d) 0011)\n(count 1)\n(end)\n"

abbrev pub complement_j : List ℕ
complement_j =
    bytes "(network 1)\n(lut _0 (a b c) 10010110)\n"
    ++ bytes "(node f (_0 d) 1001)\n(node g (_0 d) 0100)\n(count 1)\n(end)\n"

-- K: a sheet whose limit is 7
abbrev pub sheet_k : List ℕ
sheet_k = bytes "(design 1)\n(in a b)\n(bound a)\n(limit 7)\n(out f (and a b))\n(end)\n"

-- ======== what section 16 says of them
pub record Worked : Type 0 where
  -- A (clause 16.1)
  pub sheet_a_lem : Prints sheet_a 1 network_a
  pub bytes_a : length network_a ≡ 96
  -- B (clause 16.2)
  pub buffer_95 : (b : List ℕ) (a : MapAnswer) (b' : List ℕ) → length b ≡ 95 → Outcome sheet_a b a b' → a ≡ refused_by 9 0
  pub untouched_95 : (b : List ℕ) (a : MapAnswer) (b' : List ℕ) → length b ≡ 95 → Outcome sheet_a b a b' → b' ≡ b
  pub buffer_96 : (b : List ℕ) (a : MapAnswer) (b' : List ℕ) → length b ≡ 96 → Outcome sheet_a b a b' → a ≡ mapped 1 96
  -- C (clause 16.3)
  pub sheet_c_1 : Refuses (sheet_c "1") 8 0
  pub sheet_c_2 : Prints (sheet_c "2") 2 network_c
  pub bytes_c : length network_c ≡ 110
  -- D (clause 16.4)
  pub sheet_d_2 : Refuses (sheet_d "2") 8 0
  pub sheet_d_3 : Prints (sheet_d "3") 3 network_d
  pub bytes-d : length network_d ≡ 151
  pub classes_d : (d : Design) → examine (sheet_d "3") ≡ valid d → global_count d d.bound ≡ 4
  -- E (clause 16.5)
  pub sheet_e_lem : Prints sheet_e 2 network_e
  pub bytes_e : length network_e ≡ 133
  -- F (clause 16.6)
  pub sheet_f_lem : Prints sheet_f 0 network_f
  -- G (clause 16.7)
  pub classes_g : (d : Design) → examine (sheet_g "1") ≡ valid d → local_count d d.bound 0 ≡ 3
  pub width_g : (d : Design) → examine (sheet_g "1") ≡ valid d → width d d.bound 0 ≡ 2
  pub sheet_g_1 : Refuses (sheet_g "1") 8 0
  -- H (clause 16.8)
  pub sheet_h_lem : Prints sheet_h 1 network_h
  pub bytes_h : length network_h ≡ 65
  -- J (clause 16.10)
  pub sheet_j : check sheet_a network_j ≡ checks.differs 1 2
  pub sheet_j_complement : check sheet_a complement_j ≡ checks.same
  -- K (clause 16.11)
  pub empty-table : (o : ℕ) (b : List ℕ) → tabulate [] o b ≡ untouched 1 0 b
  pub empty-map : Refuses [] 1 0
  pub empty-check : (t : List ℕ) → check [] t ≡ checks.refused_by 1 0
  pub limit_7_table : (o : ℕ) (b : List ℕ) → tabulate sheet_k o b ≡ untouched 3 4 b
  pub limit_7_map : Refuses sheet_k 3 4
  pub limit_7_check : (t : List ℕ) → check sheet_k t ≡ checks.refused_by 3 4
