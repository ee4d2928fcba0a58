-- What a part of an output lacks: how many blocks its classes need besides those that they hold, and which codes their vertices
-- can still take for these; and when that is too little. Assumes nothing.
use Rattle.std.specs.Prelude.{◌≡◌, true, false, List, ◌⊎◌, ℕ, ◌+◌, ◌-◌, ◌*◌, ◌≤◌, ◌<◌, eqb, length, get_or}
use Rattle.std.specs.Int.Bits.{bit_and}
use Rattle.limits.specs.Limits.{max_vertices, max_codes}
use Rattle.bits.specs.Logic.{pick}
use Rattle.bits.specs.Digit.{on}
use Rattle.bits.specs.Count.{sum}
use Rattle.cells.specs.Lists.{All, Pairs}
use Rattle.problem.specs.Problem.{no_code, label_at, part_at, part_of, item, Block}
use Rattle.holding.specs.Wants.{need, share}

-- how many blocks class l of part p needs besides those that it holds; a class of another part none
abbrev pub lack : List ℕ → List ℕ → List ℕ → List ℕ → ℕ → ℕ → ℕ → ℕ
lack cl owns wants base o p l = pick (eqb (part_at cl o l) p) (need wants base o l - get_or owns l 0) 0

-- what the first n classes of o that are of part p hold or need, and what they lack
pub record Lacks (cl owns wants base : List ℕ) (o p n total news : ℕ) : Type 0 where
  pub whole : total ≡ sum (share cl wants base o p) n
  pub lacking : news ≡ sum (lack cl owns wants base o p) n
  pub low : total ≤ n * 255
  pub few : news ≤ n * 255

-- un has what those of the first y vertices can take that have no code and whose class is of part p and lacks blocks, but for the
-- blocks that the class holds
pub record Reached (cl base owns wants codes dom own : List ℕ) (o p y un : ℕ) : Type 0 where
  pub can : (x k : ℕ) → x < y → k < max_codes → no_code ≤ item codes x → part_of cl o x ≡ p → get_or owns (label_at cl o x) 0 < need wants base o (label_at cl o x) → on (item dom x) k ≡ true
      → on (item own (label_at cl o x)) k ≡ false → on un k ≡ true

-- vertices whose codes are in d, each in another block
abbrev pub Apart : ℕ → ℕ → (ℕ → ℕ) → List ℕ → Type 0
Apart mask d g xs = All (λ (x : ℕ). (g x < max_codes) × (on d (g x) ≡ true)) xs × Pairs (λ (x y : ℕ). bit_and (g x) mask ≡ bit_and (g y) mask → ⊥) xs

-- there are always fewer than n of these
pub record Fewer (mask d n : ℕ) : Type 0 where
  pub fewer : (g : ℕ → ℕ) (xs : List ℕ) → Apart mask d g xs → length xs < n

-- all but k of these are in rest
pub record Left (mask d rest k : ℕ) : Type 0 where
  pub left : (g : ℕ → ℕ) (xs : List ℕ) → Apart mask d g xs → (ys : List ℕ) × Apart mask rest g ys × (length xs ≤ length ys + k)

-- of what can be reached fewer than news are in different blocks
abbrev pub Lost : List ℕ → List ℕ → List ℕ → List ℕ → List ℕ → List ℕ → List ℕ → ℕ → ℕ → ℕ → ℕ → ℕ → Type 0
Lost cl base owns wants codes dom own o p mask v news = (un : ℕ) × Reached cl base owns wants codes dom own o p v un × Fewer mask un news

-- some part of o needs more blocks than spot, or lacks more than its vertices can take, where a block has room for one class of
-- each part; bs has the blocks
abbrev pub NoRoom : List ℕ → List ℕ → List ℕ → List ℕ → List ℕ → List ℕ → List ℕ → List ℕ → ℕ → ℕ → ℕ → ℕ → Type 0
NoRoom cl base owns wants codes dom own bs o v cap spot = (p total news : ℕ) × Lacks cl owns wants base o p max_vertices total news
    × ((spot < total) ⊎ ((cap ≤ 1) × ((mask : ℕ) → ((c : ℕ) → c < max_codes → Block mask c (get_or bs (o * max_codes + c) 0)) → Lost cl base owns wants codes dom own o p mask v news)))
