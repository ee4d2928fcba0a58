-- A search with a limit may be given up: then it is unsure, and says nothing. Without a limit it is not given up. Assumes
-- nothing.
use Rattle.std.specs.Prelude.{◌≡◌, ℕ, ◌-◌, ◌^◌, Bool, false}

-- the limit of a search that is not given up
abbrev pub no_limit : ℕ
no_limit = 2 ^ 64 - 1

-- what a search with this limit says where it is not unsure
pub record Sure (limit : ℕ) (unsure : Bool) (says : Type 0) : Type 0 where
  pub sure : unsure ≡ false → says
  pub never : limit ≡ no_limit → unsure ≡ false
