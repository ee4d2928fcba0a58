-- Names held as numbers, one name further: the names from a place on, and the names before it. Assumes nothing.
use Rattle.std.specs.Prelude.{◌≡◌, List, [], ◌∷◌, ◌++◌, map, ℕ, ◌+◌, ◌<◌, length, get_or, take, drop}
use Rattle.std.proofs.lemmas.List.{map-append}
use Rattle.std.proofs.Common.{add-one, drop-cons, take-suc}
use Rattle.names.specs.Pack.{name_of}

module _ (ns : List ℕ) (i : ℕ) (l : i < length ns) where
  pub names_from : map name_of (drop i ns) ≡ name_of (get_or ns i 0) ∷ map name_of (drop (i + 1) ns)
  names_from = rw (add-one, drop-cons ns i 0)

  pub names_before : map name_of (take (i + 1) ns) ≡ map name_of (take i ns) ++ (name_of (get_or ns i 0) ∷ [])
  names_before = rw (add-one, take-suc ns i 0) (map-append name_of (take i ns) (get_or ns i 0 ∷ []))
