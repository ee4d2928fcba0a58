-- The lines of a design sheet (clauses 4.2 to 4.7): what each kind says, how it is written, and how it is read. Assumes nothing.
use Rattle.std.specs.Prelude.{List, [], ◌∷◌, ◌++◌, ℕ}
use Rattle.std.proofs.Math.Option.{Option}
use Rattle.text.specs.Bytes.{bytes, Read, found, after, eat, whole, space, close_bracket}
use Rattle.names.specs.Name.{Name, read_name}
use Rattle.names.specs.Names.{print_names, read_names}
use Rattle.text.specs.Number.{read_number, print_number}
use Rattle.formula.specs.Tree.{Formula}
use Rattle.formula.specs.Printer.{print}
use Rattle.formula.specs.Reader.{read_formula}

-- an `out` line: NAME and F
pub record Output : Type 0 where
  pub name : Name
  pub formula : Formula

-- ---- how each kind of line is written
abbrev pub design_line : List ℕ
design_line = bytes "(design 1)"

abbrev pub end_line : List ℕ
end_line = bytes "(end)"

-- the `in` line and the `bound` line
unfoldable pub print_in : List Name → List ℕ
print_in ns = bytes "(in" ++ (print_names ns ++ (close_bracket ∷ []))

unfoldable pub print_bound : List Name → List ℕ
print_bound ns = bytes "(bound" ++ (print_names ns ++ (close_bracket ∷ []))

unfoldable pub print_limit : ℕ → List ℕ
print_limit n = bytes "(limit " ++ (print_number n ++ (close_bracket ∷ []))

unfoldable pub print_out : Output → List ℕ
print_out o = bytes "(out " ++ (o.name ++ (space ∷ (print o.formula ++ (close_bracket ∷ []))))

-- ---- how each kind of line is read
unfoldable pub read_in : List ℕ → Option (List Name)
read_in l = whole (after (eat (bytes "(in") l) (λ _ s. read_names s))

unfoldable pub read_bound : List ℕ → Option (List Name)
read_bound l = whole (after (eat (bytes "(bound") l) (λ _ s. read_names s))

-- an item and the closing bracket after it
abbrev pub closed : {A : Type 0} → Read A → Read A
closed r = after r (λ a s. after (eat (close_bracket ∷ []) s) (λ _ t. found a t))

unfoldable pub read_limit : List ℕ → Option ℕ
read_limit l = whole (closed (after (eat (bytes "(limit ") l) (λ _ s. read_number s)))

abbrev pub read_output : List ℕ → Read Output
read_output s =
    after (read_name s) (λ n t.
    after (eat (space ∷ []) t) (λ _ u.
    after (read_formula u) (λ f v. found (record { name = n; formula = f }) v)))

unfoldable pub read_out : List ℕ → Option Output
read_out l = whole (closed (after (eat (bytes "(out ") l) (λ _ s. read_output s)))
