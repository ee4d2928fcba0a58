-- What the code puts down one part after the other is a block, or the lines before the blocks. Assumes nothing.
use Rattle.std.specs.Prelude.{◌≡◌, Bool, ℕ, ◌+◌, length}
use Rattle.std.proofs.Common.{sym, ◌∙◌, length-append}
use Rattle.std.proofs.Math.Path.{ap, ap₂}
use mathlib.Core.List.{List, [], ◌∷◌, ◌++◌, map, append_assoc}
use Rattle.std.proofs.lemmas.List.{length-map}
use Rattle.text.specs.Bytes.{bytes, space, newline}
use Rattle.names.specs.Name.{Name}
use Rattle.names.specs.Names.{print_names}
use Rattle.blif.specs.Printer.{cell_name}
use Rattle.blif.specs.Texts.{rows_text, block_text, directive_text, head_text}
use Rattle.blif.specs.ItemLaws.{names_append, name_alone}

pub head_text_lem : (is os : List Name)
    → bytes ".model panel\n.inputs" ++ (print_names is ++ (bytes "\n.outputs" ++ (print_names os ++ (newline ∷ [])))) ≡ head_text is os
unfolding head_text
head_text_lem is os =
    ap (λ (t : List ℕ). bytes ".model panel\n.inputs" ++ t)
    (sym (append_assoc (print_names is) (newline ∷ []) (directive_text (bytes ".outputs") os)))

module _ (n : Name) (f : ℕ → Bool) (count : ℕ) where
  -- what stands after the inputs of a block
  abbrev tail : List ℕ
  tail = (space ∷ n) ++ ((newline ∷ []) ++ rows_text count f)

  pub block_text_lem : (is : List Name) → count ≡ length is → bytes ".names" ++ (print_names is ++ tail) ≡ block_text is n f
  unfolding block_text
  block_text_lem is e =
      let driven : print_names (is ++ (n ∷ [])) ≡ print_names is ++ (space ∷ n)
      = names_append is (n ∷ []) ∙ ap (λ (t : List ℕ). print_names is ++ t) (name_alone n) in
      let rows : rows_text count f ≡ rows_text (length is) f = ap (λ (k : ℕ). rows_text k f) e in
      ap (λ (t : List ℕ). bytes ".names" ++ t)
      (sym (append_assoc (print_names is) (space ∷ n) (newline ∷ rows_text count f))
      ∙ ap₂ (λ (s t : List ℕ). s ++ (newline ∷ t)) (sym driven) rows)

  pub block_text_two : (cs fs : List Name)
      → count ≡ length (cs ++ fs)
      → bytes ".names" ++ (print_names cs ++ (print_names fs ++ tail)) ≡ block_text (cs ++ fs) n f
  block_text_two cs fs e =
      ap (λ (t : List ℕ). bytes ".names" ++ t)
      (sym (append_assoc (print_names cs) (print_names fs) tail) ∙ ap (λ (s : List ℕ). s ++ tail) (sym (names_append cs fs)))
      ∙ block_text_lem (cs ++ fs) e

-- how many inputs a node has
pub two-counted : (is : List ℕ) (fs : List Name) {m n : ℕ} → m ≡ length is → n ≡ length fs → m + n ≡ length (map cell_name is ++ fs)
two-counted is fs {m} {n} e g =
    ap₂ (λ (a b : ℕ). a + b) (e ∙ sym (length-map is cell_name)) g ∙ sym (length-append (map cell_name is) fs)
