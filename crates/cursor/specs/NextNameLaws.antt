-- What stands next in a list of names: a closing bracket, a space with a name after it, or neither. Assumes nothing.
use Rattle.std.specs.Prelude.{◌≡◌, refl, List, [], ◌∷◌, ℕ, ◌<◌, length, drop}
use Rattle.std.proofs.Common.{sym, ap, ◌∙◌, arith, length-drop}
use Rattle.text.specs.Bytes.{found, bad, after, eat, space, close_bracket}
use Rattle.text.specs.EatLaws.{eat-found, eat_lengths}
use Rattle.names.specs.Name.{Name, read_name}
use Rattle.names.specs.Names.{read_names}
use Rattle.names.specs.NameLaws.{read_name_shorter}
use Rattle.names.specs.NamesLaws.{names_end, names_more, names_other, names_empty}
use Rattle.cursor.specs.declared.Cursor.{Cursor}
use Rattle.cursor.specs.EatingLaws.{missing_byte}
use Rattle.cursor.specs.Item.{At, from}
use Rattle.cursor.specs.NextName.{NameNext, NamesEnd}

pub bracket_ends : (s : List ℕ) (at : ℕ) (c : Cursor) → At s tt c (eat (close_bracket ∷ []) (drop at s)) → NamesEnd s at c
bracket_ends s at c h =
    record {
      inside = h.inside;
      is = ap read_names (eat-found (close_bracket ∷ []) (drop at s) (from s c) (sym h.is)) ∙ names_end (from s c);
    }

module _ (s : List ℕ) (at : ℕ) (g : Cursor) (h : At s tt g (eat (space ∷ []) (drop at s))) where
  others : read_names (drop at s) ≡ after (read_name (from s g)) (λ n u. after (read_names u) (λ ns t. found (n ∷ ns) t))
  others = ap read_names (eat-found (space ∷ []) (drop at s) (from s g) (sym h.is)) ∙ names_more (from s g)

  pub name_next : (n : Name) (c : Cursor) → At s n c (read_name (from s g)) → NameNext s at n c
  name_next n c i =
      let d : length (from s c) < length (from s g) = read_name_shorter (from s g) (sym i.is) in
      let l = eat_lengths (space ∷ []) (drop at s) (from s g) (sym h.is) in
      record {
        further = omega (arith, d, l, length-drop c.at s, length-drop at s);
        inside = i.inside;
        is = others ∙ rw (← i.is) refl;
      }

  pub no_name_bad : bad ≡ read_name (from s g) → read_names (drop at s) ≡ bad
  no_name_bad i = others ∙ rw (← i) refl

pub other_bad : (t : List ℕ) → bad ≡ eat (close_bracket ∷ []) t → bad ≡ eat (space ∷ []) t → read_names t ≡ bad
other_bad [] h g = names_empty
other_bad (b ∷ s) h g = names_other b s (missing_byte b close_bracket s h) (missing_byte b space s g)
