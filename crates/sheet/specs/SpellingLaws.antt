-- Where reading is the inverse of printing, a spelling is unique both ways, and a text is misspelled exactly where nothing
-- prints to it. Assumes nothing.
use Rattle.std.specs.Prelude.{◌≡◌, refl, List, ℕ}
use Rattle.std.proofs.Common.{sym, ◌∙◌, arith}
use Rattle.std.proofs.Math.Option.{Option, some, none}
use Rattle.sheet.specs.Spelling.{Inverse}

pub none_some : {A : Type 0} {a : A} → none ≡ some a → ⊥
none_some e =
    let z : ◌≡◌ {A = ℕ} 0 1 = cc in
    omega arith

module _ {A : Type 0} {Writable : A → Type 0} {print : A → List ℕ} {read : List ℕ → Option A} (i : Inverse Writable print read) where
  -- two texts that say the same are the same
  pub one-spelling : (l m : List ℕ) (a : A) → read l ≡ some a → read m ≡ some a → l ≡ m
  one-spelling l m a e f = (i.print_of_read l a e).1 ∙ sym (i.print_of_read m a f).1

  -- two things that are written alike are alike
  pub one_meaning : (a b : A) → Writable a → Writable b → print a ≡ print b → a ≡ b
  one_meaning a b v w e =
      let f = i.read_of_print (print a) a v refl in
      let g = i.read_of_print (print a) b w e in
      cc

  pub misspelled : (l : List ℕ) → read l ≡ none → (a : A) → Writable a → l ≡ print a → ⊥
  misspelled l e a w p = none_some (sym e ∙ i.read_of_print l a w p)

  pub nothing_prints : (l : List ℕ) → ((a : A) → Writable a → l ≡ print a → ⊥) → read l ≡ none
  nothing_prints l h = go (read l) refl
    where
      go : (x : Option A) → read l ≡ x → x ≡ none
      go none e = refl
      go (some a) e =
          let p = i.print_of_read l a e in
          absurd (h a p.0 p.1)
