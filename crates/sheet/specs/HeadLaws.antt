-- A line is a head word and what follows it. Where the rest of the line is read just as it is written, so is the line; and so
-- is an item with the bracket that closes the line, where the item before the bracket is. Assumes nothing.
use Rattle.std.specs.Prelude.{◌≡◌, refl, List, [], ◌∷◌, ◌++◌, ℕ}
use Rattle.std.proofs.Common.{sym, ap, ap₂, ◌∙◌}
use Rattle.text.specs.Bytes.{Read, found, bad, after, eat, whole, close_bracket}
use Rattle.text.specs.EatLaws.{bad_found, found-item, found-rest, eat_own, eat-found, after-found, whole-found, found-whole}
use Rattle.sheet.specs.Lines.{closed}
use Rattle.sheet.specs.Spelling.{Inverse}

-- ---- a head word, and what follows it to the line's end
pub head_inverse : {A : Type 0} {Writable : A → Type 0} {print : A → List ℕ} (w : List ℕ) (item : List ℕ → Read A)
    → Inverse Writable print (λ s. whole (item s))
    → Inverse Writable (λ a. w ++ print a) (λ l. whole (after (eat w l) (λ _ s. item s)))
head_inverse {A} {Writable} {print} w item i =
    record {
      read_of_print = λ l a h e.
          ap (λ (x : List ℕ). whole (after (eat w x) (λ _ s. item s))) e
          ∙ ap (λ (r : Read (Unit {0})). whole (after r (λ _ s. item s))) (eat_own w (print a))
          ∙ i.read_of_print (print a) a h refl;
      print_of_read = λ l a e.
          let f = after-found (eat w l) (λ _ s. item s) a [] (whole-found (after (eat w l) (λ _ s. item s)) a e) in
          let p = i.print_of_read f.1 a (found-whole (item f.1) a f.3) in
          (p.0, eat-found w l f.1 f.2 ∙ ap (λ (x : List ℕ). w ++ x) p.1);
    }

-- ---- an item and the bracket that closes the line
closed-found : {A : Type 0} (r : Read A) (a : A) → closed r ≡ found a [] → r ≡ found a (close_bracket ∷ [])
closed-found bad a e = absurd (bad_found e)
closed-found (found b t) a e =
    let f = after-found (eat (close_bracket ∷ []) t) (λ _ u. found b u) a [] e in
    let g = eat-found (close_bracket ∷ []) t f.1 f.2 in
    ap₂ found (found-item f.3) (g ∙ ap (λ (u : List ℕ). close_bracket ∷ u) (found-rest f.3))

found-closed : {A : Type 0} (r : Read A) (a : A) → r ≡ found a (close_bracket ∷ []) → closed r ≡ found a []
unfolding eat
found-closed r a e = rw e refl

closed_after : {A B : Type 0} (r : Read A) (f : List ℕ → Read B) → closed (after r (λ _ s. f s)) ≡ after r (λ _ s. closed (f s))
closed_after (found a s) f = refl
closed_after bad f = refl

-- an item and the bracket, where the item is read before a bracket exactly where its print stands
pub closed_inverse : {A : Type 0} {Writable : A → Type 0} (print : A → List ℕ) (item : List ℕ → Read A)
    → ((a : A) → Writable a → item (print a) ≡ found a (close_bracket ∷ []))
    → ((s : List ℕ) (a : A) → item s ≡ found a (close_bracket ∷ []) → Writable a × (s ≡ print a))
    → Inverse Writable print (λ s. whole (closed (item s)))
closed_inverse print item to back =
    record {
      read_of_print = λ s a h e. found-whole (closed (item s)) a (found-closed (item s) a (ap item e ∙ to a h));
      print_of_read = λ s a e. back s a (closed-found (item s) a (whole-found (closed (item s)) a e));
    }

pub item_line_inverse : {A : Type 0} {Writable : A → Type 0} {print : A → List ℕ} (w : List ℕ) (item : List ℕ → Read A)
    → Inverse Writable print (λ s. whole (closed (item s)))
    → Inverse Writable (λ a. w ++ print a) (λ l. whole (closed (after (eat w l) (λ _ s. item s))))
item_line_inverse w item i =
    let j = head_inverse w (λ s. closed (item s)) i in
    record {
      read_of_print = λ l a h e. ap whole (closed_after (eat w l) item) ∙ j.read_of_print l a h e;
      print_of_read = λ l a e. j.print_of_read l a (ap whole (sym (closed_after (eat w l) item)) ∙ e);
    }
