-- The shared tables that a node reads: they are read exactly where they stand, by rising number, at the front of a text
-- that goes on with none of the numbers that may follow. A number is one digit, so no name of a shared table begins
-- another's. Assumes nothing.
use Rattle.std.specs.Prelude.{◌≡◌, refl, Bool, true, false, List, [], ◌∷◌, ◌++◌, map, ℕ, zero, suc, ◌+◌, ◌≤◌, ◌<◌, eqb}
use Rattle.std.proofs.Common.{sym, ap, ap₂, ◌∙◌, append_assoc, arith, ne_eqb}
use Rattle.std.proofs.Math.Decide.{ℕ_discrete}
use Rattle.text.specs.Bytes.{Read, found, bad, after, eat, bytes, space}
use Rattle.text.specs.EatLaws.{found-item, found-rest, eat_own, eat-found}
use Rattle.text.specs.Number.{print_number}
use Rattle.text.specs.FigureLaws.{print_digit}
use Rattle.network.specs.Printer.{led, led_all, lut_name}
use Rattle.network.specs.Reader.{read_reads}
use Rattle.network.specs.Reads.{rising_none, rising_more, following, still, ReadsFront}
use Rattle.network.specs.ChainLaws.{eat_parts}
use Rattle.network.specs.RisingLaws.{rising_wider, rising_low, rising_high, rising_later}

-- ---- names of shared tables
-- a text that begins with no underscore begins with no shared table
pub no_underscore : (first : Bool) (j : ℕ) (t : List ℕ)
    → eat (led first (bytes "_")) t ≡ bad
    → eat (led first (lut_name j)) t ≡ bad
unfolding lut_name
no_underscore true j t e =
    sym (eat_parts (bytes "_") (print_number j) t) ∙ ap (λ (r : Read (Unit {0})). after r (λ _ u. eat (print_number j) u)) e
no_underscore false j t e =
    sym (eat_parts (space ∷ bytes "_") (print_number j) t) ∙ ap (λ (r : Read (Unit {0})). after r (λ _ u. eat (print_number j) u)) e

-- no name of a shared table begins another's
digits_apart : (i j : ℕ) → (i ≡ j → ⊥) → eqb (0x30 + i) (0x30 + j) ≡ false
digits_apart i j d = ne_eqb (0x30 + i) (0x30 + j) (λ e. d (omega arith))

luts-apart : (first : Bool) (i j : ℕ) (t : List ℕ)
    → i < 10
    → j < 10
    → (i ≡ j → ⊥)
    → eat (led first (lut_name i)) (led first (lut_name j) ++ t) ≡ bad
unfolding lut_name eat
luts-apart true i j t h k d = rw (print_digit i h, print_digit j k, digits_apart i j d) refl
luts-apart false i j t h k d = rw (print_digit i h, print_digit j k, digits_apart i j d) refl

-- ---- the reader, step by step
reads_none : (first : Bool) (i : ℕ) (s : List ℕ) → read_reads first zero i s ≡ found [] s
unfolding read_reads
reads_none first i s = refl

reads_skip : (first : Bool) (k i : ℕ) (s : List ℕ)
    → eat (led first (lut_name i)) s ≡ bad
    → read_reads first (suc k) i s ≡ read_reads first k (suc i) s
unfolding read_reads
reads_skip first k i s e = rw e refl

reads-take : (first : Bool) (k i : ℕ) (s t is u : List ℕ)
    → eat (led first (lut_name i)) s ≡ found tt t
    → read_reads false k (suc i) t ≡ found is u
    → read_reads first (suc k) i s ≡ found (i ∷ is) u
unfolding read_reads
reads-take first k i s t is u e f = rw (e, f) refl

-- ---- what was read stands at the front
-- reading finds some shared tables
abbrev Finds : Bool → ℕ → ℕ → List ℕ → Type 0
Finds first k i s = (is : List ℕ) × (t : List ℕ) × (read_reads first k i s ≡ found is t)

-- it always does, if only none of them
finds_by : (first : Bool) (k i : ℕ) (s : List ℕ) (r : Read (Unit {0}))
    → eat (led first (lut_name i)) s ≡ r
    → ((t : List ℕ) → Finds false k (suc i) t)
    → Finds first k (suc i) s
    → Finds first (suc k) i s
finds_by first k i s (found a t) e f g =
    let (is, u, h) = f t in
    (i ∷ is, u, reads-take first k i s t is u e h)
finds_by first k i s bad e f g = (g.0, g.1, reads_skip first k i s e ∙ g.2)

reads-found : (first : Bool) (k i : ℕ) (s : List ℕ) → Finds first k i s
reads-found first zero i s = ([], s, reads_none first i s)
reads-found first (suc k) i s =
    finds_by first k i s (eat (led first (lut_name i)) s) refl (λ t. reads-found false k (suc i) t) (reads-found first k (suc i) s)

-- shared table i is not there
no_more_skip : (first : Bool) (i u : ℕ) (s is t : List ℕ)
    → eat (led first (lut_name i)) s ≡ bad
    → s ≡ led_all first (map lut_name is) ++ t
    → ((j : ℕ) → following (suc i) is ≤ j → j < u → eat (led (still first is) (lut_name j)) t ≡ bad)
    → (j : ℕ) → following i is ≤ j → j < u → eat (led (still first is) (lut_name j)) t ≡ bad
unfolding led_all
no_more_skip first i u s [] t e p h j l m =
    elim (ℕ_discrete i j) as (λ _. eat (led first (lut_name j)) t ≡ bad) [
      | yes q ↦ ap₂ (λ (a : ℕ) (x : List ℕ). eat (led first (lut_name a)) x) (sym q) (sym p) ∙ e
      | no d ↦ h j (omega arith) m
    ]
no_more_skip first i u s (a ∷ is) t e p h j l m = h j l m

front_skip : (first : Bool) (i u : ℕ) (s is t : List ℕ)
    → eat (led first (lut_name i)) s ≡ bad
    → ReadsFront first (suc i) u s is t
    → ReadsFront first i u s is t
front_skip first i u s is t e f =
    record {
      rises = rising_wider i u (omega arith) (omega arith) f.rises;
      is_split = f.is_split;
      no_more = no_more_skip first i u s is t e f.is_split f.no_more;
    }

-- shared table i is there
front-take : (first : Bool) (i u : ℕ) (s v is t : List ℕ)
    → i < u
    → eat (led first (lut_name i)) s ≡ found tt v
    → ReadsFront false (suc i) u v is t
    → ReadsFront first i u s (i ∷ is) t
unfolding led_all
front-take first i u s v is t h e f =
    record {
      rises = rising_more {i = i} {j = i} (omega arith) h f.rises;
      is_split = eat-found (led first (lut_name i)) s v e
          ∙ ap (λ (x : List ℕ). led first (lut_name i) ++ x) f.is_split
          ∙ sym (append_assoc (led first (lut_name i)) (led_all false (map lut_name is)) t);
      no_more = go is f.no_more;
    }
  where
    go : (js : List ℕ)
        → ((j : ℕ) → following (suc i) js ≤ j → j < u → eat (led (still false js) (lut_name j)) t ≡ bad)
        → (j : ℕ) → following (suc i) js ≤ j → j < u → eat (led false (lut_name j)) t ≡ bad
    go [] h = h
    go (a ∷ js) h = h

fronts_by : (first : Bool) (k i u : ℕ) (s is t : List ℕ) (r : Read (Unit {0}))
    → i < u
    → eat (led first (lut_name i)) s ≡ r
    → ((v js x : List ℕ) → read_reads false k (suc i) v ≡ found js x → ReadsFront false (suc i) u v js x)
    → (read_reads first k (suc i) s ≡ found is t → ReadsFront first (suc i) u s is t)
    → read_reads first (suc k) i s ≡ found is t
    → ReadsFront first i u s is t
fronts_by first k i u s is t (found a v) l q f g e =
    let (js, x, h) = reads-found false k (suc i) v in
    let p : found (i ∷ js) x ≡ found is t = sym (reads-take first k i s v js x q h) ∙ e in
    rw (found-item p, found-rest p) at (front-take first i u s v js x l q (f v js x h))
fronts_by first k i u s is t bad l q f g e = front_skip first i u s is t q (g (sym (reads_skip first k i s q) ∙ e))

pub reads_print_of_read : (first : Bool) (k i u : ℕ) (s is t : List ℕ)
    → i + k ≡ u
    → read_reads first k i s ≡ found is t
    → ReadsFront first i u s is t
unfolding led_all
reads_print_of_read first zero i u s is t q e =
    let p : found [] s ≡ found is t = sym (reads_none first i s) ∙ e in
    let r : ReadsFront first i u s [] t =
    record { rises = rising_none; is_split = found-rest p; no_more = λ j l m. absurd (omega arith) } in
    rw (found-item p) at r
reads_print_of_read first (suc k) i u s is t q e =
    fronts_by first k i u s is t (eat (led first (lut_name i)) s) (omega arith) refl
    (λ v js x h. reads_print_of_read false k (suc i) u v js x (omega arith) h)
    (λ h. reads_print_of_read first k (suc i) u s is t (omega arith) h)
    e

-- ---- what stands at the front is read
front_none : (first : Bool) (k i u : ℕ) (s t : List ℕ)
    → i + k ≡ u
    → ReadsFront first i u s [] t
    → read_reads first k i s ≡ found [] t
unfolding led_all
front_none first zero i u s t q f = reads_none first i s ∙ ap (λ (x : List ℕ). found [] x) f.is_split
front_none first (suc k) i u s t q f =
    reads_skip first k i s
    (ap (λ (x : List ℕ). eat (led first (lut_name i)) x) f.is_split ∙ f.no_more i (omega arith) (omega arith))
    ∙ front_none first k (suc i) u s t (omega arith)
    (record { rises = rising_none; is_split = f.is_split; no_more = λ j l m. f.no_more j (omega arith) m })

-- the shared tables after the first
front-later : (first : Bool) (i u a : ℕ) (s is t : List ℕ)
    → ReadsFront first i u s (a ∷ is) t
    → ReadsFront false (suc a) u (led_all false (map lut_name is) ++ t) is t
front-later first i u a s is t f = record { rises = rising_later f.rises; is_split = refl; no_more = go is f.no_more }
  where
    go : (js : List ℕ)
        → ((j : ℕ) → following (suc a) js ≤ j → j < u → eat (led false (lut_name j)) t ≡ bad)
        → (j : ℕ) → following (suc a) js ≤ j → j < u → eat (led (still false js) (lut_name j)) t ≡ bad
    go [] h = h
    go (b ∷ js) h = h

first_split : (first : Bool) (i u a : ℕ) (s is t : List ℕ)
    → ReadsFront first i u s (a ∷ is) t
    → s ≡ led first (lut_name a) ++ (led_all false (map lut_name is) ++ t)
unfolding led_all
first_split first i u a s is t f = f.is_split ∙ append_assoc (led first (lut_name a)) (led_all false (map lut_name is)) t

pub reads_read_of_print : (first : Bool) (k i u : ℕ) (s is t : List ℕ)
    → i + k ≡ u
    → u ≤ 10
    → ReadsFront first i u s is t
    → read_reads first k i s ≡ found is t
reads_read_of_print first k i u s [] t q h f = front_none first k i u s t q f
reads_read_of_print first zero i u s (a ∷ is) t q h f = absurd (omega (arith, rising_low f.rises, rising_high f.rises))
reads_read_of_print first (suc k) i u s (a ∷ is) t q h f =
    let l = rising_low f.rises in
    let m = rising_high f.rises in
    let v = led_all false (map lut_name is) ++ t in
    elim (ℕ_discrete a i) as (λ _. read_reads first (suc k) i s ≡ found (a ∷ is) t) [
      | yes p ↦
          reads-take first k i s v is t
          (ap (λ (x : List ℕ). eat (led first (lut_name i)) x)
          (first_split first i u a s is t f ∙ ap (λ (j : ℕ). led first (lut_name j) ++ v) p)
          ∙ eat_own (led first (lut_name i)) v)
          (reads_read_of_print false k (suc i) u v is t (omega arith) h
          (rw p at (front-later first i u a s is t f)))
          ∙ ap (λ (j : ℕ). found (j ∷ is) t) (sym p)
      | no d ↦
          reads_skip first k i s
          (ap (λ (x : List ℕ). eat (led first (lut_name i)) x) (first_split first i u a s is t f)
          ∙ luts-apart first i a v (omega arith) (omega arith) (λ e. d (sym e)))
          ∙ reads_read_of_print first k (suc i) u s (a ∷ is) t (omega arith) h
          (record {
            rises = rising_more {i = suc i} {u = u} {j = a} (omega arith) m (rising_later f.rises);
            is_split = f.is_split;
            no_more = f.no_more;
          })
    ]
