-- Laws of the tables of cells in codes: their shape and digits, and that codes with the same digits have the same tables up to a
-- table and a digit of it. Assumes nothing.
use Rattle.std.specs.Prelude.{◌≡◌, refl, Bool, false, List, [], ◌∷◌, ◌++◌, ℕ, zero, suc, ◌+◌, ◌≤◌, ◌<◌, min, length, get_or, take}
use Rattle.std.proofs.Common.{sym, ap, ap₂, ◌∙◌, subst, arith, length-take, ext_get_or, get_or-take, length-take-le}
use Rattle.std.proofs.Math.ListN.{get_or-append}
use Rattle.std.proofs.lemmas.List.{get_or_at}
use Rattle.bits.specs.Digit.{on}
use Rattle.order.specs.TablesLaws.{shaped_at, shaped_of}
use Rattle.cells.specs.CodesLaws.{cells-length}
use Rattle.cells.specs.Core.{Cell, ZeroFirst, cells_from, core_of}
use Rattle.cells.specs.Written.{tables_of}
use Rattle.cells.specs.WrittenLaws.{tables_length, table-length, table-digit, core_code, tables_of_rows}
use Rattle.order.specs.LeastLaws.{take_more}
use Rattle.order.specs.Tables.{Shaped, shaped_none, shaped_more}
use Rattle.order.specs.LeastTables.{table, Agrees, asked}
use Rattle.problem.specs.Problem.{item}
use Rattle.witness.specs.Witness.{Witness}
use Rattle.first.specs.Drawn.{shown, Drawn}

-- ======== lists of digits
-- lists of one length with the same first j digits have the same beginning of j digits
same_digits_take : (j n : ℕ) (a b : List Bool) → length a ≡ n → length b ≡ n → ((x : ℕ) → x < j → x < n → get_or a x false ≡ get_or b x false) → take j a ≡ take j b
same_digits_take j n a b p q h = ext_get_or false (take j a) (take j b) (length-take j a ∙ ap (min j) (p ∙ sym q) ∙ sym (length-take j b))
    (λ x l. let e = length-take j a in
    let f : x < j = omega arith in
    get_or-take j a x false f ∙ h x f (omega arith) ∙ sym (get_or-take j b x false f))

same_tables_take : (i : ℕ) {n u : ℕ} {us ts : List (List Bool)} → Shaped n u us → Shaped n u ts
    → ((k x : ℕ) → k < i → x < n → get_or (table us k) x false ≡ get_or (table ts k) x false) → take i us ≡ take i ts
same_tables_take zero s t h = refl
same_tables_take (suc i) shaped_none shaped_none h = refl
same_tables_take (suc i) {n = n} (shaped_more {a = a} {ps = ps} p s) (shaped_more {a = b} {ps = qs} q t) h = ap₂ (λ (x : List Bool) (l : List (List Bool)). x ∷ l)
    (ext_get_or false a b (p ∙ sym q) (λ x l. h 0 x (omega arith) (omega arith)))
    (same_tables_take i s t (λ k x l m. h (suc k) x (omega arith) m))

-- ======== the question at digit x of table i
-- tables that answer it, from their digits
agrees_of : {n u : ℕ} (i x : ℕ) (ts us : List (List Bool)) → Shaped n u ts → Shaped n u us → i < u → x < n
    → ((k y : ℕ) → k < i → y < n → get_or (table us k) y false ≡ get_or (table ts k) y false)
    → ((y : ℕ) → y < x → get_or (table us i) y false ≡ get_or (table ts i) y false)
    → get_or (table us i) x false ≡ false
    → Agrees i x ts us
agrees_of {n} i x ts us s t h l before here z = record {
  tables = same_tables_take i t s before;
  digits = take_more x (table us i) (subst (λ (m : ℕ). x < m) (sym (shaped_at t i h)) l)
      ∙ ap₂ (λ (a : List Bool) (d : Bool). a ++ (d ∷ []))
      (same_digits_take x n (table us i) (table ts i) (shaped_at t i h) (shaped_at s i h) (λ y b _. here y b)) z;
}

-- and back: the digits of tables that answer it
pub agrees_before : (i x k y : ℕ) (ts us : List (List Bool)) → k < i → Agrees i x ts us → get_or (table us k) y false ≡ get_or (table ts k) y false
agrees_before i x k y ts us h a = ap (λ (t : List Bool). get_or t y false)
    (sym (get_or-take i us k [] h) ∙ ap (λ (l : List (List Bool)). get_or l k []) a.tables ∙ get_or-take i ts k [] h)

agrees-digit : (i x y : ℕ) (ts us : List (List Bool)) → y < suc x → Agrees i x ts us → get_or (table us i) y false ≡ get_or (asked (table ts i) x) y false
agrees-digit i x y ts us h a = sym (get_or-take (suc x) (table us i) y false h) ∙ ap (λ (t : List Bool). get_or t y false) a.digits

pub agrees-here : (i x y : ℕ) (ts us : List (List Bool)) → x < length (table ts i) → y < x → Agrees i x ts us
    → get_or (table us i) y false ≡ get_or (table ts i) y false
agrees-here i x y ts us h l a = agrees-digit i x y ts us (omega arith) a
    ∙ get_or-append (take x (table ts i)) (false ∷ []) false y (subst (λ (m : ℕ). y < m) (sym (length-take-le x (table ts i) (omega arith))) l)
    ∙ get_or-take x (table ts i) y false l

pub agrees_zero : (i x : ℕ) (ts us : List (List Bool)) → x < length (table ts i) → Agrees i x ts us → get_or (table us i) x false ≡ false
agrees_zero i x ts us h a = agrees-digit i x x ts us (omega arith) a
    ∙ get_or_at (take x (table ts i)) false [] false x (length-take-le x (table ts i) (omega arith))

-- ======== cells in codes
cells_shaped : (v : ℕ) (l : List Cell) → Shaped v (length l) (tables_of v l)
cells_shaped v l = subst (λ (n : ℕ). Shaped v n (tables_of v l)) (tables_length v l)
    (shaped_of v (tables_of v l) (λ i h. table-length v i l (let e = tables_length v l in omega arith)))

pub drawn_shaped : (cl budgets : List ℕ) (v m u : ℕ) (ts : List (List Bool)) → Drawn cl budgets v m u ts → Shaped v u ts
drawn_shaped cl budgets v m u ts d =
    subst (λ (n : ℕ). Shaped v n ts) d.counted (subst (λ (l : List (List Bool)). Shaped v (length d.cells) l) d.tables (cells_shaped v d.cells))

pub shown_shaped : (v u : ℕ) (codes : List ℕ) → Shaped v u (shown v u codes)
shown_shaped v u codes = subst (λ (n : ℕ). Shaped v n (shown v u codes)) (cells-length u 0 (λ o. 0) (item codes)) (cells_shaped v (core_of u (λ o. 0) (item codes)))

pub shown-digit : (v u k x : ℕ) (codes : List ℕ) → k < u → x < v → get_or (table (shown v u codes) k) x false ≡ on (item codes x) k
shown-digit v u k x codes h l =
    table-digit v x k (core_of u (λ o. 0) (item codes)) l (let e = cells-length u 0 (λ o. 0) (item codes) in omega arith)
    ∙ core_code x k u (λ o. 0) (item codes) h

-- codes that have the same digits up to a vertex of table i, 0 at that vertex
pub shown-agrees : (v u i x : ℕ) (codes r : List ℕ) → i < u → x < v
    → ((k y : ℕ) → k < i → y < v → on (item r y) k ≡ on (item codes y) k)
    → ((y : ℕ) → y < x → on (item r y) i ≡ on (item codes y) i)
    → on (item r x) i ≡ false
    → Agrees i x (shown v u codes) (shown v u r)
shown-agrees v u i x codes r h l before here z = agrees_of i x (shown v u codes) (shown v u r) (shown_shaped v u codes) (shown_shaped v u r) h l
    (λ k y a b. shown-digit v u k y r (omega arith) b ∙ before k y a b ∙ sym (shown-digit v u k y codes (omega arith) b))
    (λ y a. shown-digit v u i y r h (omega arith) ∙ here y a ∙ sym (shown-digit v u i y codes h (omega arith)))
    (shown-digit v u i x r h l ∙ z)

pub shown-take : (v u i : ℕ) (codes r : List ℕ) → i < u → ((k y : ℕ) → k < i → y < v → on (item r y) k ≡ on (item codes y) k)
    → take i (shown v u r) ≡ take i (shown v u codes)
shown-take v u i codes r h before = same_tables_take i (shown_shaped v u r) (shown_shaped v u codes)
    (λ k y a b. shown-digit v u k y r (omega arith) b ∙ before k y a b ∙ sym (shown-digit v u k y codes (omega arith) b))

pub shown_take_digits : (v u i x : ℕ) (codes r : List ℕ) → i < u → x ≤ v → ((y : ℕ) → y < x → on (item r y) i ≡ on (item codes y) i)
    → take x (table (shown v u r) i) ≡ take x (table (shown v u codes) i)
shown_take_digits v u i x codes r h l same = same_digits_take x v (table (shown v u r) i) (table (shown v u codes) i)
    (shaped_at (shown_shaped v u r) i h) (shaped_at (shown_shaped v u codes) i h)
    (λ y a b. shown-digit v u i y r h b ∙ same y a ∙ sym (shown-digit v u i y codes h b))

-- cells that are 0 at vertex 0, in codes
cells_zero_at : (n i : ℕ) (rows codes : ℕ → ℕ) → ((k : ℕ) → k < n → on (codes 0) (i + k) ≡ false) → ZeroFirst (cells_from n i rows codes)
unfolding cells_from
cells_zero_at zero i rows codes h = tt
cells_zero_at (suc n) i rows codes h = (
  ap (on (codes 0)) (let e : i ≡ i + 0 = omega arith in e) ∙ h 0 (omega arith),
  cells_zero_at n (suc i) rows codes (λ k l. ap (on (codes 0)) (let e : suc i + k ≡ i + suc k = omega arith in e) ∙ h (suc k) (omega arith)),
)

pub cells_at_zero : (n i : ℕ) (rows codes : ℕ → ℕ) → ZeroFirst (cells_from n i rows codes) → (k : ℕ) → k < n → on (codes 0) (i + k) ≡ false
unfolding cells_from
cells_at_zero zero i rows codes z k h = absurd (omega arith)
cells_at_zero (suc n) i rows codes z zero h = ap (on (codes 0)) (let e : i + 0 ≡ i = omega arith in e) ∙ z.0
cells_at_zero (suc n) i rows codes z (suc k) h =
    ap (on (codes 0)) (let e : i + suc k ≡ suc i + k = omega arith in e) ∙ cells_at_zero n (suc i) rows codes z.1 k (omega arith)

pub witness_zero : (cl budgets : List ℕ) (v m u : ℕ) (rows : ℕ → ℕ) (codes : List ℕ) → Witness cl budgets v m u codes → ZeroFirst (core_of u rows (item codes))
witness_zero cl budgets v m u rows codes w =
    cells_zero_at u 0 rows (item codes) (λ k h. ap (on (item codes 0)) (let e : 0 + k ≡ k = omega arith in e) ∙ w.zero k h)

pub witness_drawn : (cl budgets : List ℕ) (v m u : ℕ) (codes : List ℕ) → Witness cl budgets v m u codes → Drawn cl budgets v m u (shown v u codes)
witness_drawn cl budgets v m u codes w = record {
  cells = core_of u w.rows (item codes);
  counted = cells-length u 0 w.rows (item codes);
  serves = w.serves;
  zero = witness_zero cl budgets v m u w.rows codes w;
  tables = tables_of_rows v u 0 w.rows (λ o. 0) (item codes);
}
