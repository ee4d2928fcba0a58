-- One digit more of the least list of tables of a set: the digits before it decide first, and either a member has 0 there or none does.
-- Assumes nothing.
use Rattle.std.specs.Prelude.{◌≡◌, refl, Bool, true, false, List, [], ◌∷◌, ◌++◌, length, get_or, take}
use Rattle.std.proofs.Common.{sym, ap, ap₂, ◌∙◌, subst, length-take}
use Prim.Native.Nat.{ℕ, suc, ◌<◌, min, Ordering}
use Rattle.order.specs.Total.{NotLess}
use Rattle.order.specs.TablesLaws.{shaped_at}
use Rattle.order.specs.Order.{then, list_order, bit_order, table_order, tables_order}
use Rattle.order.specs.OrderLaws.{not_less_eq, then_not_less, then_first, then-second, then-eq, front_first}
use Rattle.order.specs.Tables.{Shaped}
use Rattle.order.specs.LeastLaws.{zero-low, take_more}
use Rattle.order.specs.LeastTables.{table, UptoTables, Agrees, asked}
use Rattle.order.proofs.TotalLaws.{table_total, tables_total}

take-alike : (k : ℕ) (v w : List Bool) → length v ≡ length w → length (take k v) ≡ length (take k w)
take-alike k v w e = length-take k v ∙ ap (min k) e ∙ sym (length-take k w)

-- one digit more: the digits before it decide first
pub digit_more : (k n : ℕ) (v w : List Bool) (d : Bool)
    → length v ≡ n
    → length w ≡ n
    → k < n
    → NotLess (table_order (take k v) (take k w))
    → (take k v ≡ take k w → NotLess (bit_order (get_or v k false) d))
    → NotLess (table_order (take (suc k) v) (take k w ++ (d ∷ [])))
unfolding list_order
digit_more k n v w d lv lw h l g =
    let e = front_first bit_order (take k v) (take k w) (get_or v k false ∷ []) (d ∷ []) (take-alike k v w (lv ∙ sym lw)) in
    subst NotLess
    (sym (ap (λ (x : List Bool). table_order x (take k w ++ (d ∷ []))) (take_more k v (subst (λ (m : ℕ). k < m) (sym lv) h)) ∙ e))
    (then_not_less (table_order (take k v) (take k w)) (then (bit_order (get_or v k false) d) Ordering.eq) l
    (λ q. subst NotLess (sym (then-eq (bit_order (get_or v k false) d))) (g (table_total.equal (take k v) (take k w) q))))

-- a member with 0 there: ts itself, or the answer to the question
pub tables_zero : {P : List (List Bool) → Type 0} {n u i j : ℕ} {ts : List (List Bool)} (vs : List (List Bool))
    → UptoTables P n u i j ts
    → i < u
    → j < n
    → Shaped n u vs
    → P vs
    → Agrees i j ts vs
    → UptoTables P n u i (suc j) vs
tables_zero {P} {n} {u} {i} {j} {ts} vs s h l sv m a = record {
  shaped = sv;
  member = m;
  no_less = λ us su q.
      (let A = tables_order (take i us) (take i ts) in
      let B = table_order (take j (table us i)) (take j (table ts i)) in
      subst (λ (o : Ordering). NotLess o)
      (ap₂ (λ (x : List (List Bool)) (y : List Bool). then (tables_order (take i us) x) (table_order (take (suc j) (table us i)) y))
      (sym a.tables) (sym a.digits))
      (then_not_less A (table_order (take (suc j) (table us i)) (asked (table ts i) j)) (then_first A B (s.no_less us su q))
      (λ e.
      digit_more j n (table us i) (table ts i) false (shaped_at su i h) (shaped_at s.shaped i h) l
      (then-second A B (s.no_less us su q) e) (λ _. zero-low (get_or (table us i) j false)))));
}

-- no member has 0 there
pub tables_one : {P : List (List Bool) → Type 0} {n u i j : ℕ} {ts : List (List Bool)}
    → UptoTables P n u i j ts
    → i < u
    → j < n
    → get_or (table ts i) j false ≡ true
    → ((vs : List (List Bool)) → Shaped n u vs → P vs → Agrees i j ts vs → ⊥)
    → UptoTables P n u i (suc j) ts
tables_one {P} {n} {u} {i} {j} {ts} s h l b none-low = record {
  shaped = s.shaped;
  member = s.member;
  no_less = λ us su q.
      (let A = tables_order (take i us) (take i ts) in
      let B = table_order (take j (table us i)) (take j (table ts i)) in
      subst (λ (y : List Bool). NotLess (then A (table_order (take (suc j) (table us i)) y)))
      (sym (take_more j (table ts i) (subst (λ (m : ℕ). j < m) (sym (shaped_at s.shaped i h)) l)
      ∙ ap (λ (d : Bool). take j (table ts i) ++ (d ∷ [])) b))
      (then_not_less A (table_order (take (suc j) (table us i)) (take j (table ts i) ++ (true ∷ []))) (then_first A B (s.no_less us su q))
      (λ e.
      digit_more j n (table us i) (table ts i) true (shaped_at su i h) (shaped_at s.shaped i h) l
      (then-second A B (s.no_less us su q) e)
      (λ f. high us su q (tables_total.equal (take i us) (take i ts) e) f (get_or (table us i) j false) refl))));
}
  where
    high : (us : List (List Bool))
        → Shaped n u us
        → P us
        → take i us ≡ take i ts
        → take j (table us i) ≡ take j (table ts i)
        → (c : Bool)
        → get_or (table us i) j false ≡ c
        → NotLess (bit_order c true)
    high us su q e f true g = not_less_eq
    high us su q e f false g =
        absurd (none-low us su q (record {
          tables = e;
          digits =
              take_more j (table us i) (subst (λ (m : ℕ). j < m) (sym (shaped_at su i h)) l)
              ∙ ap₂ (λ (x : List Bool) (d : Bool). x ++ (d ∷ [])) f g;
        }))
