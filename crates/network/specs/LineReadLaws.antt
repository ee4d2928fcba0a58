-- A lut line and a node line, part after part: the head, what a node reads, the inputs, and the digits up to the line's
-- end. Assumes nothing.
use Rattle.std.specs.Prelude.{◌≡◌, Bool, true, List, [], ◌∷◌, ℕ, ◌+◌, ◌^◌, eqb, Option}
use Rattle.std.proofs.Math.Path.{refl, ap, subst}
use Rattle.std.proofs.Common.{sym, ◌∙◌, arith, ne_eqb}
use Rattle.std.proofs.Math.Option.{some, none}
use Rattle.std.proofs.Math.Option as math
use Rattle.std.proofs.Math.ListN.{length}
use Rattle.text.specs.Bytes.{Read, found, bad, after, eat, whole, close_bracket}
use Rattle.names.specs.Name.{Name}
use Rattle.sheet.specs.Lines.{closed}
use Rattle.cursor.specs.Item.{At, from}
use Rattle.cursor.specs.declared.Cursor.{Cursor}
use Rattle.network.specs.Network.{Node}
use Rattle.network.specs.Reader.{read_digits, read_inputs, read_lut_head, read_reads, read_lut, read_node_head, read_node, read_node_rest, none_of}
use Rattle.network.specs.Numbers.{numbers_of}
use Rattle.network.specs.LineAnswer.{Stands, TableIs, TableRead, ReadsAre, NodeRead}
use Rattle.network.specs.declared.Reads.{Reads}

-- ---- a lut line
module _ (l : List ℕ) (bs : List Name) (i : ℕ) where
  pub lut_no_head : bad ≡ read_lut_head bs i l → none ≡ read_lut bs i l
  unfolding read_lut
  lut_no_head e = rw (← e) refl

  pub lut_digits : {c : Cursor} → At l tt c (read_lut_head bs i l) → (r : Option ℕ) (n k : ℕ) → n ≡ 2 ^ k → k ≡ length bs
      → TableIs l n r (whole (closed (read_digits n (from l c)))) → TableIs l (2 ^ k) r (read_lut bs i l)
  unfolding read_lut
  lut_digits {c} h r n k e f t =
      subst (λ (x : math.Option (List Bool)). TableIs l (2 ^ k) r x)
      (ap (λ (m : ℕ). whole (closed (read_digits (2 ^ m) (from l c)))) f
      ∙ ap (λ (x : Read (Unit {0})). whole (closed (after x (λ _ s. read_digits (2 ^ length bs) s)))) h.is)
      (subst (λ (m : ℕ). TableIs l m r (whole (closed (read_digits m (from l c))))) e t)

-- ---- a node line
none_counted : (is : List ℕ) → none_of is ≡ eqb (length is) 0
none_counted [] = refl
none_counted (i ∷ is) = sym (ne_eqb (length (i ∷ is)) 0 (λ e. omega arith))

-- digits as a node's
abbrev as_node : List ℕ → math.Option (List Bool) → math.Option Node
as_node is none = none
as_node is (some ds) = some (record { reads = is; digits = ds })

node-ends : (is : List ℕ) (q : Read (List Bool))
    → whole (closed (after q (λ ds v. found (record { reads = is; digits = ds }) v))) ≡ as_node is (whole (closed q))
node-ends is bad = refl
node-ends is (found ds v) = go (eat (close_bracket ∷ []) v)
  where
    go : (r : Read (Unit {0}))
        → whole (after r (λ _ t. found (record { reads = is; digits = ds }) t)) ≡ as_node is (whole (after r (λ _ t. found ds t)))
    go bad = refl
    go (found x []) = refl
    go (found x (b ∷ s)) = refl

module _ (l : List ℕ) (n : Name) (fs : List Name) (u : ℕ) where
  pub node_no_head : bad ≡ read_node_head n l → none ≡ read_node n fs u l
  unfolding read_node
  node_no_head e = rw (← e) refl

  module _ {a : Cursor} (h : At l tt a (read_node_head n l)) (w : Reads) (g : ReadsAre l u w (read_reads true u 0 (from l a))) where
    by_reads : read_node n fs u l ≡ whole (closed (read_node_rest fs (numbers_of u w.mask) (from l w.next)))
    unfolding read_node
    by_reads = rw (← h.is, ← g.is) refl

    leads : eqb w.count 0 ≡ none_of (numbers_of u w.mask)
    leads = ap (λ (k : ℕ). eqb k 0) g.counted ∙ sym (none_counted (numbers_of u w.mask))

    pub node_no_inputs : bad ≡ read_inputs (eqb w.count 0) fs (from l w.next) → none ≡ read_node n fs u l
    node_no_inputs e =
        let q : bad ≡ read_inputs (none_of (numbers_of u w.mask)) fs (from l w.next) = e ∙ ap (λ (b : Bool). read_inputs b fs (from l w.next)) leads in
        sym (by_reads ∙ rw (← q) refl)

    module _ {d : Cursor} (i : At l tt d (read_inputs (eqb w.count 0) fs (from l w.next))) (f k : ℕ) (few : f ≡ length fs) (rows : k ≡ 2 ^ (w.count + f)) where
      rows_of : k ≡ 2 ^ (length (numbers_of u w.mask) + f)
      rows_of = rows ∙ ap (λ (m : ℕ). 2 ^ (m + f)) g.counted

      by_digits : read_node n fs u l ≡ as_node (numbers_of u w.mask) (whole (closed (read_digits k (from l d))))
      by_digits =
          let q : found tt (from l d) ≡ read_inputs (none_of (numbers_of u w.mask)) fs (from l w.next) = i.is ∙ ap (λ (b : Bool). read_inputs b fs (from l w.next)) leads in
          let r : 2 ^ (length (numbers_of u w.mask) + length fs) ≡ k = sym (rows_of ∙ ap (λ (m : ℕ). 2 ^ (length (numbers_of u w.mask) + m)) few) in
          by_reads ∙ rw (← q, r) (node-ends (numbers_of u w.mask) (read_digits k (from l d)))

      pub node-no-digits : none ≡ whole (closed (read_digits k (from l d))) → none ≡ read_node n fs u l
      node-no-digits e = sym (by_digits ∙ ap (as_node (numbers_of u w.mask)) (sym e))

      pub node_digits : {at : ℕ} → TableRead l k at (whole (closed (read_digits k (from l d)))) → NodeRead l u f w.mask at (read_node n fs u l)
      node_digits {at} t =
          record {
            node = record { reads = numbers_of u w.mask; digits = t.digits };
            is = ap (as_node (numbers_of u w.mask)) t.is ∙ sym by_digits;
            stands =
                record {
                  reading = refl;
                  stands = subst (λ (m : ℕ). Stands l m at t.digits) rows_of t.stands;
                };
          }
