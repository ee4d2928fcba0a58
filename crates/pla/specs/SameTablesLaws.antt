-- Two designs that differ in their formulas alone, and have the same tables, have the same classes, widths, networks and network
-- sheets, and Table and Check answer the same on both. Assumes nothing.
use Rattle.std.specs.Prelude.{◌≡◌, Bool, ◌&&◌, ◌||◌, leb, ltb, get_or}
use Rattle.std.proofs.Math.Path.{refl, sym, ap, ap₂}
use Rattle.std.proofs.Common.{◌∙◌, subst, arith}
use Rattle.std.proofs.Math.Bool.{not}
use mathlib.Core.List.{List, [], ◌∷◌, ◌++◌}
use Rattle.std.proofs.Math.Option.{Option, some, none}
use Prim.Native.Nat.{ℕ, zero, suc, ◌+◌, ◌^◌, ◌≤◌, ◌<◌}
use Rattle.std.proofs.Math.Decide.{dec_lt}
use Rattle.std.proofs.Math.ListN.{length}
use Rattle.std.proofs.lemmas.List.{length-map}
use Rattle.std.proofs.Math.Seq.{sets}
use Rattle.bits.specs.Logic.{pick, xorb}
use Rattle.bits.specs.ValuesLaws.{values_same}
use Rattle.limits.specs.Limits.{max_cells, max_network, first_lut}
use Rattle.text.specs.Line.{lines, ended_lines, ends_line, is_last}
use Rattle.rows.specs.DigitLaws.{digits_same}
use Rattle.names.specs.Name.{Name}
use Rattle.formula.specs.Value.{value, on_row}
use Rattle.sheet.specs.Lines.{Output, end_line}
use Rattle.sheet.specs.Examine.{Design, valid, output_names, within, with_outputs}
use Rattle.sheet.specs.Value.{output_on}
use Rattle.design.specs.Tabulate.{written, untouched, table_of, table_digits, row_count}
use Rattle.classes.specs.Columns.{free, join_row, value_at, column, same_values, alike, alike_upto, alike_in_all, vertex_count, free_count}
use Rattle.classes.specs.Classes.{local_count, global_count}
use Rattle.classes.specs.Width.{width_of, width, budget}
use Rattle.classes.specs.ClassLaws.{count-agrees}
use Rattle.classes.specs.JoinLaws.{join-lt}
use Rattle.network.specs.Network.{Network, Node}
use Rattle.network.specs.Printer.{network_line, lut_lines, node_lines, print_count, network_lines, print_network}
use Rattle.network.specs.Reader.{read_lut, read_node}
use Rattle.network.specs.Examine as e
use Rattle.network.specs.Examine.{Answer, bad_line, network, Step, misspelled, next, Place, at_network, at_luts, at_count, at_end_lem, over, at_node}
use Rattle.network.specs.Examine.{with_node, node_step, ask_node, lut_step, ask_lut, ask_line, follow, ask_lines, read_network, wide_node, offending}
use Rattle.network.specs.Value.{lut_on, node_row, network_on}
use Rattle.network.specs.Check.{first_of, differs_on, differing_row, at_row, compare_from, judge, beside, compare_pair, examine_pair, check_of}

-- ---- lists
past : {A : Type 0} (l : List A) (a : A) (i : ℕ) → (i < length l → ⊥) → get_or l i a ≡ a
past [] a i h = refl
past (b ∷ l) a zero h = absurd (h (omega arith))
past (b ∷ l) a (suc i) h = past l a i (λ k. h (omega (arith, k)))

first_of_same : (f g : ℕ → Bool) (k i : ℕ) → ((j : ℕ) → i ≤ j → j < i + k → f j ≡ g j) → first_of f k i ≡ first_of g k i
unfolding first_of
first_of_same f g zero i h = refl
first_of_same f g (suc k) i h =
    ap₂ (λ (b : Bool) (later : Option ℕ). pick b (some i) later) (h i (omega arith) (omega arith))
    (first_of_same f g k (suc i) (λ j a b. h j (omega arith) (omega arith)))

-- ---- a design with other outputs
abbrev pub SameValues : Design → List Output → Type 0
SameValues d ps = (o r : ℕ) → o < length d.outputs → r < 2 ^ length d.inputs → output_on d o r ≡ output_on (with_outputs d ps) o r

abbrev name_of : Output → Name
name_of o = o.name

module _ (d : Design) (ps : List Output) (names : output_names d.outputs ≡ output_names ps) (values : SameValues d ps) where
  pub count_same : length d.outputs ≡ length ps
  count_same = sym (length-map d.outputs name_of) ∙ ap length names ∙ length-map ps name_of

  -- an output that is not there is 0 in both
  pub value_same : (o r : ℕ) → r < 2 ^ length d.inputs → output_on d o r ≡ output_on (with_outputs d ps) o r
  unfolding output_on
  value_same o r l =
      elim (dec_lt o (length d.outputs)) as (λ _. output_on d o r ≡ output_on (with_outputs d ps) o r) [
        | yes k ↦ values o r k l
        | no k ↦ ap (λ (x : Output). value (on_row d.inputs r) x.formula)
            (past d.outputs _ o k ∙ sym (past ps _ o (λ h. k (subst (λ (n : ℕ). o < n) (sym count_same) h))))
      ]

  -- ---- columns, classes, width
  column_same : (bs : List Name) (o x : ℕ) → column d bs o x ≡ column (with_outputs d ps) bs o x
  unfolding column value_at
  column_same bs o x =
      values_same (value_at d bs o x) (value_at (with_outputs d ps) bs o x) (free_count d.inputs bs)
      (λ y k. value_same o (join_row d.inputs bs x y) (join-lt d.inputs bs x y))

  alike_same : (bs : List Name) (o x y : ℕ) → alike d bs o x y ≡ alike (with_outputs d ps) bs o x y
  unfolding alike
  alike_same bs o x y = ap₂ same_values (column_same bs o x) (column_same bs o y)

  upto_same : (bs : List Name) (m x y : ℕ) → alike_upto d bs m x y ≡ alike_upto (with_outputs d ps) bs m x y
  unfolding alike_upto
  upto_same bs zero x y = refl
  upto_same bs (suc m) x y = ap₂ (λ (a b : Bool). a && b) (upto_same bs m x y) (alike_same bs m x y)

  pub budget_same : (bs : List Name) (o : ℕ) → budget d bs o ≡ budget (with_outputs d ps) bs o
  unfolding budget width local_count
  budget_same bs o =
      ap width_of (count-agrees (alike d bs o) (alike (with_outputs d ps) bs o) (vertex_count bs) (λ x y a b. alike_same bs o x y))

  pub global_same : (bs : List Name) → global_count d bs ≡ global_count (with_outputs d ps) bs
  unfolding global_count
  global_same bs =
      count-agrees (alike_in_all d bs) (alike_in_all (with_outputs d ps) bs) (vertex_count bs)
      (λ x y a b. upto_same bs (length d.outputs) x y ∙ ap (λ (m : ℕ). alike_upto (with_outputs d ps) bs m x y) count_same)

  -- ---- networks
  pub print_same : (w : Network) → print_network d w ≡ print_network (with_outputs d ps) w
  unfolding print_network network_lines
  print_same w =
      ap (λ (ms : List Name).
      ended_lines
      (network_line
      ∷ (lut_lines d.bound 0 w.luts
      ++ (node_lines (free d.inputs d.bound) ms w.nodes ++ (print_count (length w.luts) ∷ end_line ∷ [])))))
      names

  pub network_same : (w : Network) (o r : ℕ) → network_on d w o r ≡ network_on (with_outputs d ps) w o r
  unfolding network_on node_row lut_on
  network_same w o r = refl

  -- ---- question 10
  node_step_same : (w : Network) (o : ℕ) (x : Option Node) → node_step d w o x ≡ node_step (with_outputs d ps) w o x
  node_step_same w o none = refl
  node_step_same w o (some x) =
      ap (λ (k : ℕ). next (pick (ltb (suc o) k) (at_node (suc o)) at_count) (with_node w x)) count_same

  ask_node_same : (w : Network) (o : ℕ) (l : List ℕ) → ask_node d w o l ≡ ask_node (with_outputs d ps) w o l
  unfolding ask_node
  ask_node_same w o l =
      node_step_same w o (read_node (get_or (output_names d.outputs) o []) (free d.inputs d.bound) (length w.luts) l)
      ∙ ap
      (λ (ms : List Name). node_step (with_outputs d ps) w o (read_node (get_or ms o []) (free d.inputs d.bound) (length w.luts) l))
      names

  ask_lut_same : (w : Network) (l : List ℕ) → ask_lut d w l ≡ ask_lut (with_outputs d ps) w l
  unfolding ask_lut
  ask_lut_same w l =
      ap (λ (node : Step). pick (ltb (length w.luts) max_cells) (lut_step w (read_lut d.bound (length w.luts) l) node) node)
      (ask_node_same w 0 l)

  ask_line_same : (p : Place) (w : Network) (l : List ℕ) → ask_line d p w l ≡ ask_line (with_outputs d ps) p w l
  unfolding ask_line
  ask_line_same at_network w l = refl
  ask_line_same at_luts w l = ask_lut_same w l
  ask_line_same (at_node o) w l = ask_node_same w o l
  ask_line_same at_count w l = refl
  ask_line_same at_end_lem w l = refl
  ask_line_same over w l = refl

  ask_lines_same : (ended : Bool) (ls : List (List ℕ)) (p : Place) (w : Network) (n : ℕ)
      → ask_lines d ended p w n ls ≡ ask_lines (with_outputs d ps) ended p w n ls
  unfolding ask_lines
  ask_lines_same ended [] p w n = refl
  ask_lines_same ended (l ∷ ls) p w n =
      ap (λ (s : Step). follow (pick (ended || not (is_last ls)) s misspelled) n (λ q v. ask_lines d ended q v (suc n) ls))
      (ask_line_same p w l)
      ∙ go (λ q v. ask_lines_same ended ls q v (suc n)) (pick (ended || not (is_last ls)) (ask_line (with_outputs d ps) p w l) misspelled)
    where
      go : ((q : Place) (v : Network) → ask_lines d ended q v (suc n) ls ≡ ask_lines (with_outputs d ps) ended q v (suc n) ls)
          → (s : Step)
          → follow s n (λ q v. ask_lines d ended q v (suc n) ls)
          ≡ follow s n (λ q v. ask_lines (with_outputs d ps) ended q v (suc n) ls)
      go later misspelled = refl
      go later (next q v) = later q v

  read_same : (t : List ℕ) → read_network d t ≡ read_network (with_outputs d ps) t
  unfolding read_network
  read_same t =
      ap (λ (a : Answer). pick (within 1 max_network (length t)) a (bad_line 0))
      (ask_lines_same (ends_line t) (lines t) at_network e.nothing 1)

  -- ---- question 11
  wide_same : (o n : ℕ) (xs : List Node) → wide_node d o n xs ≡ wide_node (with_outputs d ps) o n xs
  unfolding wide_node
  wide_same o n [] = refl
  wide_same o n (x ∷ xs) =
      ap₂ (λ (k : ℕ) (later : Option ℕ). pick (leb (length x.reads) k) later (some n)) (budget_same d.bound o)
      (wide_same (suc o) (suc n) xs)

  offending_same : (w : Network) → offending d w ≡ offending (with_outputs d ps) w
  unfolding offending
  offending_same w =
      ap (λ (nodes : Option ℕ). pick (leb (length w.luts) d.limit) nodes (some (d.limit + first_lut)))
      (wide_same 0 (length w.luts + first_lut) w.nodes)

  -- ---- Check
  row_same : (w : Network) (o : ℕ) → differing_row d w o ≡ differing_row (with_outputs d ps) w o
  unfolding differing_row differs_on
  row_same w o =
      first_of_same (differs_on d w o) (differs_on (with_outputs d ps) w o) (2 ^ length d.inputs) 0
      (λ r a l. ap₂ xorb (value_same o r (omega (arith, l))) (network_same w o r))

  compare_same : (w : Network) (k o : ℕ) → compare_from d w k o ≡ compare_from (with_outputs d ps) w k o
  unfolding compare_from
  compare_same w zero o = refl
  compare_same w (suc k) o = ap₂ (at_row o) (row_same w o) (compare_same w k (suc o))

  compared_pair : (w : Network) (x : Option ℕ) → compare_pair (judge d w x) ≡ compare_pair (judge (with_outputs d ps) w x)
  compared_pair w (some l) = refl
  compared_pair w none =
      compare_same w (length d.outputs) 0 ∙ ap (λ (k : ℕ). compare_from (with_outputs d ps) w k 0) count_same

  beside_same : (a : Answer) → compare_pair (beside d a) ≡ compare_pair (beside (with_outputs d ps) a)
  beside_same (bad_line l) = refl
  beside_same (network w) =
      compared_pair w (offending d w) ∙ ap (λ (x : Option ℕ). compare_pair (judge (with_outputs d ps) w x)) (offending_same w)

  pub check_same : (t : List ℕ) → check_of (valid d) t ≡ check_of (valid (with_outputs d ps)) t
  unfolding check_of examine_pair
  check_same t = beside_same (read_network d t) ∙ ap (λ (a : Answer). compare_pair (beside (with_outputs d ps) a)) (read_same t)

  -- ---- Table
  pub table_same : (o : ℕ) (b : List ℕ) → table_of (valid d) o b ≡ table_of (valid (with_outputs d ps)) o b
  unfolding table_of table_digits
  table_same o b =
      ap₂ (λ (k : ℕ) (digits : List ℕ).
      pick (ltb o k)
      (pick (leb (row_count d) (length b)) (record { answer = written (row_count d); buffer = sets b 0 digits }) (untouched 9 0 b))
      (untouched 6 0 b))
      count_same
      (digits_same (output_on d o) (output_on (with_outputs d ps) o) (row_count d) (λ r l. value_same o r l))
