-- Each kind of line of a network sheet is read in every spelling of it, and in no other: a lut line is its head and its
-- digits, a node line its head, the shared tables by rising number, the free inputs and its digits. The other lines are one
-- text each. Assumes nothing.
use Rattle.std.specs.Prelude.{◌≡◌, refl, Bool, true, ℕ, ◌+◌, ◌^◌, ◌≤◌}
use Rattle.std.proofs.Common.{sym, ap₂, ◌∙◌, arith}
use Rattle.std.proofs.Math.Path.{ap}
use mathlib.Core.List.{List, [], ◌∷◌, ◌++◌, map}
use Rattle.std.proofs.Math.Option.{some}
use Rattle.std.proofs.Math.ListN.{length}
use Rattle.text.specs.Bytes.{Read, found, after, eat, whole, bytes, close_bracket}
use Rattle.text.specs.EatLaws.{found-item, found-rest, after-found, whole-found}
use Rattle.text.specs.After.{byte_found}
use Rattle.names.specs.Name.{Name, is_name}
use Rattle.names.specs.Names.{all_names}
use Rattle.names.specs.Spelled.{same_names}
use Rattle.names.specs.SameNamesLaws.{same_is_name, same_all_names}
use Rattle.sheet.specs.Lines.{closed}
use Rattle.network.specs.Network.{Node}
use Rattle.network.specs.Printer.{led_all, lut_name, print_digits, lut_head, print_lut, node_head, print_node}
use Rattle.network.specs.Reader.{read_digits, read_inputs, read_lut_head, read_lut, read_reads, none_of, read_node_head, read_node_rest, read_node}
use Rattle.network.specs.Reads.{rest_of, ReadsFront}
use Rattle.network.specs.Spelling.{LutSpelled, NodeSpelled}
use Rattle.network.specs.NetworkFor.{NodeFits}
use Rattle.network.specs.GivenLaws.{inputs_read, inputs_found, lut_head_read, lut_head_found, node_head_read, node_head_found}
use Rattle.network.specs.DigitsLaws.{digits_read_of_print, digits_print_of_read}
use Rattle.network.specs.ReadsLaws.{reads_print_of_read, reads_read_of_print}
use Rattle.network.specs.NodeListLaws.{list_split, rest_no_lut}

-- ---- an item and the bracket that closes its line
closed_line : {A : Type 0} (r : Read A) (a : A) → whole (closed r) ≡ some a → r ≡ found a (close_bracket ∷ [])
closed_line {A} r a e =
    let onward : A → List ℕ → Read A = λ b s. after (eat (close_bracket ∷ []) s) (λ _ t. found b t) in
    let (b, s, f, g) = after-found r onward a [] (whole-found (closed r) a e) in
    let (p, q) = byte_found close_bracket b a s [] g in
    f ∙ ap₂ found p q

line_closed : {A : Type 0} (r : Read A) (a : A) → r ≡ found a (close_bracket ∷ []) → whole (closed r) ≡ some a
unfolding eat
line_closed r a e = rw e refl

-- ---- the lut line
module _ (bs : List Name) (i : ℕ) (l : List ℕ) (ds : List Bool) where
  -- what is read after its head
  abbrev read_table : List ℕ → Read (List Bool)
  read_table s = read_digits (2 ^ length bs) s

  pub lut_read_of_spelling : all_names bs ≡ true → length ds ≡ 2 ^ length bs → LutSpelled bs i ds l → read_lut bs i l ≡ some ds
  unfolding read_lut print_lut
  lut_read_of_spelling h c p =
      let ms = p.names in
      let t = print_digits ds ++ (close_bracket ∷ []) in
      line_closed (after (read_lut_head bs i l) (λ _ s. read_table s)) ds
      (ap (λ (k : List ℕ). after (read_lut_head bs i k) (λ _ s. read_table s)) p.is_line
      ∙ ap (λ (r : Read (Unit {0})). after r (λ _ s. read_table s))
      (lut_head_read bs i ms t p.same_names_lem (same_all_names bs ms p.same_names_lem h))
      ∙ ap (λ (n : ℕ). read_digits n t) (sym c)
      ∙ digits_read_of_print ds (close_bracket ∷ []))

  pub lut_spelling_of_read : read_lut bs i l ≡ some ds → (length ds ≡ 2 ^ length bs) × LutSpelled bs i ds l
  unfolding read_lut print_lut
  lut_spelling_of_read e =
      let head = read_lut_head bs i l in
      let line = closed_line (after head (λ _ s. read_table s)) ds e in
      let (a, s, f, g) = after-found head (λ _ s. read_table s) ds (close_bracket ∷ []) line in
      let (ms, p, q) = lut_head_found bs i l s f in
      let d = digits_print_of_read (2 ^ length bs) s ds (close_bracket ∷ []) g in (
        d.counted,
        record { names = ms; same_names_lem = p; is_line = q ∙ ap (λ (x : List ℕ). lut_head ms i ++ x) d.is_split },
      )

-- ---- the node line, after the shared tables
abbrev row_count : List Name → List ℕ → ℕ
row_count fs is = 2 ^ (length is + length fs)

abbrev node_of : List ℕ → List Bool → Node
node_of is ds = record { reads = is; digits = ds }

rest_read_of_spelling : (fs gs : List Name) (is : List ℕ) (ds : List Bool) (t : List ℕ)
    → same_names fs gs ≡ true
    → all_names gs ≡ true
    → length ds ≡ row_count fs is
    → read_node_rest fs is (rest_of gs is ++ (print_digits ds ++ t)) ≡ found (node_of is ds) t
rest_read_of_spelling fs gs is ds t e h c = rw (inputs_read (none_of is) fs gs (print_digits ds ++ t) e h, ← c, digits_read_of_print ds t) refl

record RestFront (fs : List Name) (is s : List ℕ) (x : Node) (t : List ℕ) : Type 0 where
  pub names : List Name
  pub same_names_lem : same_names fs names ≡ true
  pub reads_are : x.reads ≡ is
  pub counted : length x.digits ≡ row_count fs is
  pub is_split : s ≡ rest_of names is ++ (print_digits x.digits ++ t)

rest_spelling_of_read : (fs : List Name) (is s : List ℕ) (x : Node) (t : List ℕ)
    → read_node_rest fs is s ≡ found x t
    → RestFront fs is s x t
rest_spelling_of_read fs is s x t e =
    let n = row_count fs is in
    let node : List Bool → List ℕ → Read Node = λ ds v. found (node_of is ds) v in
    let (a, u, f, g) = after-found (read_inputs (none_of is) fs s) (λ _ u. after (read_digits n u) node) x t e in
    let (ds, v, k, i) = after-found (read_digits n u) node x t g in
    let (gs, p, q) = inputs_found (none_of is) fs s u f in
    let d = digits_print_of_read n u ds v k in
    let front : RestFront fs is s (node_of is ds) v =
    record {
      names = gs;
      same_names_lem = p;
      reads_are = refl;
      counted = d.counted;
      is_split = q ∙ ap (λ (y : List ℕ). rest_of gs is ++ y) d.is_split;
    } in
    rw (found-item i, found-rest i) at front

-- ---- and after its head
abbrev read_node_list : List Name → ℕ → List ℕ → Read Node
read_node_list fs u s = after (read_reads true u 0 s) (λ is t. read_node_rest fs is t)

abbrev print_node_list : List Name → Node → List ℕ
print_node_list gs x =
    led_all true (map lut_name x.reads ++ gs) ++ (bytes ") " ++ (print_digits x.digits ++ (close_bracket ∷ [])))

-- the list of a node line, with some spelling of the free inputs
record ListSpelled (fs : List Name) (x : Node) (s : List ℕ) : Type 0 where
  pub names : List Name
  pub same_names_lem : same_names fs names ≡ true
  pub is_list : s ≡ print_node_list names x

list_of_parts : (fs : List Name) (u : ℕ) (s is t : List ℕ) (x : Node)
    → ReadsFront true 0 u s is t
    → RestFront fs is t x (close_bracket ∷ [])
    → NodeFits fs u x × ListSpelled fs x s
list_of_parts fs u s is t x p q =
    let gs = q.names in
    let ds = print_digits x.digits ++ (close_bracket ∷ []) in (
      record { rises = rw q.reads_are p.rises; counted = rw q.reads_are q.counted },
      record {
        names = gs;
        same_names_lem = q.same_names_lem;
        is_list = p.is_split ∙ ap (λ (y : List ℕ). led_all true (map lut_name is) ++ y) q.is_split ∙ sym (list_split gs is ds)
            ∙ ap (λ (js : List ℕ). led_all true (map lut_name js ++ gs) ++ (bytes ") " ++ ds)) (sym q.reads_are);
      },
    )

list_spelling_of_read : (fs : List Name) (u : ℕ) (s : List ℕ) (x : Node)
    → read_node_list fs u s ≡ found x (close_bracket ∷ [])
    → NodeFits fs u x × ListSpelled fs x s
list_spelling_of_read fs u s x e =
    let (is, t, f, g) = after-found (read_reads true u 0 s) (λ is t. read_node_rest fs is t) x (close_bracket ∷ []) e in
    list_of_parts fs u s is t x
    (reads_print_of_read true u 0 u s is t (omega arith) f)
    (rest_spelling_of_read fs is t x (close_bracket ∷ []) g)

list_read_of_spelling : (fs gs : List Name) (u : ℕ) (x : Node)
    → same_names fs gs ≡ true
    → all_names gs ≡ true
    → u ≤ 10
    → NodeFits fs u x
    → read_node_list fs u (print_node_list gs x) ≡ found x (close_bracket ∷ [])
list_read_of_spelling fs gs u x e h m f =
    let is = x.reads in
    let ds = print_digits x.digits ++ (close_bracket ∷ []) in
    let front : ReadsFront true 0 u (print_node_list gs x) is (rest_of gs is ++ ds) =
    record { rises = f.rises; is_split = list_split gs is ds; no_more = λ j k l. rest_no_lut gs is ds j h } in
    ap (λ (r : Read (List ℕ)). after r (λ js v. read_node_rest fs js v))
    (reads_read_of_print true u 0 u (print_node_list gs x) is (rest_of gs is ++ ds) (omega arith) m front)
    ∙ rest_read_of_spelling fs gs is x.digits (close_bracket ∷ []) e h f.counted

-- ---- the node line
module _ (n : Name) (fs : List Name) (u : ℕ) (l : List ℕ) (x : Node) where
  pub node_read_of_spelling : is_name n ≡ true
      → all_names fs ≡ true
      → u ≤ 10
      → NodeFits fs u x
      → NodeSpelled n fs x l
      → read_node n fs u l ≡ some x
  unfolding read_node print_node
  node_read_of_spelling k h c f p =
      let gs = p.names in
      line_closed (after (read_node_head n l) (λ _ s. read_node_list fs u s)) x
      (ap (λ (y : List ℕ). after (read_node_head n y) (λ _ s. read_node_list fs u s)) p.is_line
      ∙ ap (λ (r : Read (Unit {0})). after r (λ _ s. read_node_list fs u s))
      (node_head_read n p.name (print_node_list gs x) p.same_name_lem (same_is_name n p.name p.same_name_lem k))
      ∙ list_read_of_spelling fs gs u x p.same_names_lem (same_all_names fs gs p.same_names_lem h) c f)

  pub node_spelling_of_read : read_node n fs u l ≡ some x → NodeFits fs u x × NodeSpelled n fs x l
  unfolding read_node print_node
  node_spelling_of_read e =
      let head = read_node_head n l in
      let line = closed_line (after head (λ _ s. read_node_list fs u s)) x e in
      let (a, s, f, g) = after-found head (λ _ s. read_node_list fs u s) x (close_bracket ∷ []) line in
      let (m, p, q) = node_head_found n l s f in
      let (i, j) = list_spelling_of_read fs u s x g in (
        i,
        record {
          name = m;
          names = j.names;
          same_name_lem = p;
          same_names_lem = j.same_names_lem;
          is_line = q ∙ ap (λ (y : List ℕ). node_head m ++ y) j.is_list;
        },
      )
