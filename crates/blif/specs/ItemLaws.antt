-- Names, cells and the digits of a row, put down one after the other. Assumes nothing.
use Rattle.std.specs.Prelude.{◌≡◌, refl, Bool, true, false, List, [], ◌∷◌, ◌++◌, map, ℕ, zero, suc, ◌+◌, ◌-◌, ◌*◌, ◌≤◌, ◌<◌, length, get_or, take}
use Rattle.std.proofs.Common.{sym, ap, ap₂, ◌∙◌, append-nil, append_assoc, arith, add-one, take_all}
use Rattle.std.proofs.lemmas.List.{map-append}
use Rattle.limits.specs.Limits.{max_inputs}
use Rattle.bits.specs.Logic.{pick}
use Rattle.bits.specs.Digit.{on}
use Rattle.rows.specs.Row.{values_of}
use Rattle.rows.specs.Digits.{digit}
use Rattle.text.specs.Bytes.{bytes, space}
use Rattle.names.specs.Name.{Name}
use Rattle.names.specs.Names.{print_names}
use Rattle.names.specs.Pack.{pack, name_of}
use Rattle.names.specs.PackLaws.{NoZero}
use Rattle.network.specs.Numbers.{numbers_of}
use Rattle.network.specs.Printer.{print_digits}
use Rattle.emit.specs.Written.{item_room, Written}
use Rattle.emit.specs.PutLaws.{put_none, put_next, put_same}
use Rattle.netnames.specs.Listed.{underscore, zero_byte, one_digit}
use Rattle.network.specs.ShownLaws.{front_more}
use Rattle.netnames.specs.NumbersLaws.{digit-held}
use Rattle.blif.specs.Printer.{cell_name}
use Rattle.emit.specs.Upto.{texts_upto}
use Rattle.blif.specs.Texts.{item_text, cell_text}

-- ---- the number that holds a cell's name
abbrev capital_c : ℕ
capital_c = 0x43

pub cell_held : (i : ℕ) → i < one_digit → name_of ((((i + zero_byte) * 256 + underscore) * 256 + capital_c) * 256 + capital_c) ≡ cell_name i
unfolding cell_name pack
cell_held i l =
    let held : (((i + zero_byte) * 256 + underscore) * 256 + capital_c) * 256 + capital_c
    ≡ pack (capital_c ∷ capital_c ∷ underscore ∷ (zero_byte + i) ∷ [])
    = omega arith in
    let filled : NoZero (bytes "CC_") = (omega arith, omega arith, (omega arith, omega arith, (omega arith, omega arith, tt))) in
    ap name_of held ∙ digit-held (bytes "CC_") i (omega arith) filled l

-- ---- names
pub names_append : (ms ns : List Name) → print_names (ms ++ ns) ≡ print_names ms ++ print_names ns
unfolding print_names
names_append [] ns = refl
names_append (m ∷ ms) ns =
    ap (λ (t : List ℕ). space ∷ (m ++ t)) (names_append ms ns)
    ∙ ap (λ (t : List ℕ). space ∷ t) (sym (append_assoc m (print_names ms) (print_names ns)))

pub name_alone : (n : Name) → print_names (n ∷ []) ≡ space ∷ n
unfolding print_names
name_alone n = ap (λ (t : List ℕ). space ∷ t) (append-nil n)

names_upto : (ns : List ℕ) (i : ℕ) → i ≤ length ns → texts_upto (item_text ns) i ≡ print_names (map name_of (take i ns))
unfolding texts_upto print_names
names_upto ns zero l = refl
names_upto ns (suc i) l =
    let more : map name_of (take i ns) ++ (name_of (get_or ns i 0) ∷ []) ≡ map name_of (take (suc i) ns)
    = front_more name_of ns i (omega arith) ∙ ap (λ (k : ℕ). map name_of (take k ns)) (add-one i) in
    ap₂ (λ (s t : List ℕ). s ++ t) (names_upto ns i (omega arith)) (sym (name_alone (name_of (get_or ns i 0))))
    ∙ sym (names_append (map name_of (take i ns)) (name_of (get_or ns i 0) ∷ [])) ∙ ap print_names more

pub names_text : (ns : List ℕ) → texts_upto (item_text ns) (length ns) ≡ print_names (map name_of ns)
names_text ns = names_upto ns (length ns) (omega arith) ∙ ap (λ (l : List ℕ). print_names (map name_of l)) (take_all (length ns) ns (omega arith))

-- ---- cells
cell_picked : (b : Bool) (i : ℕ) → pick b (space ∷ cell_name i) [] ≡ print_names (map cell_name (pick b (i ∷ []) []))
unfolding print_names
cell_picked true i = sym (name_alone (cell_name i))
cell_picked false i = refl

pub cell_absent : (mask i : ℕ) (a : List ℕ) (at : ℕ) → on mask i ≡ false → Written item_room a a at at (cell_text mask i)
cell_absent mask i a at e = put_same (put_none {m = item_room} a at) (ap (λ (b : Bool). pick b (space ∷ cell_name i) []) (sym e)) (omega arith)

pub cell_present : (mask i : ℕ) {a b : List ℕ} {at p : ℕ} {n : Name} → on mask i ≡ true → n ≡ cell_name i
    → Written item_room a b at p (space ∷ n) → Written item_room a b at p (cell_text mask i)
cell_present mask i e named w =
    put_same w
    (ap (λ (t : Name). space ∷ t) named ∙ ap (λ (b : Bool). pick b (space ∷ cell_name i) []) (sym e))
    (omega arith)

pub cells_text : (u mask : ℕ) → texts_upto (cell_text mask) u ≡ print_names (map cell_name (numbers_of u mask))
unfolding texts_upto numbers_of print_names
cells_text zero mask = refl
cells_text (suc u) mask =
    let last : List ℕ = pick (on mask u) (u ∷ []) [] in
    ap₂ (λ (s t : List ℕ). s ++ t) (cells_text u mask) (cell_picked (on mask u) u)
    ∙ sym (names_append (map cell_name (numbers_of u mask)) (map cell_name last))
    ∙ ap print_names (sym (map-append cell_name (numbers_of u mask) last))

-- ---- the values of n inputs on row r: those of the highest are put down, i are to come
pub record Inputs (n r : ℕ) (a b : List ℕ) (at p i : ℕ) : Type 0 where
  pub within : i ≤ n
  pub done : List ℕ
  pub so_far : Written (n - i) a b at p done
  pub to_come : done ++ print_digits (values_of i r) ≡ print_digits (values_of n r)

pub inputs_none : (n r : ℕ) (a : List ℕ) (at : ℕ) → Inputs n r a a at at n
inputs_none n r a at = record { within = omega arith; done = []; so_far = put_none a at; to_come = refl }

values_next : (i r : ℕ) → 0 < i → print_digits (values_of i r) ≡ digit (on r (i - 1)) ∷ print_digits (values_of (i - 1) r)
unfolding values_of print_digits
values_next zero r l = absurd (omega arith)
values_next (suc i) r l =
    let e : i ≡ suc i - 1 = omega arith in
    ap (λ (k : ℕ). digit (on r k) ∷ print_digits (values_of k r)) e

pub inputs_more : {n r : ℕ} {a b e : List ℕ} {at p q i : ℕ} {v : Bool} → Inputs n r a b at p i → 0 < i → v ≡ on r (i - 1)
    → Written 1 b e p q (digit v ∷ []) → Inputs n r a e at q (i - 1)
inputs_more {n} {r} {i = i} {v} g l s w =
    let h : i ≤ n = g.within in
    record {
      within = omega arith;
      done = g.done ++ (digit v ∷ []);
      so_far = put_next g.so_far w refl (omega arith);
      to_come = append_assoc g.done (digit v ∷ []) (print_digits (values_of (i - 1) r))
          ∙ ap (λ (x : Bool). g.done ++ (digit x ∷ print_digits (values_of (i - 1) r))) s
          ∙ ap (λ (t : List ℕ). g.done ++ t) (sym (values_next i r l)) ∙ g.to_come;
    }

pub inputs_all : {n r : ℕ} {a b : List ℕ} {at p i : ℕ} → Inputs n r a b at p i → i ≤ 0 → n ≤ max_inputs
    → Written max_inputs a b at p (print_digits (values_of n r))
unfolding values_of print_digits
inputs_all {n} {r} {i = i} g l few =
    let e : i ≡ 0 = omega arith in
    put_same g.so_far
    (sym (append-nil g.done) ∙ ap (λ (k : ℕ). g.done ++ print_digits (values_of k r)) (sym e) ∙ g.to_come)
    (omega arith)
