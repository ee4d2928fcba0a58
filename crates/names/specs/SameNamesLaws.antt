-- Lists that name the same, item by item, are as long, are all names, are distinct and are among others together; and a name in
-- another spelling is a name. Assumes nothing.
use Rattle.std.specs.Prelude.{◌≡◌, refl, Bool, true, not, ◌&&◌, ◌||◌, List, [], ◌∷◌, suc, length}
use Rattle.std.proofs.Common.{sym, ap, ap₂, ◌∙◌}
use Rattle.bits.specs.LogicLaws.{true_false, and_left, and_right, and_both}
use Rattle.names.specs.Case.{lowered}
use Rattle.names.specs.Name.{Name, starts_with_letter, all_name_bytes, operator_words, is_name, same_name, among, distinct, all_among}
use Rattle.names.specs.Names.{all_names}
use Rattle.names.specs.Spelled.{same_names}
use Rattle.names.specs.CaseLaws.{lower-letter, lower_name_byte}
use Rattle.names.specs.SameLaws.{same_name_lowered, same_name_self, same_name_back, same_name_left}
use Rattle.names.specs.SameLaws.{same_name_through, same_name_length, among_same}

-- ---- lists that name the same
pub same_names_self : (ns : List Name) → same_names ns ns ≡ true
unfolding same_names
same_names_self [] = refl
same_names_self (n ∷ ns) = and_both (same_name n n) (same_names ns ns) (same_name_self n) (same_names_self ns)

pub same_names_back : (ms ns : List Name) → same_names ms ns ≡ true → same_names ns ms ≡ true
unfolding same_names
same_names_back [] [] e = refl
same_names_back [] (n ∷ ns) e = absurd (true_false (sym e))
same_names_back (m ∷ ms) [] e = absurd (true_false (sym e))
same_names_back (m ∷ ms) (n ∷ ns) e =
    and_both (same_name n m) (same_names ns ms)
    (sym (same_name_back m n) ∙ and_left (same_name m n) (same_names ms ns) e)
    (same_names_back ms ns (and_right (same_name m n) (same_names ms ns) e))

pub same_names_through : (ks ms ns : List Name) → same_names ks ms ≡ true → same_names ms ns ≡ true → same_names ks ns ≡ true
unfolding same_names
same_names_through [] [] ns e f = f
same_names_through [] (m ∷ ms) ns e f = absurd (true_false (sym e))
same_names_through (k ∷ ks) [] ns e f = absurd (true_false (sym e))
same_names_through (k ∷ ks) (m ∷ ms) [] e f = absurd (true_false (sym f))
same_names_through (k ∷ ks) (m ∷ ms) (n ∷ ns) e f =
    and_both (same_name k n) (same_names ks ns)
    (same_name_through k m (and_left (same_name k m) (same_names ks ms) e) n (and_left (same_name m n) (same_names ms ns) f))
    (same_names_through ks ms ns (and_right (same_name k m) (same_names ks ms) e) (and_right (same_name m n) (same_names ms ns) f))

pub same_names_length : (ms ns : List Name) → same_names ms ns ≡ true → length ms ≡ length ns
unfolding same_names
same_names_length [] [] e = refl
same_names_length [] (n ∷ ns) e = absurd (true_false (sym e))
same_names_length (m ∷ ms) [] e = absurd (true_false (sym e))
same_names_length (m ∷ ms) (n ∷ ns) e = ap suc (same_names_length ms ns (and_right (same_name m n) (same_names ms ns) e))

-- ---- a name in another spelling is a name
starts_lowered : (n : Name) → starts_with_letter (lowered n) ≡ starts_with_letter n
starts_lowered [] = refl
starts_lowered (b ∷ n) = lower-letter b

bytes-lowered : (n : Name) → all_name_bytes (lowered n) ≡ all_name_bytes n
bytes-lowered [] = refl
bytes-lowered (b ∷ n) = ap₂ (λ (x y : Bool). x && y) (lower_name_byte b) (bytes-lowered n)

pub same_is_name : (n m : Name) → same_name n m ≡ true → is_name n ≡ true → is_name m ≡ true
unfolding is_name
same_is_name n m e h =
    let f = same_name_lowered n m e in
    let starts = sym (starts_lowered n) ∙ ap starts_with_letter f ∙ starts_lowered m in
    let of-bytes = sym (bytes-lowered n) ∙ ap all_name_bytes f ∙ bytes-lowered m in
    rw (starts, of-bytes, same_name_length n m e, among_same n m e operator_words) at h

pub same_all_names : (ns ms : List Name) → same_names ns ms ≡ true → all_names ns ≡ true → all_names ms ≡ true
unfolding same_names all_names
same_all_names [] [] e h = refl
same_all_names [] (m ∷ ms) e h = absurd (true_false (sym e))
same_all_names (n ∷ ns) [] e h = absurd (true_false (sym e))
same_all_names (n ∷ ns) (m ∷ ms) e h =
    and_both (is_name m) (all_names ms)
    (same_is_name n m (and_left (same_name n m) (same_names ns ms) e) (and_left (is_name n) (all_names ns) h))
    (same_all_names ns ms (and_right (same_name n m) (same_names ns ms) e) (and_right (is_name n) (all_names ns) h))

-- ---- lists that name the same are distinct together, and among others together
among_respelled : (n : Name) (ms ns : List Name) → same_names ms ns ≡ true → among n ms ≡ among n ns
unfolding same_names among
among_respelled n [] [] e = refl
among_respelled n [] (k ∷ ns) e = absurd (true_false (sym e))
among_respelled n (m ∷ ms) [] e = absurd (true_false (sym e))
among_respelled n (m ∷ ms) (k ∷ ns) e =
    ap₂ (λ (a b : Bool). a || b)
    (same_name_left m k (and_left (same_name m k) (same_names ms ns) e) n)
    (among_respelled n ms ns (and_right (same_name m k) (same_names ms ns) e))

pub respelled_distinct : (ms ns : List Name) → same_names ms ns ≡ true → distinct ms ≡ distinct ns
unfolding same_names distinct
respelled_distinct [] [] e = refl
respelled_distinct [] (n ∷ ns) e = absurd (true_false (sym e))
respelled_distinct (m ∷ ms) [] e = absurd (true_false (sym e))
respelled_distinct (m ∷ ms) (n ∷ ns) e =
    let first = and_left (same_name m n) (same_names ms ns) e in
    let others = and_right (same_name m n) (same_names ms ns) e in
    ap₂ (λ (a b : Bool). not a && b)
    (among_same m n first ms ∙ among_respelled n ms ns others)
    (respelled_distinct ms ns others)

pub respelled_among : (ms ks ns : List Name) → same_names ms ks ≡ true → all_among ms ns ≡ all_among ks ns
unfolding same_names all_among
respelled_among [] [] ns e = refl
respelled_among [] (k ∷ ks) ns e = absurd (true_false (sym e))
respelled_among (m ∷ ms) [] ns e = absurd (true_false (sym e))
respelled_among (m ∷ ms) (k ∷ ks) ns e =
    ap₂ (λ (a b : Bool). a && b)
    (among_same m k (and_left (same_name m k) (same_names ms ks) e) ns)
    (respelled_among ms ks ns (and_right (same_name m k) (same_names ms ks) e))
