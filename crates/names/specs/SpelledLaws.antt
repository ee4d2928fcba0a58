-- How some names spell one: a name that is among them is spelled as one of them, and lists are spelled so item by item.
-- Assumes nothing.
use Rattle.std.specs.Prelude.{◌≡◌, refl, Bool, true, false, ◌||◌, List, [], ◌∷◌, map}
use Rattle.std.proofs.Common.{sym, ap, ap₂, ◌∙◌}
use Rattle.bits.specs.Logic.{pick}
use Rattle.bits.specs.LogicLaws.{true_false, and_left, and_right, and_both}
use Rattle.names.specs.Name.{Name, same_name, among, distinct, all_among}
use Rattle.names.specs.Spelled.{same_names, spelled_by, stands_in, all_stand_in}
use Rattle.names.specs.SameLaws.{same_name_self, same_name_back, same_name_right}
use Rattle.names.specs.SameLaws.{among_same}
use Rattle.names.specs.SameNamesLaws.{respelled_distinct}
use Rattle.names.specs.StandLaws.{stands_first, stands_later, stands_among, one-spelling}

-- ---- how names spell one
spelled_here : (m n : Name) (ns : List Name) → same_name m n ≡ true → spelled_by (m ∷ ns) n ≡ m
unfolding spelled_by
spelled_here m n ns e = ap (λ (b : Bool). pick b m (spelled_by ns n)) e

spelled_further : (m n : Name) (ns : List Name) → same_name m n ≡ false → spelled_by (m ∷ ns) n ≡ spelled_by ns n
unfolding spelled_by
spelled_further m n ns e = ap (λ (b : Bool). pick b m (spelled_by ns n)) e

pub spelled_same : (ns : List Name) (n : Name) → same_name (spelled_by ns n) n ≡ true
unfolding spelled_by
spelled_same [] n = same_name_self n
spelled_same (m ∷ ns) n = go (same_name m n) refl (spelled_same ns n)
  where
    go : (b : Bool) → same_name m n ≡ b → same_name (spelled_by ns n) n ≡ true → same_name (spelled_by (m ∷ ns) n) n ≡ true
    go true e h = ap (λ (x : Name). same_name x n) (spelled_here m n ns e) ∙ e
    go false e h = ap (λ (x : Name). same_name x n) (spelled_further m n ns e) ∙ h

spelled_stands : (ns : List Name) (n : Name) → among n ns ≡ true → stands_in (spelled_by ns n) ns ≡ true
unfolding among
spelled_stands [] n h = absurd (true_false (sym h))
spelled_stands (m ∷ ns) n h = go (same_name m n) refl h (spelled_stands ns n)
  where
    go : (b : Bool)
        → same_name m n ≡ b
        → b || among n ns ≡ true
        → (among n ns ≡ true → stands_in (spelled_by ns n) ns ≡ true)
        → stands_in (spelled_by (m ∷ ns) n) (m ∷ ns) ≡ true
    go true e f later = stands_first m (spelled_by (m ∷ ns) n) ns (sym (spelled_here m n ns e))
    go false e f later =
        stands_later m (spelled_by (m ∷ ns) n) ns
        (ap (λ (x : Name). stands_in x ns) (spelled_further m n ns e) ∙ later f)

pub spelled_all_stand : (ns ms : List Name) → all_among ms ns ≡ true → all_stand_in (map (spelled_by ns) ms) ns ≡ true
unfolding all_among all_stand_in
spelled_all_stand ns [] e = refl
spelled_all_stand ns (m ∷ ms) e =
    and_both (stands_in (spelled_by ns m) ns) (all_stand_in (map (spelled_by ns) ms) ns)
    (spelled_stands ns m (and_left (among m ns) (all_among ms ns) e))
    (spelled_all_stand ns ms (and_right (among m ns) (all_among ms ns) e))

pub spelled_all_same : (ns ms : List Name) → same_names ms (map (spelled_by ns) ms) ≡ true
unfolding same_names
spelled_all_same ns [] = refl
spelled_all_same ns (m ∷ ms) =
    and_both (same_name m (spelled_by ns m)) (same_names ms (map (spelled_by ns) ms))
    (same_name_back m (spelled_by ns m) ∙ spelled_same ns m)
    (spelled_all_same ns ms)

pub spelled_distinct : (ns ms : List Name) → distinct ms ≡ true → distinct (map (spelled_by ns) ms) ≡ true
spelled_distinct ns ms e = sym (respelled_distinct ms (map (spelled_by ns) ms) (spelled_all_same ns ms)) ∙ e

-- ---- a name that is the same as one that stands among distinct names is spelled as it stands there
spelled_of_same : (ns : List Name) (m k : Name)
    → distinct ns ≡ true
    → stands_in m ns ≡ true
    → same_name m k ≡ true
    → spelled_by ns k ≡ m
spelled_of_same ns m k d s e =
    one-spelling ns (spelled_by ns k) m d
    (spelled_stands ns k (sym (among_same m k e ns) ∙ stands_among m ns s))
    s
    (same_name_right m k e (spelled_by ns k) ∙ spelled_same ns k)

pub spelled_all_of_same : (ns ms ks : List Name)
    → distinct ns ≡ true
    → all_stand_in ms ns ≡ true
    → same_names ms ks ≡ true
    → map (spelled_by ns) ks ≡ ms
unfolding all_stand_in same_names
spelled_all_of_same ns [] [] d s e = refl
spelled_all_of_same ns [] (k ∷ ks) d s e = absurd (true_false (sym e))
spelled_all_of_same ns (m ∷ ms) [] d s e = absurd (true_false (sym e))
spelled_all_of_same ns (m ∷ ms) (k ∷ ks) d s e =
    ap₂ (λ (x : Name) (xs : List Name). x ∷ xs)
    (spelled_of_same ns m k d (and_left (stands_in m ns) (all_stand_in ms ns) s) (and_left (same_name m k) (same_names ms ks) e))
    (spelled_all_of_same ns ms ks d (and_right (stands_in m ns) (all_stand_in ms ns) s) (and_right (same_name m k) (same_names ms ks) e))

pub spelled_own : (ns : List Name) (n : Name) → distinct ns ≡ true → stands_in n ns ≡ true → spelled_by ns n ≡ n
spelled_own ns n d s = spelled_of_same ns n n d s (same_name_self n)
