-- The names of a design, its inputs and then its outputs: a name is new exactly when it is none of them, and they stay different
-- exactly as long as each is new. Assumes nothing.
use Rattle.std.specs.Prelude.{◌≡◌, refl, Bool, true, false, not, ◌&&◌, ◌||◌, List, [], ◌∷◌, ◌++◌}
use Rattle.std.proofs.Common.{sym, ap, ◌∙◌, append_assoc}
use Rattle.std.proofs.lemmas.List.{map-append}
use Rattle.std.proofs.lemmas.Bool.{not-true}
use Rattle.bits.specs.LogicLaws.{true_false, false_unless, and_left, and_right, and_both, neither_first, or_assoc}
use Rattle.names.specs.Name.{Name, same_name, among, distinct}
use Rattle.sheet.specs.Lines.{Output}
use Rattle.sheet.specs.Examine.{Design, output_names, new_name, with_output}
use Rattle.sheet.specs.FurtherOutputLaws.{distinct_more, distinct_before}

-- ---- lists of names
among-append : (n : Name) (ns ms : List Name) → among n (ns ++ ms) ≡ among n ns || among n ms
unfolding among
among-append n [] ms = refl
among-append n (m ∷ ns) ms = ap (λ (b : Bool). same_name m n || b) (among-append n ns ms) ∙ or_assoc (same_name m n) (among n ns) (among n ms)

pub distinct_first : (ns ms : List Name) → distinct (ns ++ ms) ≡ true → distinct ns ≡ true
unfolding distinct
distinct_first [] ms e = refl
distinct_first (n ∷ ns) ms e =
    let new = not-true (among n (ns ++ ms)) (and_left (not (among n (ns ++ ms))) (distinct (ns ++ ms)) e) in
    let before = neither_first (among n ns) (among n ms) (sym (among-append n ns ms) ∙ new) in
    and_both (not (among n ns)) (distinct ns) (ap not before)
    (distinct_first ns ms (and_right (not (among n (ns ++ ms))) (distinct (ns ++ ms)) e))

-- ---- the names of a design
abbrev pub design_names : Design → List Name
design_names d = d.inputs ++ output_names d.outputs

not_or : (a b : Bool) → not (a || b) ≡ not a && not b
not_or true b = refl
not_or false b = refl

new_among : (d : Design) (n : Name) → new_name d n ≡ not (among n (design_names d))
new_among d n =
    sym (ap not (among-append n d.inputs (output_names d.outputs)) ∙ not_or (among n d.inputs) (among n (output_names d.outputs)))

pub names_with_output : (d : Design) (o : Output) → design_names (with_output d o) ≡ design_names d ++ (o.name ∷ [])
names_with_output d o =
    ap (λ (ns : List Name). d.inputs ++ ns) (map-append (λ (x : Output). x.name) d.outputs (o ∷ []))
    ∙ sym (append_assoc d.inputs (output_names d.outputs) (o.name ∷ []))

pub new_once : (d : Design) (o : Output)
    → distinct (design_names d) ≡ true
    → new_name d o.name ≡ true
    → distinct (design_names (with_output d o)) ≡ true
new_once d o e h =
    ap distinct (names_with_output d o)
    ∙ distinct_more (design_names d) o.name e (not-true (among o.name (design_names d)) (sym (new_among d o.name) ∙ h))

pub old_twice : (d : Design) (n : Name) (ns : List Name) → new_name d n ≡ false → distinct (design_names d ++ (n ∷ ns)) ≡ false
old_twice d n ns h =
    false_unless (distinct (design_names d ++ (n ∷ ns)))
    (λ e. true_false (sym (ap not (distinct_before (design_names d) n ns e)) ∙ sym (new_among d n) ∙ h))
