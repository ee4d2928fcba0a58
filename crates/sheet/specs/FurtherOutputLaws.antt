-- A further output: its name is new, so all names stay different, and each output stays right. Assumes nothing.
use Rattle.std.specs.Prelude.{◌≡◌, refl, true, false, not, List, [], ◌∷◌, ◌++◌, ℕ, ◌+◌, ◌<◌, length}
use Rattle.std.proofs.Common.{sym, ap, ◌∙◌, subst, arith, length-append}
use Rattle.std.proofs.lemmas.List.{map-append}
use Rattle.std.proofs.Math.Decide.{dec_lt}
use Rattle.std.proofs.Math.ListN.{get_or-append}
use Rattle.std.proofs.Math.Seq.{get_or-append_seam}
use Rattle.std.proofs.lemmas.Bool.{not-true}
use Rattle.bits.specs.LogicLaws.{and_left, and_right, neither_first, neither_second}
use Rattle.limits.specs.Limits.{max_outputs}
use Rattle.names.specs.Name.{Name, same_name, among, distinct}
use Rattle.names.specs.SameLaws.{same_name_turned}
use Rattle.formula.specs.Tree.{constant}
use Rattle.sheet.specs.Lines.{Output}
use Rattle.sheet.specs.Examine.{output_names}
use Rattle.sheet.specs.WellFormed.{RightOutput, RightOutputs, output_at}

among_more : (n m : Name) (ns : List Name) → among n ns ≡ false → same_name m n ≡ false → among n (ns ++ (m ∷ [])) ≡ false
unfolding among
among_more n m [] e h = rw h refl
among_more n m (k ∷ ns) e h =
    rw (neither_first (same_name k n) (among n ns) e, among_more n m ns (neither_second (same_name k n) (among n ns) e) h) refl

among_after : (n m : Name) (ns ms : List Name) → among n (ns ++ (m ∷ ms)) ≡ false → same_name m n ≡ false
unfolding among
among_after n m [] ms e = neither_first (same_name m n) (among n ms) e
among_after n m (k ∷ ns) ms e = among_after n m ns ms (neither_second (same_name k n) (among n (ns ++ (m ∷ ms))) e)

pub distinct_more : (ns : List Name) (n : Name) → distinct ns ≡ true → among n ns ≡ false → distinct (ns ++ (n ∷ [])) ≡ true
unfolding distinct among
distinct_more [] n e h = refl
distinct_more (m ∷ ns) n e h =
    let a = not-true (among m ns) (and_left (not (among m ns)) (distinct ns) e) in
    let b = same_name_turned m n (neither_first (same_name m n) (among n ns) h) in
    rw (among_more m n ns a b) (distinct_more ns n (and_right (not (among m ns)) (distinct ns) e) (neither_second (same_name m n) (among n ns) h))

-- of different names none stands before itself
pub distinct_before : (ns : List Name) (n : Name) (ms : List Name) → distinct (ns ++ (n ∷ ms)) ≡ true → among n ns ≡ false
unfolding distinct among
distinct_before [] n ms e = refl
distinct_before (m ∷ ns) n ms e =
    let a = not-true (among m (ns ++ (n ∷ ms))) (and_left (not (among m (ns ++ (n ∷ ms)))) (distinct (ns ++ (n ∷ ms))) e) in
    let b = same_name_turned n m (among_after m n ns ms a) in
    rw (b, distinct_before ns n ms (and_right (not (among m (ns ++ (n ∷ ms)))) (distinct (ns ++ (n ∷ ms))) e)) refl

last_or_before : (P : Output → Type 0) (os : List Output) (o : Output)
    → ((i : ℕ) → i < length os → P (output_at os i)) → P o
    → (i : ℕ) → i < length (os ++ (o ∷ [])) → P (output_at (os ++ (o ∷ [])) i)
last_or_before P os o each last i h =
    let none : Output = record { name = []; formula = constant false } in
    let l : length (os ++ (o ∷ [])) ≡ length os + 1 = length-append os (o ∷ []) in
    elim (dec_lt i (length os)) as (λ _. P (output_at (os ++ (o ∷ [])) i)) [
      | yes b ↦ subst P (sym (get_or-append os (o ∷ []) none i b)) (each i b)
      | no b ↦
          let e : i ≡ length os = omega arith in
          subst P (sym (ap (output_at (os ++ (o ∷ []))) e ∙ get_or-append_seam os o [] none)) last
    ]

pub outputs_more : (ns : List Name) (os : List Output) (o : Output) → RightOutputs ns os → RightOutput ns o
    → length os < max_outputs → among o.name (output_names os) ≡ false
    → RightOutputs ns (os ++ (o ∷ []))
outputs_more ns os o r p h e =
    let l : length (os ++ (o ∷ [])) ≡ length os + 1 = length-append os (o ∷ []) in
    record {
      few = omega arith;
      once = ap distinct (map-append (λ (x : Output). x.name) os (o ∷ [])) ∙ distinct_more (output_names os) o.name r.once e;
      each = last_or_before (RightOutput ns) os o r.each p;
    }
