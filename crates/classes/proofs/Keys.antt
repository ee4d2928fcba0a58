-- The loop that joins a class number to each vertex's key. Assumes nothing.
use mathlib.Core.Path.{◌≡◌, refl, sym, ap, subst, ◌∙◌}
use mathlib.Core.List.{List}
use Prim.Native.Nat.{ℕ, ◌+◌, ◌-◌, ◌*◌, ◌^◌, ◌≤◌, ◌<◌}
use native.Mathlib.Omega.{arith}
use borrow.Author.Count.{below_more}
use lib.ListN.{length, get_or, set, length-set}
use lib.Seq.{get_or-set_same, get_or-set_other}
use Rattle.limits.specs.Limits.{max_bound, max_outputs, max_vertices}
use Rattle.classes.specs.Seen.{Keyable, KeysBy}

-- the keys below x are joined, the others as they were
pub record Joining (keys : List ℕ) (class : ℕ → ℕ) (v : ℕ) (list : List ℕ) (x : ℕ) : Type 0 where
  pub size : length list ≡ max_vertices
  pub within : x ≤ v
  pub joined : (z : ℕ) → z < x → get_or list z 0 ≡ get_or keys z 0 * max_vertices + class z
  pub kept : (z : ℕ) → x ≤ z → get_or list z 0 ≡ get_or keys z 0

module _ {keys : List ℕ} {class : ℕ → ℕ} {v : ℕ} where
  pub joining_none : length keys ≡ max_vertices → Joining keys class v keys 0
  joining_none e =
      record { size = e; within = omega arith; joined = λ z h. absurd (omega arith); kept = λ z h. refl }

  pub joining_more : {list : List ℕ} {x w : ℕ} → Joining keys class v list x → x < v → v ≤ max_vertices → w ≡ get_or list x 0 * max_vertices + class x
      → Joining keys class v (set list x w) (x + 1)
  joining_more {list} {x} {w} j h few e =
      let s : length list ≡ max_vertices = j.size in
      let other : (z : ℕ) → (z ≡ x → ⊥) → get_or (set list x w) z 0 ≡ get_or list z 0 = λ z q. get_or-set_other list x z w 0 q in
      record {
        size = length-set list x w ∙ s;
        within = omega arith;
        joined =
            below_more (λ (z : ℕ). get_or (set list x w) z 0 ≡ get_or keys z 0 * max_vertices + class z) x
            (λ z b. other z (λ q. let r : z ≡ x = q in omega arith) ∙ j.joined z b)
            (get_or-set_same list x w 0 (omega arith) ∙ e ∙ ap (λ (k : ℕ). k * max_vertices + class x) (j.kept x (omega arith)));
        kept = λ z b. other z (λ q. let r : z ≡ x = q in omega arith) ∙ j.kept z (omega arith);
      }

  pub joining_all : {list : List ℕ} {x : ℕ} → Joining keys class v list x → v ≤ x → KeysBy keys class v list
  joining_all j h = record { size = j.size; each = λ z b. j.joined z (omega arith) }

  -- a key and a class number fit
  pub key-small : {list : List ℕ} {x : ℕ} → Joining keys class v list x → Keyable keys class v → x < v
      → (get_or list x 0 < 2 ^ (max_bound * (max_outputs - 1))) × (class x < max_vertices)
  key-small {list} {x} j k h =
      (subst (λ (n : ℕ). n < 2 ^ (max_bound * (max_outputs - 1))) (sym (j.kept x (omega arith))) (k.low-key x h), k.low_class x h)
