-- The names of a list, one after another: those passed stand before those that are still read, all are counted, and the
-- first ten are kept. Assumes nothing.
use Rattle.std.specs.Prelude.{◌≡◌, refl, List, [], ◌∷◌, ◌++◌, ℕ, ◌+◌, ◌≤◌, ◌<◌, length, drop, set, Some, None}
use Rattle.std.proofs.Common.{sym, ap, ◌∙◌, append_assoc, append-nil, add-one, arith, length-append, length-set, take-suc-set}
use Rattle.std.proofs.lemmas.List.{map-append}
use Rattle.limits.specs.Limits.{max_inputs}
use Rattle.text.specs.Bytes.{Read, found, bad, after}
use Rattle.names.specs.Name.{Name}
use Rattle.names.specs.Names.{read_names}
use Rattle.names.specs.Pack.{name_of}
use Rattle.cursor.specs.declared.Cursor.{Cursor}
use Rattle.cursor.specs.declared.NameList.{NameList}
use Rattle.cursor.specs.Item.{Kept, NamesAre}
use Rattle.cursor.specs.NextName.{NameNext, NamesEnd}

-- the names ns put before those that were read
abbrev pub before : List Name → Read (List Name) → Read (List Name)
before ns r = after r (λ ms t. found (ns ++ ms) t)

pub record Gathered (s : List ℕ) (start at count : ℕ) (kept : List ℕ) : Type 0 where
  pub inside : at ≤ length s
  pub few : start + count ≤ at
  pub sized : length kept ≡ max_inputs
  pub passed : List Name
  pub is : read_names (drop start s) ≡ before passed (read_names (drop at s))
  pub held : Kept passed count kept

-- ---- no name yet
pub before_none : (r : Read (List Name)) → r ≡ before [] r
before_none (found ns t) = refl
before_none bad = refl

pub gathered_none : (s : List ℕ) (at : ℕ) (kept : List ℕ) → at ≤ length s → length kept ≡ max_inputs → Gathered s at at 0 kept
gathered_none s at kept h e =
    record {
      inside = h;
      few = omega arith;
      sized = e;
      passed = [];
      is = before_none (read_names (drop at s));
      held = record { counted = refl; held = λ l. refl };
    }

-- ---- one name more
pub before_one : (ns : List Name) (n : Name) (r : Read (List Name))
    → before ns (after r (λ ms t. found (n ∷ ms) t)) ≡ before (ns ++ (n ∷ [])) r
before_one ns n (found ms t) = ap (λ (l : List Name). found l t) (sym (append_assoc ns (n ∷ []) ms))
before_one ns n bad = refl

pub kept_more : (ns : List Name) (count v : ℕ) (kept : List ℕ)
    → Kept ns count kept → length kept ≡ max_inputs → Kept (ns ++ (name_of v ∷ [])) (count + 1) (set kept count v)
kept_more ns count v kept k e =
    let size : length (ns ++ (name_of v ∷ [])) ≡ length ns + 1 = length-append ns (name_of v ∷ []) in
    record {
      counted = omega arith;
      held = λ l.
          let i : count < length kept = omega arith in
          rw (add-one, take-suc-set kept count v i, map-append, k.held (omega arith)) refl;
    }

pub gathered_more : (s : List ℕ) (start at count v : ℕ) (c : Cursor) (kept more : List ℕ)
    → Gathered s start at count kept → NameNext s at (name_of v) c
    → more ≡ set kept count v → Gathered s start c.at (count + 1) more
gathered_more s start at count v c kept more g n e =
    rw e
    (record {
      inside = n.inside;
      few = omega arith;
      sized = length-set kept count v ∙ g.sized;
      passed = g.passed ++ (name_of v ∷ []);
      is = g.is ∙ ap (before g.passed) n.is ∙ before_one g.passed (name_of v) (read_names (drop c.at s));
      held = kept_more g.passed count v kept g.held g.sized;
    })

-- ---- the end
pub gathered_all : (s : List ℕ) (start at : ℕ) (l : NameList)
    → Gathered s start at l.count l.names → NamesEnd s at l.next
    → NamesAre s (Some l) (read_names (drop start s))
gathered_all s start at l g e =
    rw (g.is ∙ ap (before g.passed) e.is ∙ ap (λ (ns : List Name). found ns (drop l.next.at s)) (append-nil g.passed))
    (record { inside = e.inside; rest = refl; kept = g.held })

pub gathered_bad : (s : List ℕ) (start at count : ℕ) (kept : List ℕ)
    → Gathered s start at count kept → read_names (drop at s) ≡ bad
    → NamesAre s None (read_names (drop start s))
gathered_bad s start at count kept g e = sym (g.is ∙ ap (before g.passed) e)
