-- So many names, each after a space, one after another: those passed stand before those that are still read, and the first ten
-- are kept. Assumes nothing.
use Rattle.std.specs.Prelude.{◌≡◌, refl, List, [], ◌∷◌, ◌++◌, ℕ, suc, ◌+◌, ◌-◌, ◌≤◌, ◌<◌, length, drop, set, Option, Some}
use Rattle.std.proofs.Common.{sym, ap, subst, ◌∙◌, append-nil, arith, length-set}
use Rattle.limits.specs.Limits.{max_inputs}
use Rattle.text.specs.Bytes.{Read, found, bad, after, eat, space}
use Rattle.names.specs.Name.{Name, read_name}
use Rattle.names.specs.Pack.{name_of}
use Rattle.cursor.specs.declared.Cursor.{Cursor}
use Rattle.cursor.specs.declared.NameList.{NameList}
use Rattle.cursor.specs.Item.{At, NameIs, Kept, NamesAre}
use Rattle.cursor.specs.GatheredLaws.{before, before_none, before_one, kept_more}
use Rattle.platext.specs.Lines.{names_of}

-- a name after a space
abbrev pub spaced : List ℕ → Read Name
spaced s = after (eat (space ∷ []) s) (λ _ t. read_name t)

module _ (l : List ℕ) (at : ℕ) where
  pub spaced_there : (g : Cursor) (r : Option (ℕ × Cursor)) → At l tt g (eat (space ∷ []) (drop at l)) → NameIs l r (read_name (drop g.at l))
      → NameIs l r (spaced (drop at l))
  spaced_there g r h k = subst (λ (x : Read (Unit {0})). NameIs l r (after x (λ _ t. read_name t))) h.is k

  pub no_space : bad ≡ eat (space ∷ []) (drop at l) → bad ≡ spaced (drop at l)
  no_space e = ap (λ (x : Read (Unit {0})). after x (λ _ t. read_name t)) e

after_after : {A B C : Type 0} (r : Read A) (f : A → List ℕ → Read B) (g : B → List ℕ → Read C)
    → after r (λ a s. after (f a s) g) ≡ after (after r f) g
after_after (found a s) f g = refl
after_after bad f g = refl

names_one_more : (k : ℕ) (s : List ℕ) → names_of (suc k) s ≡ after (spaced s) (λ n u. after (names_of k u) (λ ns v. found (n ∷ ns) v))
unfolding names_of
names_one_more k s = after_after (eat (space ∷ []) s) (λ _ t. read_name t) (λ n u. after (names_of k u) (λ ns v. found (n ∷ ns) v))

pub record Gathering (l : List ℕ) (n start at count : ℕ) (kept : List ℕ) : Type 0 where
  pub inside : at ≤ length l
  pub few : count ≤ n
  pub sized : length kept ≡ max_inputs
  pub passed : List Name
  pub is : names_of n (drop start l) ≡ before passed (names_of (n - count) (drop at l))
  pub held : Kept passed count kept

pub gathering_none : (l : List ℕ) (n at : ℕ) (kept : List ℕ) → at ≤ length l → length kept ≡ max_inputs → Gathering l n at at 0 kept
gathering_none l n at kept h e =
    let all : n - 0 ≡ n = omega arith in
    record {
      inside = h;
      few = omega arith;
      sized = e;
      passed = [];
      is = before_none (names_of n (drop at l)) ∙ ap (λ (k : ℕ). before [] (names_of k (drop at l))) (sym all);
      held = record { counted = refl; held = λ g. refl };
    }

module _ (l : List ℕ) (n start at count : ℕ) (kept : List ℕ) (g : Gathering l n start at count kept) where
  next_name : count < n → names_of n (drop start l)
      ≡ before g.passed (after (spaced (drop at l)) (λ m u. after (names_of (n - (count + 1)) u) (λ ns v. found (m ∷ ns) v)))
  next_name h =
      let more : n - count ≡ suc (n - (count + 1)) = omega arith in
      g.is
      ∙ ap (λ (k : ℕ). before g.passed (names_of k (drop at l))) more
      ∙ ap (before g.passed) (names_one_more (n - (count + 1)) (drop at l))

  pub gathering_more : (v : ℕ) (c : Cursor) (more : List ℕ) → count < n → At l (name_of v) c (spaced (drop at l)) → more ≡ set kept count v
      → Gathering l n start c.at (count + 1) more
  gathering_more v c more h a e =
      let rest = names_of (n - (count + 1)) (drop c.at l) in
      rw e
      (record {
        inside = a.inside;
        few = omega arith;
        sized = length-set kept count v ∙ g.sized;
        passed = g.passed ++ (name_of v ∷ []);
        is =
            next_name h
            ∙ ap (λ (r : Read Name). before g.passed (after r (λ m u. after (names_of (n - (count + 1)) u) (λ ns w. found (m ∷ ns) w)))) (sym a.is)
            ∙ before_one g.passed (name_of v) rest;
        held = kept_more g.passed count v kept g.held g.sized;
      })

  pub gathering_bad : count < n → bad ≡ spaced (drop at l) → bad ≡ names_of n (drop start l)
  gathering_bad h e =
      sym (next_name h
      ∙ ap (λ (x : Read Name). before g.passed (after x (λ m u. after (names_of (n - (count + 1)) u) (λ ns w. found (m ∷ ns) w)))) (sym e))

pub gathering_all : (l : List ℕ) (n start at : ℕ) (r : NameList) → Gathering l n start at r.count r.names → n ≤ r.count
    → at ≡ r.next.at → NamesAre l (Some r) (names_of n (drop start l))
unfolding names_of
gathering_all l n start at r g h e =
    let none_left : n - r.count ≡ 0 = omega arith in
    rw (g.is
    ∙ ap (λ (i : ℕ). before g.passed (names_of i (drop at l))) none_left
    ∙ ap (λ (ns : List Name). found ns (drop at l)) (append-nil g.passed))
    (record { inside = omega (arith, g.inside); rest = ap (λ (i : ℕ). drop i l) (sym e); kept = g.held })
