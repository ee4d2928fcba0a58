-- What each answer of Check says beside a design: "same" exactly where the network sheet is read, no line offends and the
-- network has the design's value in every output on every row; "differs" exactly at the lowest output that does and its
-- lowest row. Assumes nothing.
use Rattle.std.specs.Prelude.{◌≡◌, List, ℕ}
use Rattle.std.proofs.Math.Path.{refl, ap}
use Rattle.std.proofs.Common.{sym, ◌∙◌, ⊎_elim, arith}
use Rattle.std.proofs.Math.Option.{Option, some, none}
use Rattle.sheet.specs.AskedLaws.{valid_is}
use Rattle.sheet.specs.Examine.{Design, Examined, refused, valid, examine}
use Rattle.network.specs.Network.{Network}
use Rattle.network.specs.Examine.{Answer, bad_line, network, read_network, offending}
use Rattle.network.specs.Check.{Checked, refused_by, same, differs, Pair, refused_pair, pair, judge, beside, examine_pair, compare_pair, check_of, check}
use Rattle.network.specs.Answers.{Drawn, Computes, LowestDifference}
use Rattle.network.specs.Check.{compared}
use Rattle.network.specs.CompareLaws.{same_or_differs, compared_same, same-compared, compared_differs, differs_compared}

refused_same : {q l : ℕ} → refused_by q l ≡ same → ⊥
refused_same e =
    let z : ◌≡◌ {A = ℕ} 0 1 = cc in
    omega arith

refused_differs : {q l o r : ℕ} → refused_by q l ≡ differs o r → ⊥
refused_differs e =
    let z : ◌≡◌ {A = ℕ} 0 1 = cc in
    omega arith

refused_no_pair : {q l : ℕ} {d : Design} {w : Network} → refused_pair q l ≡ pair d w → ⊥
refused_no_pair e =
    let z : ◌≡◌ {A = ℕ} 0 1 = cc in
    omega arith

pair_design : {d e : Design} {w v : Network} → pair d w ≡ pair e v → d ≡ e
pair_design p = cc

pair_network : {d e : Design} {w v : Network} → pair d w ≡ pair e v → w ≡ v
pair_network p = cc

-- a design and a network beside each other are not refused
pub compared_not_refused : (d : Design) (w : Network) (q l : ℕ) → compared d w ≡ refused_by q l → ⊥
compared_not_refused d w q l e =
    ⊎_elim (λ f. refused_same (sym e ∙ f)) (λ (o, r, f). refused_differs (sym e ∙ f)) (same_or_differs d w)

-- ---- a sheet, by what its examination answers
pub check-sheet : (s t : List ℕ) (x : Examined) → examine s ≡ x → check s t ≡ check_of x t
unfolding check
check-sheet s t x e = ap (λ (y : Examined). check_of y t) e

-- ---- the pair that is examined: just the design, and what is drawn beside it
module _ (t : List ℕ) where
  pub pair_refused : (q l : ℕ) → examine_pair (refused q l) t ≡ refused_pair q l
  unfolding examine_pair
  pair_refused q l = refl

  pub pair_bad_line : (d : Design) (l : ℕ) → read_network d t ≡ bad_line l → examine_pair (valid d) t ≡ refused_pair 10 l
  unfolding examine_pair
  pair_bad_line d l f = rw f refl

  pub pair_offending : (d : Design) (w : Network) (l : ℕ)
      → read_network d t ≡ network w
      → offending d w ≡ some l
      → examine_pair (valid d) t ≡ refused_pair 11 l
  unfolding examine_pair
  pair_offending d w l f g = rw (f, g) refl

  record PairOf (x : Examined) (d : Design) (w : Network) : Type 0 where
    pub is_valid : x ≡ valid d
    pub drawn : Drawn d t w

  judged : (c : Design) (v : Network) (y : Option ℕ) (d : Design) (w : Network)
      → read_network c t ≡ network v
      → offending c v ≡ y
      → judge c v y ≡ pair d w
      → PairOf (valid c) d w
  judged c v (some l) d w f g e = absurd (refused_no_pair e)
  judged c v none d w f g e =
      rw (sym (pair_design e), sym (pair_network e)) (record { is_valid = refl; drawn = record { is_read = f; passes = g } })

  read_beside : (c : Design) (y : Answer) (d : Design) (w : Network)
      → read_network c t ≡ y
      → beside c y ≡ pair d w
      → PairOf (valid c) d w
  read_beside c (bad_line l) d w f e = absurd (refused_no_pair e)
  read_beside c (network v) d w f e = judged c v (offending c v) d w f refl e

  pub pair_drawn : (x : Examined) (d : Design) (w : Network) → examine_pair x t ≡ pair d w → (x ≡ valid d) × Drawn d t w
  unfolding examine_pair
  pair_drawn (refused q l) d w e = absurd (refused_no_pair e)
  pair_drawn (valid c) d w e =
      let p = read_beside c (read_network c t) d w refl e in
      (p.is_valid, p.drawn)

  pub drawn_pair : (x : Examined) (d : Design) (w : Network) → x ≡ valid d → Drawn d t w → examine_pair x t ≡ pair d w
  unfolding examine_pair
  drawn_pair x d w e f = rw (e, f.is_read, f.passes) refl

-- ---- beside a design
module _ (d : Design) (t : List ℕ) where
  -- from the questions to the answer
  pub check_bad_line : (l : ℕ) → read_network d t ≡ bad_line l → check_of (valid d) t ≡ refused_by 10 l
  unfolding check_of
  check_bad_line l f = ap compare_pair (pair_bad_line t d l f)

  pub check-offending : (w : Network) (l : ℕ)
      → read_network d t ≡ network w
      → offending d w ≡ some l
      → check_of (valid d) t ≡ refused_by 11 l
  unfolding check_of
  check-offending w l f g = ap compare_pair (pair_offending t d w l f g)

  pub check_compares : (w : Network) → Drawn d t w → check_of (valid d) t ≡ compared d w
  unfolding check_of
  check_compares w f = ap compare_pair (drawn_pair t (valid d) d w refl f)

  -- from an answer that is no refusal to the questions
  record ComparedAs (a : Checked) : Type 0 where
    pub said : Network
    pub drawn : Drawn d t said
    pub is-answer : compared d said ≡ a

  compared_as : (p : Pair) (a : Checked)
      → ((q l : ℕ) → refused_by q l ≡ a → ⊥)
      → examine_pair (valid d) t ≡ p
      → compare_pair p ≡ a
      → ComparedAs a
  compared_as (refused_pair q l) a h e f = absurd (h q l f)
  compared_as (pair c w) a h e f =
      let (v, g) = pair_drawn t (valid d) c w e in
      let i : c ≡ d = sym (valid_is v) in
      record { said = w; drawn = rw (sym i) g; is-answer = rw (sym i) f }

  checked_as : (a : Checked) → ((q l : ℕ) → refused_by q l ≡ a → ⊥) → check_of (valid d) t ≡ a → ComparedAs a
  unfolding check_of
  checked_as a h e = compared_as (examine_pair (valid d) t) a h refl e

  -- "same"
  pub check_same : check_of (valid d) t ≡ same → (w : Network) × Drawn d t w × Computes d w
  check_same e =
      let c = checked_as same (λ q l r. refused_same r) e in
      (c.said, c.drawn, compared_same d c.said c.is-answer)

  pub same_check : (w : Network) → Drawn d t w → Computes d w → check_of (valid d) t ≡ same
  same_check w f g = check_compares w f ∙ same-compared d w g

  -- "differs"
  pub check_differs : (o r : ℕ) → check_of (valid d) t ≡ differs o r → (w : Network) × Drawn d t w × LowestDifference d w o r
  check_differs o r e =
      let c = checked_as (differs o r) (λ q l i. refused_differs i) e in
      (c.said, c.drawn, compared_differs d c.said o r c.is-answer)

  pub differs_check : (w : Network) (o r : ℕ) → Drawn d t w → LowestDifference d w o r → check_of (valid d) t ≡ differs o r
  differs_check w o r f g = check_compares w f ∙ differs_compared d w o r g
