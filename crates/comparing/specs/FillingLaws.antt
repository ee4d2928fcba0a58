-- Setting digits in row order, digit by digit and vertex by vertex. Assumes nothing.
use Rattle.std.specs.Prelude.{◌≡◌, Bool, List, ℕ, ◌+◌, ◌*◌, ◌≤◌, ◌<◌, length, get_or, set}
use Rattle.std.proofs.Common.{sym, ap, ◌∙◌, subst, arith, below_more, length-set, get_or-set_same, get_or-set_other}
use Rattle.std.proofs.Math.Decide.{ℕ_discrete}
use Rattle.limits.specs.Limits.{max_rows}
use Rattle.classes.specs.declared.Shape.{Shape}
use Rattle.comparing.specs.Code.{is_one, one_at, code_at}
use Rattle.comparing.specs.Filling.{Room, Put, row_at, Ready, Filled}

-- ---- one digit
module _ (f : ℕ → Bool) (l : List ℕ) (p v : ℕ) (inside : p < length l) (e : is_one v ≡ f p) where
  set_here : one_at (set l p v) p ≡ f p
  set_here = ap is_one (get_or-set_same l p v 0 inside) ∙ e

  set-kept : (q : ℕ) → one_at l q ≡ f q → one_at (set l p v) q ≡ f q
  set-kept q h =
      elim (ℕ_discrete q p) as (λ _. one_at (set l p v) q ≡ f q) [
        | yes s ↦ subst (λ (z : ℕ). one_at (set l p v) z ≡ f z) (sym s) set_here
        | no n ↦ ap is_one (get_or-set_other l p q v 0 n) ∙ h
      ]

-- ---- one vertex
module _ {t : List ℕ} {at row : ℕ} {free before : List ℕ} where
  pub put_none : length before ≡ max_rows → Put t at row free 0 before before
  put_none e = record { size = e; right = λ f h. record { kept = λ q g. g; put = λ y l. absurd (omega arith) } }

  pub put_more : {list : List ℕ} (y : ℕ)
      → Put t at row free y before list
      → row + get_or free y 0 < max_rows
      → Put t at row free (y + 1) before (set list (row + get_or free y 0) (get_or t (at + y) 0))
  put_more {list} y s h =
      let a = s.size in
      record {
        size = length-set list (row + get_or free y 0) (get_or t (at + y) 0) ∙ a;
        right = λ f g.
            let r = s.right f (λ z l. g z (omega arith)) in
            let i : row + get_or free y 0 < length list = omega arith in
            let e : one_at t (at + y) ≡ f (row + get_or free y 0) = g y (omega arith) in
            let k = set-kept f list (row + get_or free y 0) (get_or t (at + y) 0) i e in
            record {
              kept = λ q o. k q (r.kept q o);
              put =
                  below_more
                  (λ (z : ℕ). one_at (set list (row + get_or free y 0) (get_or t (at + y) 0)) (row + get_or free z 0) ≡ f (row + get_or free z 0))
                  y
                  (λ z l. k (row + get_or free z 0) (r.put z l))
                  (set_here f list (row + get_or free y 0) (get_or t (at + y) 0) i e);
            };
      }

-- ---- all vertices
module _ {t lutat : List ℕ} {mask luts at : ℕ} {sh : Shape} where
  pub filled_none : {list : List ℕ} → length list ≡ max_rows → Filled t lutat mask luts at sh 0 list
  filled_none e = record { size = e; right = λ f h x y l. absurd (omega arith) }

  pub filled_more : {list after : List ℕ} (x c : ℕ)
      → Filled t lutat mask luts at sh x list
      → c ≡ code_at t lutat mask x luts
      → Put t (at + c * sh.frees) (get_or sh.vertex x 0) sh.free sh.frees list after
      → Filled t lutat mask luts at sh (x + 1) after
  filled_more {list} {after} x c s e p =
      record {
        size = p.size;
        right = λ f h.
            let r = p.right f (λ y l. subst (λ (z : ℕ). one_at t (at + z * sh.frees + y) ≡ f (row_at sh x y)) (sym e) (h x y (omega arith) l)) in
            let g = s.right f (λ a y l m. h a y (omega arith) m) in
            λ a y l m.
            below_more (λ (z : ℕ). one_at after (row_at sh z y) ≡ f (row_at sh z y)) x
            (λ z i. r.kept (row_at sh z y) (g z y i m))
            (r.put y m)
            a l;
      }

  -- what is asked before one vertex
  pub code_ready : Ready t lutat mask luts at sh → (x : ℕ) → x < sh.vertices → (i : ℕ) → i < luts → get_or lutat i 0 + x < length t
  code_ready r x h i l = r.luts_readable i x l h

  pub vertex_room : Ready t lutat mask luts at sh → (x c : ℕ) → x < sh.vertices → c ≡ code_at t lutat mask x luts
      → Room t (at + c * sh.frees) (get_or sh.vertex x 0) sh.free sh.frees
  vertex_room r x c h e =
      record {
        few = r.few_frees;
        readable = subst (λ (z : ℕ). at + z * sh.frees + sh.frees ≤ length t) (sym e) (r.readable x h);
        rows = λ y l. r.rows x y h l;
      }

pub put_all : {t : List ℕ} {at row : ℕ} {free before after : List ℕ} {y n : ℕ}
    → Put t at row free y before after
    → y ≤ n
    → n ≤ y
    → Put t at row free n before after
put_all {t} {at} {row} {free} {before} {after} {y} {n} s a b =
    let e : y ≡ n = omega arith in
    subst (λ (z : ℕ). Put t at row free z before after) e s

pub filled_all : {t lutat : List ℕ} {mask luts at : ℕ} {sh : Shape} {list : List ℕ} {x n : ℕ}
    → Filled t lutat mask luts at sh x list
    → x ≤ n
    → n ≤ x
    → Filled t lutat mask luts at sh n list
filled_all {t} {lutat} {mask} {luts} {at} {sh} {list} {x} {n} s a b =
    let e : x ≡ n = omega arith in
    subst (λ (z : ℕ). Filled t lutat mask luts at sh z list) e s
