-- Texts put down one after the other: lines, names and blocks are all put down so. Assumes nothing.
use Rattle.std.specs.Prelude.{◌≡◌, refl, List, [], ◌++◌, ℕ, zero, suc, ◌+◌, ◌*◌, ◌≤◌, ◌<◌}
use Rattle.std.proofs.Common.{sym, ap, ap₂, subst, ◌∙◌, append-nil, append_assoc, arith, mul-suc, add-zero, zero-add, add-suc, suc-add, add-one}
use Rattle.emit.specs.Written.{Written}
use Rattle.emit.specs.PutLaws.{put_none, put_next, put_same}
use Rattle.emit.specs.Upto.{texts_upto}

-- the first i of n texts are put down, each of at most m bytes
pub record Texts (f : ℕ → List ℕ) (m n : ℕ) (a b : List ℕ) (at p i : ℕ) : Type 0 where
  pub within : i ≤ n
  pub so_far : Written (m * i) a b at p (texts_upto f i)

pub texts_none : (f : ℕ → List ℕ) (m n : ℕ) (a : List ℕ) (at : ℕ) → Texts f m n a a at at 0
unfolding texts_upto
texts_none f m n a at = record { within = omega arith; so_far = put_none a at }

more_bytes : (m i : ℕ) → m * i + m ≤ m * (i + 1)
more_bytes m i = let e : m * (i + 1) ≡ m * i + m = ap (λ (k : ℕ). m * k) (add-one i) ∙ mul-suc m i in omega arith

pub texts_put : {f : ℕ → List ℕ} {m n : ℕ} {a b e : List ℕ} {at p q i : ℕ} → Texts f m n a b at p i → i < n
    → Written m b e p q (f i) → Texts f m n a e at q (i + 1)
unfolding texts_upto
texts_put {f} {m} {i = i} g l w =
    record {
      within = omega arith;
      so_far = put_next g.so_far w (ap (texts_upto f) (sym (add-one i))) (more_bytes m i);
    }

pub texts_all : {f : ℕ → List ℕ} {m n k : ℕ} {a b u : List ℕ} {at p i : ℕ} → Texts f m n a b at p i → n ≤ i → m * n ≤ k
    → texts_upto f n ≡ u → Written k a b at p u
texts_all {f} {m} {n} {k} {i = i} g l few same =
    let w : i ≤ n = g.within in
    let e : i ≡ n = omega arith in
    put_same g.so_far (ap (texts_upto f) e ∙ same) (subst (λ (j : ℕ). m * j ≤ k) (sym e) few)

-- the texts that f says for the k numbers from i on
unfoldable pub texts_from : (ℕ → List ℕ) → ℕ → ℕ → List ℕ
texts_from f zero i = []
texts_from f (suc k) i = f i ++ texts_from f k (suc i)

upto_from : (f : ℕ → List ℕ) (k i : ℕ) → texts_upto f (i + k) ≡ texts_upto f i ++ texts_from f k i
unfolding texts_upto texts_from
upto_from f zero i = rw add-zero (sym (append-nil (texts_upto f i)))
upto_from f (suc k) i =
    ap (texts_upto f) (add-suc i k ∙ sym (suc-add i k)) ∙ upto_from f k (suc i)
    ∙ append_assoc (texts_upto f i) (f i) (texts_from f k (suc i))

pub upto_all : (f : ℕ → List ℕ) (k : ℕ) → texts_upto f k ≡ texts_from f k 0
unfolding texts_upto
upto_all f k = ap (texts_upto f) (sym (zero-add k)) ∙ upto_from f k 0

-- the same texts
pub upto_same : (f g : ℕ → List ℕ) (n : ℕ) → ((i : ℕ) → i < n → f i ≡ g i) → texts_upto f n ≡ texts_upto g n
unfolding texts_upto
upto_same f g zero h = refl
upto_same f g (suc n) h = ap₂ (λ (a b : List ℕ). a ++ b) (upto_same f g n (λ i l. h i (omega arith))) (h n (omega arith))
