-- A text put down after a text is their join put down. Assumes nothing.
use Rattle.std.specs.Prelude.{◌≡◌, refl, List, [], ◌∷◌, ◌++◌, ℕ, suc, ◌+◌, ◌≤◌, ◌<◌, length, take, get_or, set}
use Rattle.std.proofs.Common.{sym, ap, subst, ◌∙◌, arith, add-zero, add-suc, suc-add, add-one, length-append, take-suc, take_all}
use Rattle.std.proofs.lemmas.List.Edits.{sets}
use Rattle.std.proofs.Math.Seq.{length-sets, set_out}
use Rattle.emit.specs.Written.{Written}

sets-sets : (d : List ℕ) (at : ℕ) (s t : List ℕ) → sets (sets d at s) (at + length s) t ≡ sets d at (s ++ t)
sets-sets d at [] t = rw add-zero refl
sets-sets d at (a ∷ s) t = rw (add-suc, ← suc-add) (sets-sets (set d at a) (suc at) s t)

-- ---- one byte
pub byte_stored : (a : List ℕ) (at b : ℕ) → Written 1 a (set a at b) at (at + 1) (b ∷ [])
byte_stored a at b = record { place = refl; bytes = refl; short = omega arith }

pub byte_past : (a : List ℕ) (at b : ℕ) → length a ≤ at → Written 1 a a at (at + 1) (b ∷ [])
byte_past a at b l = record { place = refl; bytes = sym (set_out a at b l); short = omega arith }

-- ---- nothing, and one text after another
pub put_none : {m : ℕ} (a : List ℕ) (at : ℕ) → Written m a a at at []
put_none a at = record { place = sym (add-zero at); bytes = refl; short = omega arith }

module _ {m n : ℕ} {a b e : List ℕ} {at p q : ℕ} {s t : List ℕ} (w : Written m a b at p s) (v : Written n b e p q t) where
  pub put_then : Written (m + n) a e at q (s ++ t)
  put_then =
      let l : length (s ++ t) ≡ length s + length t = length-append s t in
      let first : p ≡ at + length s = w.place in
      let second : q ≡ p + length t = v.place in
      let x : length s ≤ m = w.short in
      let y : length t ≤ n = v.short in
      record {
        place = omega arith;
        bytes = v.bytes ∙ ap (λ (d : List ℕ). sets d p t) w.bytes ∙ ap (λ (k : ℕ). sets (sets a at s) k t) w.place ∙ sets-sets a at s t;
        short = omega arith;
      }

  -- the join said in another way, and at most k bytes
  pub put_next : {k : ℕ} {u : List ℕ} → s ++ t ≡ u → m + n ≤ k → Written k a e at q u
  put_next {k} {u} same few =
      subst (λ (x : List ℕ). Written k a e at q x) same
      (let all = put_then in
      let x : length (s ++ t) ≤ m + n = all.short in
      record { place = all.place; bytes = all.bytes; short = omega arith })

-- the same text, said in another way
pub put_same : {m k : ℕ} {a b : List ℕ} {at p : ℕ} {s u : List ℕ} → Written m a b at p s → s ≡ u → m ≤ k → Written k a b at p u
put_same {m} {k} {a} {b} {at} {p} {s} w same few =
    subst (λ (x : List ℕ). Written k a b at p x) same
    (let x : length s ≤ m = w.short in record { place = w.place; bytes = w.bytes; short = omega arith })

-- the buffer keeps its length
pub put_length : {m : ℕ} {a b : List ℕ} {at p : ℕ} {s : List ℕ} → Written m a b at p s → length b ≡ length a
put_length {m} {a} {b} {at} {p} {s} w = ap length w.bytes ∙ length-sets a at s

-- ---- a text byte by byte
pub taken_more : (s : List ℕ) (i : ℕ) → i < length s → take i s ++ (get_or s i 0 ∷ []) ≡ take (i + 1) s
taken_more s i l = sym (take-suc s i 0 l) ∙ ap (λ (k : ℕ). take k s) (sym (add-one i))

pub taken_all : (s : List ℕ) (i : ℕ) → length s ≤ i → take i s ≡ s
taken_all s i l = take_all i s l
