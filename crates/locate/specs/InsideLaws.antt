-- What is handed back lies in its sheet: as many bytes of it, from the part's start on, are the part's text. Assumes nothing.
use Rattle.std.specs.Prelude.{◌≡◌, refl, Bool, true, false, eqb, length, take, drop, get_or}
use Rattle.std.proofs.Math.Path.{ap, ap₂}
use Rattle.std.proofs.Common.{◌∙◌, arith, length-append, eqb-true}
use mathlib.Core.List.{List, [], ◌∷◌, ◌++◌}
use Prim.Native.Nat.{ℕ, zero, suc, ◌+◌, ◌-◌, ◌<◌}
use Rattle.std.proofs.Math.Seq.{drop-append_seam, take-append_seam}
use Rattle.bits.specs.Logic.{pick}
use Rattle.text.specs.Bytes.{newline}
use Rattle.text.specs.Line.{lines, onto, ended_lines, line_at}
use Rattle.locate.specs.Located.{Part, has_line, start_of, text_of, part_of, at_end, of_design, of_network, located, sheet_of}
use Rattle.locate.specs.Places.{Inside}
use Rattle.locate.specs.LineLaws.{has_some, has_within}

-- ---- the text of a line in the text of all
-- a text is the first k of some lines, each ended by 0x0A, the next one, and a rest
record Starts (ls : List (List ℕ)) (k : ℕ) (t : List ℕ) : Type 0 where
  rest : List ℕ
  whole : t ≡ ended_lines (take k ls) ++ (get_or ls k [] ++ rest)

module _ (b : ℕ) (s : List ℕ) where
  starts_more : (l : List ℕ) (ls : List (List ℕ)) (k : ℕ) → Starts (l ∷ ls) k s → Starts ((b ∷ l) ∷ ls) k (b ∷ s)
  unfolding ended_lines
  starts_more l ls zero x = record { rest = x.rest; whole = ap (λ (u : List ℕ). b ∷ u) x.whole }
  starts_more l ls (suc k) x = record { rest = x.rest; whole = ap (λ (u : List ℕ). b ∷ u) x.whole }

  starts_next : (ls : List (List ℕ)) (k : ℕ) → b ≡ newline → Starts ls k s → Starts ([] ∷ ls) (suc k) (b ∷ s)
  unfolding ended_lines
  starts_next ls k q x = record { rest = x.rest; whole = ap₂ (λ (c : ℕ) (u : List ℕ). c ∷ u) q x.whole }

line_starts : (t : List ℕ) (k : ℕ) → k < length (lines t) → Starts (lines t) k t
unfolding lines ended_lines
line_starts [] k h = absurd (omega arith)
line_starts (b ∷ s) k h = go (eqb b newline) refl (lines s) (line_starts s) k h
  where
    go : (e : Bool)
        → eqb b newline ≡ e
        → (ls : List (List ℕ))
        → ((k : ℕ) → k < length ls → Starts ls k s)
        → (k : ℕ)
        → k < length (pick e ([] ∷ ls) (onto b ls))
        → Starts (pick e ([] ∷ ls) (onto b ls)) k (b ∷ s)
    go true q ls f zero h = record { rest = b ∷ s; whole = refl }
    go true q ls f (suc k) h = starts_next b s ls k (eqb-true b newline q) (f k (omega arith))
    go false q [] f zero h = record { rest = s; whole = refl }
    go false q [] f (suc k) h = absurd (omega arith)
    go false q (l ∷ ls) f k h = starts_more b s l ls k (f k h)

-- ---- parts
inside_at : (b : Bool) (s p x rest : List ℕ) → s ≡ p ++ (x ++ rest) → Inside s (record { second = b; start = length p; text = x })
inside_at b s p x rest q =
    record {
      within =
          let m : length s ≡ length p + length (x ++ rest) = ap length q ∙ length-append p (x ++ rest) in
          let n = length-append x rest in
          omega arith;
      bytes =
          ap (λ (u : List ℕ). take (length x) (drop (length p) u)) q
          ∙ ap (take (length x)) (drop-append_seam p (x ++ rest))
          ∙ take-append_seam x rest;
    }

end_inside : (b : Bool) (s : List ℕ) → Inside s (at_end b s)
end_inside b s = record { within = omega arith; bytes = refl }

line_inside : (b : Bool) (s : List ℕ) (l : ℕ) → Inside s (part_of b s l)
unfolding start_of text_of
line_inside b s l = go (has_line s l) refl
  where
    go : (h : Bool)
        → has_line s l ≡ h
        → Inside s
        (record {
          second = b;
          start = pick h (length (ended_lines (take (l - 1) (lines s)))) (length s);
          text = pick h (line_at (lines s) l) [];
        })
    go true h =
        let i = has_some s l h in
        let j = has_within s l h in
        let x = line_starts s (l - 1) (omega arith) in
        inside_at b s (ended_lines (take (l - 1) (lines s))) (line_at (lines s) l) x.rest x.whole
    go false h = end_inside b s

pub part_inside : (d t : List ℕ) (q l : ℕ) → Inside (sheet_of (located d t q l).second d t) (located d t q l)
unfolding located
part_inside d t q l = go (of_network q) (of_design q)
  where
    part : Bool → Bool → Part
    part n e = pick n (part_of true t l) (pick e (part_of false d l) (at_end false d))

    go : (n e : Bool) → Inside (sheet_of (part n e).second d t) (part n e)
    go true e = line_inside true t l
    go false true = line_inside false d l
    go false false = end_inside false d
