-- The `limit` line: the code reads the line's parts in turn, and asks whether the number is small enough.
-- Assumes nothing.
use Rattle.std.specs.Prelude.{◌≡◌, true, false, List, ℕ, ◌≤◌, ◌<◌, Some, None, Ok, Err}
use Rattle.std.proofs.Math.Path.{refl}
use Rattle.std.proofs.Common.{ap}
use Rattle.std.proofs.Math.Option as maybe
use Rattle.std.proofs.Math.Option.{some, none}
use borrow.Author.Tests.{le-leb, lt-leb}
use Rattle.bits.specs.Logic.{pick}
use Rattle.limits.specs.Limits.{max_digits, max_limit}
use Rattle.text.specs.Bytes.{bytes, bad, eat}
use Rattle.text.specs.Number.{read_number_of, read_number}
use Rattle.refusal.specs.declared.Question.{Question}
use Rattle.cursor.specs.Item.{At, from}
use Rattle.cursor.specs.declared.Cursor.{Cursor}
use Rattle.sheet.specs.Lines.{read_limit}
use Rattle.sheet.specs.Examine.{Design, ask_limit, with_limit}
use Rattle.sheet.specs.Known.{Holds, StepIs, LimitIs, closes_at}
use Rattle.sheet.specs.Value.{output_on}
use Rattle.sheet.specs.OnwardLaws.{step_to, passed_onward}
use Rattle.sheet.specs.CloseLaws.{closed-whole}
use Rattle.sheet.specs.declared.Place.{Place}
use Rattle.sheet.specs.declared.Sheet.{Sheet}

-- ---- the line's parts
module _ (l : List ℕ) where
  pub limit_no_head : bad ≡ eat (bytes "(limit ") l → LimitIs (read_limit l) None
  unfolding read_limit
  limit_no_head e = rw (← e) refl

  pub limit_no_number : {c : Cursor} → At l tt c (eat (bytes "(limit ") l) → bad ≡ read_number_of max_digits (from l c)
      → LimitIs (read_limit l) None
  unfolding read_limit read_number
  limit_no_number a e = rw (← a.is, ← e) refl

  module _ {c e : Cursor} {n : ℕ} (a : At l tt c (eat (bytes "(limit ") l)) (b : At l n e (read_number_of max_digits (from l c))) where
    limit_number : read_limit l ≡ pick (closes_at (from l e)) (some n) none
    unfolding read_limit read_number
    limit_number = rw (← a.is, ← b.is) (closed-whole n (from l e))

    pub limit_closed : closes_at (from l e) ≡ true → LimitIs (read_limit l) (Some n)
    limit_closed t = rw (limit_number, t) refl

    pub limit_unclosed : closes_at (from l e) ≡ false → LimitIs (read_limit l) None
    limit_unclosed t = rw (limit_number, t) refl

-- ---- question 3
-- the sheet with the limit n
abbrev pub limit_into : Sheet → ℕ → Sheet
limit_into k n =
    record {
      inputs = k.inputs;
      names = k.names;
      bounds = k.bounds;
      bound = k.bound;
      limit = n;
      outputs = k.outputs;
      outs = k.outs;
      tables = k.tables;
    }

limit_holds : (d : Design) (k : Sheet) (n : ℕ) → Holds d k → n ≤ max_limit → Holds (with_limit d n) (limit_into k n)
unfolding output_on
limit_holds d k n h s =
    record {
      inputs_counted = h.inputs_counted;
      inputs_few = h.inputs_few;
      inputs_named = h.inputs_named;
      bound-counted = h.bound-counted;
      bound_few = h.bound_few;
      bound_placed = h.bound_placed;
      limit_is = refl;
      limit_small = s;
      outputs_counted = h.outputs_counted;
      outputs_few = h.outputs_few;
      outputs_named = h.outputs_named;
      tabled = h.tabled;
    }

-- what is read, by the code's answer
limit_none : (o : maybe.Option ℕ) → LimitIs o None → o ≡ none
limit_none none e = refl
limit_none (some n) e = cc

limit_some : (o : maybe.Option ℕ) (n : ℕ) → LimitIs o (Some n) → o ≡ some n
limit_some none n e = cc
limit_some (some m) n e =
    let same : m ≡ n = cc in
    ap some same

module _ (d : Design) (o : maybe.Option ℕ) where
  pub limit_misspelled : LimitIs o None → StepIs (ask_limit d o) (Err Question.Spelling)
  unfolding ask_limit
  limit_misspelled e = rw (limit_none o e) refl

  pub limit_too_large : (n : ℕ) → LimitIs o (Some n) → max_limit < n → StepIs (ask_limit d o) (Err Question.Ranges)
  unfolding ask_limit
  limit_too_large n e l = rw (limit_some o n e, lt-leb n max_limit l) refl

  pub limit_passes : (k : Sheet) (n : ℕ) → LimitIs o (Some n) → n ≤ max_limit → Holds d k
      → StepIs (ask_limit d o) (Ok (step_to Place.Out (limit_into k n)))
  unfolding ask_limit
  limit_passes k n e l h = rw (limit_some o n e, le-leb n max_limit l) (passed_onward (limit_holds d k n h l))
