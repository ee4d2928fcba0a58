-- A line of a number and a line of names, from a place of the text on: read, so that the next line can be read, or the bad one.
-- Assumes nothing.
use Rattle.std.specs.Prelude.{◌≡◌, refl, List, ℕ, ◌+◌, ◌-◌, ◌≤◌, ◌<◌, take, drop, Some, None}
use Rattle.std.specs.Prelude as code
use Rattle.std.proofs.Common.{subst}
use Rattle.std.proofs.Math.Option.{Option, some, none}
use Rattle.text.specs.Bytes.{eat}
use Rattle.names.specs.Name.{Name}
use Rattle.cursor.specs.declared.NameList.{NameList}
use Rattle.sheet.specs.Known.{LineIs}
use Rattle.platext.specs.Lines.{read_count, read_named}
use Rattle.platext.specs.Reading.{LineHere, NextIs, Passed, Stopped, CountLineIs, NamesHere, NamedLineIs}
use Rattle.platext.specs.LinePassLaws.{no_line_stops, read_passes, unread_stops}
use Rattle.platext.specs.CountLaws.{number_after, count_bad, count_low, count_there}

-- ---- no line
module _ (s : List ℕ) (at : ℕ) (w : List ℕ) (low : ℕ) {r : code.Option (ℕ × ℕ)} where
  count_stopped : Stopped s at (read_count w low) → r ≡ None → CountLineIs s at w low r
  count_stopped x e = rw e x

  pub count_no_line : {l : code.Option ℕ} → NextIs s at l → l ≡ None → r ≡ None → CountLineIs s at w low r
  count_no_line n e f = count_stopped (no_line_stops (read_count w low) (subst (λ (o : code.Option ℕ). NextIs s at o) e n)) f

module _ (s : List ℕ) (at : ℕ) (w : List ℕ) (m : ℕ) {r : code.Option (NameList × ℕ)} where
  names_stopped : Stopped s at (read_named w m) → r ≡ None → NamedLineIs s at w m r
  names_stopped x e = rw e x

  pub names_no_line : {l : code.Option ℕ} → NextIs s at l → l ≡ None → r ≡ None → NamedLineIs s at w m r
  names_no_line n e f = names_stopped (no_line_stops (read_named w m) (subst (λ (o : code.Option ℕ). NextIs s at o) e n)) f

module _ {s : List ℕ} {at : ℕ} (w : List ℕ) {e : ℕ} (x : LineHere s at e) where
  abbrev line : List ℕ
  line = take (e - at) (drop at s)

  -- ---- a number
  module _ (low : ℕ) where
    pub count-unread : number_after (eat w line) ≡ none → Stopped s at (read_count w low)
    count-unread h = unread_stops (read_count w low) x (count_bad w low line h)

    module _ {n : ℕ} (h : number_after (eat w line) ≡ some n) where
      pub count-too-low : n < low → Stopped s at (read_count w low)
      count-too-low g = unread_stops (read_count w low) x (count_low w low line n h g)

      pub count-passed : low ≤ n → Passed s at (read_count w low) n (e + 1)
      count-passed g = read_passes (read_count w low) x n (count_there w low line n h g)

  -- ---- names
  module _ (m : ℕ) where
    none-read : (y : Option (List Name)) → LineIs y None → y ≡ none
    none-read none h = refl
    none-read (some ns) h = absurd h

    pub names_unread : LineIs (read_named w m line) None → Stopped s at (read_named w m)
    names_unread h = unread_stops (read_named w m) x (none-read (read_named w m line) h)

    names_by : (l : NameList) (y : Option (List Name)) → read_named w m line ≡ y → LineIs y (Some l) → NamesHere s at w m l (e + 1)
    names_by l none f h = absurd h
    names_by l (some ns) f h = record { names = ns; listed = h; passed = read_passes (read_named w m) x ns f }

    pub names_line_lem : (l : NameList) → LineIs (read_named w m line) (Some l) → NamesHere s at w m l (e + 1)
    names_line_lem l h = names_by l (read_named w m line) refl h
