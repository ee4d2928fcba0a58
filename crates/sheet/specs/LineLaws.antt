-- A line of names: the code's list is that of the line where the list ends with the line. Assumes nothing.
use Rattle.std.specs.Prelude.{◌≡◌, List, [], ◌∷◌, ℕ, ◌≤◌, ◌<◌, length, drop, Option, Some, None}
use Rattle.std.proofs.Common.{ap, subst, arith, length-drop}
use Rattle.std.proofs.Math.Option as maybe
use Rattle.text.specs.Bytes.{Read, found, bad, after, eat, whole}
use Rattle.names.specs.Name.{Name}
use Rattle.names.specs.Names.{read_names}
use Rattle.cursor.specs.Item.{At, MovedIs, NamesAre}
use Rattle.cursor.specs.declared.Cursor.{Cursor}
use Rattle.cursor.specs.declared.NameList.{NameList}
use Rattle.sheet.specs.Known.{LineIs}

-- the names of a text after a word, where q reads them
abbrev pub list_after : (List ℕ → Read (List Name)) → Read (Unit {0}) → maybe.Option (List Name)
list_after q r = whole (after r (λ _ t. q t))

abbrev pub names_after : Read (Unit {0}) → maybe.Option (List Name)
names_after r = list_after read_names r

-- ---- by where the list ends
module _ (s : List ℕ) where
  list_none : (x : Read (List Name)) → NamesAre s None x → LineIs (whole x) None
  list_none x e = subst (λ (y : Read (List Name)). LineIs (whole y) None) e tt

  list_whole : (l : NameList) (x : Read (List Name)) → NamesAre s (Some l) x → length s ≤ l.next.at → LineIs (whole x) (Some l)
  list_whole l (found ns []) a e = record { kept = a.kept }
  list_whole l (found ns (b ∷ t)) a e = absurd (omega (arith, e, length-drop l.next.at s, ap length a.rest))
  list_whole l bad a e = absurd a

  list_part : (l : NameList) (x : Read (List Name)) → NamesAre s (Some l) x → l.next.at < length s → LineIs (whole x) None
  list_part l (found ns []) a d = absurd (omega (arith, d, length-drop l.next.at s, ap length a.rest))
  list_part l (found ns (b ∷ t)) a d = tt
  list_part l bad a d = absurd a

-- ---- by the word at the front
module _ (w s : List ℕ) {m : Option Cursor} (h : MovedIs s m (eat w s)) where
  pub word-found : {c : Cursor} → m ≡ Some c → At s tt c (eat w s)
  word-found e = subst (λ (x : Option Cursor). MovedIs s x (eat w s)) e h

module _ (w s : List ℕ) (q : List ℕ → Read (List Name)) where
  pub no_word : bad ≡ eat w s → LineIs (list_after q (eat w s)) None
  no_word e = subst (λ (x : Read (Unit {0})). LineIs (list_after q x) None) e tt

  module _ {c : Cursor} (h : At s tt c (eat w s)) where
    pub no_list : NamesAre s None (q (drop c.at s)) → LineIs (list_after q (eat w s)) None
    no_list n = subst (λ (x : Read (Unit {0})). LineIs (list_after q x) None) h.is (list_none s (q (drop c.at s)) n)

    pub whole-line : (l : NameList) → NamesAre s (Some l) (q (drop c.at s)) → length s ≤ l.next.at
        → LineIs (list_after q (eat w s)) (Some l)
    whole-line l n g = subst (λ (x : Read (Unit {0})). LineIs (list_after q x) (Some l)) h.is (list_whole s l (q (drop c.at s)) n g)

    pub longer-line : (l : NameList) → NamesAre s (Some l) (q (drop c.at s)) → l.next.at < length s
        → LineIs (list_after q (eat w s)) None
    longer-line l n d = subst (λ (x : Read (Unit {0})). LineIs (list_after q x) None) h.is (list_part s l (q (drop c.at s)) n d)
