-- Each operator is one word, and no other word is it. Assumes nothing.
use Rattle.std.specs.Prelude.{◌≡◌, refl, Bool, true, false, List, [], ℕ}
use Rattle.std.proofs.Common.{sym}
use Rattle.bits.specs.Logic.{pick}
use Rattle.bits.specs.LogicLaws.{true_false}
use Rattle.text.specs.Bytes.{bytes, same}
use Rattle.text.specs.BytesLaws.{same_equal}
use Rattle.names.specs.Name.{Operator, not_op, and_op, or_op, xor_op, none_op, operator, is_operator}

abbrev pub operator_word : Operator → List ℕ
operator_word not_op = bytes "not"
operator_word and_op = bytes "and"
operator_word or_op = bytes "or"
operator_word xor_op = bytes "xor"
operator_word none_op = []

-- a choice whose first case is the operator o of a word, or else goes on
choose : (c : Bool) (w : List ℕ) (p q o : Operator) → (c ≡ true → w ≡ operator_word p) → (q ≡ o → w ≡ operator_word o)
    → pick c p q ≡ o → w ≡ operator_word o
choose true w p q o h k e = rw e at (h refl)
choose false w p q o h k e = k e

pub operator-word : (w : List ℕ) (o : Operator) → operator w ≡ o → is_operator o ≡ true → w ≡ operator_word o
unfolding operator
operator-word w o e i =
    choose (same w (bytes "not")) w not_op _ o (same_equal w (bytes "not"))
    (choose (same w (bytes "and")) w and_op _ o (same_equal w (bytes "and"))
    (choose (same w (bytes "or")) w or_op _ o (same_equal w (bytes "or"))
    (choose (same w (bytes "xor")) w xor_op none_op o (same_equal w (bytes "xor"))
    (λ q. absurd (true_false (rw (← q) at (sym i)))))))
    e
