-- What a pair's examination answers: a refusal by the first question that is answered "no", or a design that says what the two texts
-- say and keeps every rule of a design. One walk over the questions, in their order, gives both. Assumes nothing.
use Rattle.std.specs.Prelude.{◌≡◌, refl, Bool, true, false, List, map, ℕ, ◌≤◌, leb, length}
use Rattle.std.proofs.Common.{sym, ap, ◌∙◌, subst, arith, leb-true, leb-false}
use Rattle.std.proofs.Math.Option.{Option, some, none}
use Rattle.bits.specs.Logic.{pick}
use Rattle.limits.specs.Limits.{max_inputs, max_limit, max_outputs}
use Rattle.platext.specs.TextReadLaws.{pla_print_of_read}
use Rattle.text.specs.Line.{lines}
use Rattle.names.specs.Name.{Name, distinct, all_among}
use Rattle.names.specs.Spelled.{spelled_by}
use Rattle.names.specs.Names.{all_names}
use Rattle.sheet.specs.Examine.{Design, Examined, refused, valid, sized, with_bound, with_limit}
use Rattle.sheet.specs.WellFormed.{WellFormed}
use Rattle.sheet.specs.LineRightLaws.{bound_names_right}
use Rattle.platext.specs.Lines.{outputs_line, inputs_line, first_cube}
use Rattle.platext.specs.Text.{Pla, Answer, bad_line, pla, read_pla}
use Rattle.panel.specs.Questions as text
use Rattle.panel.specs.Questions.{too_many, other_mark, refused_at, further_asked, examine_text}
use Rattle.panel.specs.Board.{Board, misspelled, board, read_board}
use Rattle.panel.specs.Examine.{ask_names, ask_board, with_board, beside_text, examine}
use Rattle.panel.specs.Panel.{TextPassed, BoardPassed, NamesPassed, Panel, PanelText, pla_text, second_text, PanelRefuses, PanelRefusal}
use Rattle.panel.specs.Panel.{by_spelling, by_inputs_count, by_outputs_count, by_mark, by_size, by_board, by_input_again, by_output_again}
use Rattle.panel.specs.Panel.{by_bound_count, by_bound_again, by_bound_unknown, by_limit}
use Rattle.panel.specs.OnceLaws.{distinct_first}
use Rattle.panel.specs.WalkLaws.{outputs_count, NamesTaken, names_walk, BoundTaken, board_walk}
use Rattle.panel.specs.RefusalLaws.{refusal_right_by}

-- ---- what a pair comes to
-- a refusal by a question of one of the texts, or a design that is right
abbrev PairRight : List ℕ → List ℕ → Examined → Type 0
PairRight p b (refused q l) = (t : PanelText) × PanelRefuses p b t q l
PairRight p b (valid d) = Panel p b d × WellFormed d

-- ---- questions 3 to 5
module _ (p b : List ℕ) (x : Pla) (bs : List Name) (n : ℕ) where
  panel_right : (e : Design)
      → NamesTaken x e
      → NamesPassed p b x bs n
      → BoundTaken e.inputs bs
      → n ≤ max_limit
      → PairRight p b (valid (with_limit (with_bound e (map (spelled_by e.inputs) bs)) n))
  panel_right e w k c l =
      let t = k.board_passed.text_passed in
      let written = (pla_print_of_read p x t.is_read).writable in
      let i = w.same_inputs in
      let o = w.same_outputs in (
        record {
          text = x;
          board-bound = bs;
          board_limit = n;
          passed = k;
          same_inputs = i;
          same-bound = ap (λ (ns : List Name). map (spelled_by ns) bs) i;
          same_limit = refl;
          same_outputs = o;
        },
        record {
          inputs_right =
              record {
                filled = omega (arith, written.inputs_some, ap length i);
                few = omega (arith, t.inputs_few, ap length i);
                once = ap distinct i ∙ distinct_first x.inputs x.outputs k.names_once;
                named = ap all_names i ∙ written.inputs_named;
              };
          bound_right = bound_names_right e.inputs bs c.counted c.once c.known;
          limit_right = l;
          outputs_right = w.outputs_right;
          some-output = omega (arith, written.outputs_some, ap length o, outputs_count x 0 x.outputs);
        },
      )

  names_right : BoardPassed p b x bs n → PairRight p b (ask_names x (ask_board bs n))
  names_right h =
      let P = PairRight p b in
      names_walk P p x (ask_board bs n) h.text_passed
      (λ f. (pla_text, by_input_again x bs n h f))
      (λ f g. (pla_text, by_output_again x bs n h f g))
      (λ e w.
      let k : NamesPassed p b x bs n = record { board_passed = h; names_once = w.names_once } in
      let known = ap (all_among bs) (sym w.same_inputs) in
      board_walk P bs n e (
        λ f. (second_text, by_bound_count x bs n k f),
        λ f. (
          λ g. (second_text, by_bound_again x bs n k f g),
          λ g.
              (λ i. (second_text, by_bound_unknown x bs n k f g (known ∙ i)), λ _. tt),
        ),
      )
      (λ c l. (second_text, by_limit x bs n k c.counted c.once (known ∙ c.known) l))
      (λ c l. panel_right e w k c l))

-- what is asked after the second text's spelling: the laws below take it as a premise, and each law about pairs shows it itself
abbrev pub AsksBoard : Type 0
AsksBoard = (bs : List Name) (n : ℕ) (x : Pla) → with_board (board bs n) x ≡ ask_names x (ask_board bs n)

-- ---- questions 1 and 2 on the second text
with_board_right_by : AsksBoard → (p b : List ℕ) (x : Pla) (y : Board) → TextPassed p x → sized b ≡ true → read_board (lines b) ≡ y → PairRight p b (with_board y x)
with_board_right_by a p b x (misspelled l) h s e = (second_text, by_board x l h s e)
with_board_right_by a p b x (board bs n) h s e =
    subst (PairRight p b) (sym (a bs n x)) (names_right p b x bs n (record { text_passed = h; board-sized = s; board_is_read = e }))

-- ---- questions 12 to 14
-- a refusal of the PLA text, whatever the second text is, or what the questions leave
abbrev TextRight : List ℕ → text.Examined → Type 0
TextRight p (text.refused q l) = (b : List ℕ) → PanelRefuses p b pla_text q l
TextRight p (text.passed x) = TextPassed p x

marks_asked : (p : List ℕ) (x : Pla) (y : Option ℕ)
    → read_pla p ≡ pla x
    → length x.inputs ≤ max_inputs
    → length x.outputs ≤ max_outputs
    → other_mark first_cube x.cubes ≡ y
    → TextRight p (refused_at 14 y (text.passed x))
marks_asked p x none r i o e = record { is_read = r; inputs_few = i; outputs_few = o; zeros_and_ones = e }
marks_asked p x (some l) r i o e = λ b. by_mark x l r i o e

counts_asked : (p : List ℕ) (x : Pla)
    → read_pla p ≡ pla x
    → TextRight p (refused_at 13 (too_many x) (refused_at 14 (other_mark first_cube x.cubes) (text.passed x)))
unfolding too_many
counts_asked p x r = go (leb (length x.inputs) max_inputs) (leb (length x.outputs) max_outputs) refl refl
  where
    go : (a c : Bool)
        → leb (length x.inputs) max_inputs ≡ a
        → leb (length x.outputs) max_outputs ≡ c
        → TextRight p
        (refused_at 13 (pick a (pick c none (some outputs_line)) (some inputs_line)) (refused_at 14 (other_mark first_cube x.cubes) (text.passed x)))
    go true true i o =
        marks_asked p x (other_mark first_cube x.cubes) r (leb-true (length x.inputs) max_inputs i) (leb-true (length x.outputs) max_outputs o) refl
    go true false i o =
        λ b. by_outputs_count x r (leb-true (length x.inputs) max_inputs i) (leb-false (length x.outputs) max_outputs o)
    go false c i o = λ b. by_inputs_count x r (leb-false (length x.inputs) max_inputs i)

further_right : (p : List ℕ) (y : Answer) → read_pla p ≡ y → TextRight p (further_asked y)
further_right p (bad_line l) e = λ b. by_spelling l e
further_right p (pla x) e = counts_asked p x e

text_right : (p : List ℕ) → TextRight p (examine_text p)
unfolding examine_text
text_right p = further_right p (read_pla p) refl

-- ---- every pair
beside_right_by : AsksBoard → (p b : List ℕ) (y : text.Examined) → TextRight p y → PairRight p b (beside_text y b)
beside_right_by a p b (text.refused q l) h = (pla_text, h b)
beside_right_by a p b (text.passed x) h = go (sized b) refl
  where
    go : (t : Bool) → sized b ≡ t → PairRight p b (pick t (with_board (read_board (lines b)) x) (refused 1 0))
    go true e = with_board_right_by a p b x (read_board (lines b)) h e refl
    go false e = (second_text, by_size x h e)

pair_right_by : AsksBoard → (p b : List ℕ) → PairRight p b (examine p b)
unfolding examine
pair_right_by a p b = beside_right_by a p b (examine_text p) (text_right p)

with_board_right : (p b : List ℕ) (x : Pla) (y : Board) → TextPassed p x → sized b ≡ true → read_board (lines b) ≡ y → PairRight p b (with_board y x)
with_board_right = with_board_right_by (λ bs n x. refl)

beside_right : (p b : List ℕ) (y : text.Examined) → TextRight p y → PairRight p b (beside_text y b)
beside_right = beside_right_by (λ bs n x. refl)

pair_right : (p b : List ℕ) → PairRight p b (examine p b)
pair_right = pair_right_by (λ bs n x. refl)

pub panel_refused : (p b : List ℕ) (q l : ℕ) → examine p b ≡ refused q l → PanelRefusal p b q l
panel_refused p b q l e =
    let (t, r) = subst (PairRight p b) e (pair_right_by (λ bs n x. refl) p b) in
    refusal_right_by p b (λ m k. refl) t q l r

pub panel_valid : (p b : List ℕ) (d : Design) → examine p b ≡ valid d → Panel p b d
panel_valid p b d e = (subst (PairRight p b) e (pair_right_by (λ bs n x. refl) p b)).0

pub well_formed_by : AsksBoard → (p b : List ℕ) (d : Design) → examine p b ≡ valid d → WellFormed d
well_formed_by a p b d e = (subst (PairRight p b) e (pair_right_by a p b)).1

pub panel_well_formed : (p b : List ℕ) (d : Design) → examine p b ≡ valid d → WellFormed d
panel_well_formed p b d e = well_formed_by (λ bs n x. refl) p b d e
