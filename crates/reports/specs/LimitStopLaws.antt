-- A refusal of a network sheet by 11: the sheet spells its network, it has the line, and on it stands the shared table or the
-- node that offends first. Assumes nothing.
use Rattle.std.specs.Prelude.{◌≡◌, Bool, true, List, [], ℕ, suc, ◌-◌, ◌≤◌, ◌<◌, length, take, drop}
use Rattle.std.proofs.Common.{sym, ap, subst, arith}
use Rattle.std.proofs.Math.Option.{some}
use Rattle.std.proofs.Math.Decide.{dec_lt}
use Rattle.std.proofs.Math.ListN.{get_or-eq_default}
use Rattle.names.specs.Name.{Name}
use Rattle.text.specs.Line.{lines, line_at}
use Rattle.sheet.specs.Examine.{Design}
use Rattle.network.specs.Network.{Network, Node}
use Rattle.network.specs.Examine.{network, read_network, offending}
use Rattle.network.specs.Printer.{print_lut, print_node, lut_head, node_head}
use Rattle.network.specs.Spelling.{LinesSpelled}
use Rattle.network.specs.NetworkFor.{Named}
use Rattle.network.specs.Answers.{Offends, lut_over, node_over}
use Rattle.network.specs.OffendingLaws.{offending-some}
use Rattle.network.specs.LinePlaceLaws.{lut_line, node_line}
use Rattle.network.specs.SpellingLaws.{spells_lines}
use Rattle.network.specs.SheetLaws.{network_spelling_of_read}
use Rattle.locate.specs.Located.{has_line, part_of}
use Rattle.locate.specs.LineLaws.{has_line_lem, has_is_line, text-has}
use Rattle.reports.specs.Stopped.{Stands, a_lut, a_node, LimitStop}

-- ---- a line with a byte is there
lut_some : (bs : List Name) (i : ℕ) (ds : List Bool) → 0 < length (print_lut bs i ds)
unfolding print_lut lut_head
lut_some bs i ds = omega arith

node-some : (n : Name) (fs : List Name) (x : Node) → 0 < length (print_node n fs x)
unfolding print_node node_head
node-some n fs x = omega arith

line_there : (ls : List (List ℕ)) (l : ℕ) → 0 < length (line_at ls l) → l - 1 < length ls
line_there ls l h =
    elim (dec_lt (l - 1) (length ls)) as (λ _. l - 1 < length ls) [
      | yes i ↦ i
      | no i ↦
          let e : length (line_at ls l) ≡ 0 = ap length (get_or-eq_default ls [] (omega arith)) in
          absurd (omega arith)
    ]

-- ---- the lines of a network
module _ (d : Design) (w : Network) where
  line_stands : (ls : List (List ℕ)) (l : ℕ) → LinesSpelled d w ls → Offends d w l → Stands d w l (line_at ls l)
  line_stands ls l s (lut_over i a b) = a_lut i b (lut_line d w ls s i b)
  line_stands ls l s (node_over o a b) = a_node o a (node_line d w ls s o a)

  stands_some : (l : ℕ) (x : List ℕ) → Stands d w l x → (1 ≤ l) × (0 < length x)
  stands_some l x (a_lut i b p) = (omega arith, subst (λ (y : List ℕ). 0 < length y) (sym p.is_line) (lut_some _ i _))
  stands_some l x (a_node o a p) = (omega arith, subst (λ (y : List ℕ). 0 < length y) (sym p.is_line) (node-some _ _ _))

-- ---- the sheet
module _ (b : Bool) (d : Design) (t : List ℕ) (w : Network) (l : ℕ) (named : Named d) (r : read_network d t ≡ network w)
    (o : offending d w ≡ some l) where
  there : Stands d w l (line_at (lines t) l)
  there =
      line_stands d w (lines t) l (spells_lines d named w t (network_spelling_of_read d t w r named).1) (offending-some d w l o).offends

  limit_has_line : has_line t l ≡ true
  limit_has_line =
      let (i, j) = stands_some d w l (line_at (lines t) l) there in
      let k = line_there (lines t) l j in
      has_line_lem t l i (omega arith)

  pub limit_stop : LimitStop d t l (part_of b t l)
  limit_stop =
      record {
        before = take (l - 1) (lines t);
        after = drop (suc (l - 1)) (lines t);
        line = has_is_line b t l limit_has_line;
        says = w;
        is_read = r;
        offends = offending-some d w l o;
        stands = subst (Stands d w l) (sym (text-has t l limit_has_line)) there;
      }
