-- An `out` line: the code reads its head, its name, the space, its formula and the bracket in turn. Assumes nothing.
use Rattle.std.specs.Prelude.{◌≡◌, refl, true, false, List, [], ◌∷◌, ℕ, suc, drop, Option, Some, None}
use Rattle.std.proofs.Common.{sym, ap, ◌∙◌, arith}
use Rattle.std.proofs.Math.Option as maybe
use Rattle.std.proofs.Math.Option.{some, none}
use Rattle.bits.specs.Logic.{pick}
use Rattle.limits.specs.Limits.{max_depth}
use Rattle.text.specs.Bytes.{bytes, Read, found, bad, after, eat, whole, space}
use Rattle.names.specs.Name.{Name, read_name}
use Rattle.names.specs.Pack.{name_of}
use Rattle.cursor.specs.Item.{At, from}
use Rattle.cursor.specs.declared.Cursor.{Cursor}
use Rattle.formula.specs.Tree.{Formula}
use Rattle.formula.specs.Reader.{read_formula}
use Rattle.formula.specs.Part.{PartIs, Good}
use Rattle.formula.specs.declared.Part.{Part}
use Rattle.sheet.specs.Lines.{Output, closed, read_out}
use Rattle.sheet.specs.Known.{OutIs, closes_at, output_after}
use Rattle.sheet.specs.CloseLaws.{closed-whole}
use Rattle.sheet.specs.declared.OutLine.{OutLine}

-- ---- the formula, and the line's end
-- the output of the name n whose formula is read
abbrev of_formula : Name → Read Formula → maybe.Option Output
of_formula n q = whole (closed (after q (λ f t. found (record { name = n; formula = f }) t)))

module _ (l : List ℕ) (ns : List Name) where
  no_formula : (q : Read Formula) → PartIs (suc max_depth) l ns q None → q ≡ bad
  no_formula q g = sym g

  pub out-no-formula : (v : ℕ) (s : List ℕ) → bad ≡ read_formula s → OutIs ns (output_after (name_of v) s) None
  out-no-formula v s e = rw (← e) tt

  module _ (p : Part) where
    a_formula : (q : Read Formula) → PartIs (suc max_depth) l ns q (Some p)
        → (f : Formula) × (t : List ℕ) × (q ≡ found f t) × Good (suc max_depth) l ns f t p
    a_formula (found f t) g = (f, t, refl, g)
    a_formula bad g = absurd g

    module _ (v : ℕ) (s : List ℕ) (g : PartIs (suc max_depth) l ns (read_formula s) (Some p)) where
      -- where a formula is read, the line is an output if the bracket ends it
      out-by-end : output_after (name_of v) s
          ≡ pick (closes_at (drop p.next.at l)) (some (record { name = name_of v; formula = (a_formula (read_formula s) g).0 })) none
      out-by-end =
          let h = a_formula (read_formula s) g in
          ap (of_formula (name_of v)) h.2
          ∙ closed-whole (record { name = name_of v; formula = h.0 }) h.1
          ∙ ap (λ (t : List ℕ). pick (closes_at t) (some (record { name = name_of v; formula = h.0 })) none) (sym h.3.rest)

      pub out-unclosed : closes_at (drop p.next.at l) ≡ false → OutIs ns (output_after (name_of v) s) None
      out-unclosed t = rw (out-by-end, t) tt

      pub out-closed : closes_at (drop p.next.at l) ≡ true
          → OutIs ns (output_after (name_of v) s) (Some (record { name = v; depth = p.depth; known = p.known; rows = p.rows }))
      out-closed t =
          let h = (a_formula (read_formula s) g).3 in
          rw (out-by-end, t)
          (record { named = refl; deep = h.deep; knowing = λ z. h.names (omega (arith, z)); tabled = λ z. h.rows (omega (arith, z)) })

-- ---- the parts before the formula
module _ (l : List ℕ) (ns : List Name) where
  pub out_no_head : bad ≡ eat (bytes "(out ") l → OutIs ns (read_out l) None
  unfolding read_out
  out_no_head e = rw (← e) tt

  module _ {c : Cursor} (h : At l tt c (eat (bytes "(out ") l)) where
    pub out_no_name : bad ≡ read_name (from l c) → OutIs ns (read_out l) None
    unfolding read_out
    out_no_name e = rw (← h.is, ← e) tt

    module _ {n : Name} {e : Cursor} (a : At l n e (read_name (from l c))) where
      pub out-no-space : bad ≡ eat (space ∷ []) (from l e) → OutIs ns (read_out l) None
      unfolding read_out
      out-no-space s = rw (← h.is, ← a.is, ← s) tt

      pub out-after : {f : Cursor} (r : Option OutLine) → At l tt f (eat (space ∷ []) (from l e)) → OutIs ns (output_after n (from l f)) r
          → OutIs ns (read_out l) r
      unfolding read_out
      out-after r s o = rw (← h.is, ← a.is, ← s.is) o
