use Rattle.seeking.specs.SeekingLaws.{places_none, places_all, places_rest}
use Rattle.seeking.specs.Seeking.{Places}
use Rattle.std.proofs.Common.{refl, sym, subst, ℕ, arith}
use Rattle.seeking.proofs.places.Goals as goal

pub returns-then-u-eq0 : goal.returns-then-u-eq0
returns-then-u-eq0 c = subst (λ (z : ℕ). Places c.args.kn z 0) (sym c.if-u-eq0.true) (places_none c.args.kn)

pub returns-then-kn-ne0 : goal.returns-then-kn-ne0
returns-then-kn-ne0 c = let a = c.args in
    let h = c.if-u-eq0.false in
    places_rest a.kn a.u c.power-all.result _ (omega arith) c.power-all.ensures.0 refl

pub returns-else-kn-ne0 : goal.returns-else-kn-ne0
returns-else-kn-ne0 c = let a = c.args in
    let h = c.if-u-eq0.false in
    places_all a.kn a.u c.power-all.result _ (omega arith) c.power-all.ensures.0 refl c.if-kn-ne0.false
