use mathlib.Core.Path.{refl}
use mathlib.Core.Logic.{⊎_elim}
use Rattle.bits.specs.LogicLaws.{true_false}
use mathlib.Core.Bool.{true}
use Rattle.readers.specs.KnownLaws.{decided_contrary, decided_asked, decided_written}
use Rattle.readers.proofs.codes_for.Goals as goal

pub returns-then-contrary : goal.returns-then-contrary
returns-then-contrary c = let a = c.args in
    let q = c.contrary.ensures.0 c.if-contrary.true in
    record {
      sure = λ e. decided_asked a.cl.now a.v a.j a.rows c.asked-k.result a.kn a.val a.rows c.asked-k.ensures
          (decided_contrary a.cl.now a.v a.j a.rows c.asked-k.result a.val a.rows q.0 q.1 q.2);
      never = λ e. refl;
    }

pub returns-in-Found : goal.returns-in-Found
returns-in-Found c = let a = c.args in
    let s = rw c.in-Found.is at c.search-s.ensures in
    record {
      sure = λ e. decided_written a.cl.now a.v a.j a.rows a.kn a.val c.in-Found.codes c.written.result
          c.requires.3 c.asked-k.result c.if-k-kn.false c.asked-k.ensures c.written.ensures true (s.sure refl);
      never = λ e. refl;
    }

pub returns-in-Nothing : goal.returns-in-Nothing
returns-in-Nothing c = let a = c.args in
    ⊎_elim (λ e. rw e (record {
      sure = λ u. decided_asked a.cl.now a.v a.j a.rows c.asked-k.result a.kn a.val a.rows c.asked-k.ensures ((rw e at c.search-s.ensures).sure refl);
      never = λ u. refl;
    })) (λ e. rw e (record { sure = λ u. absurd (true_false u); never = (rw e at c.search-s.ensures).never })) c.in-Nothing.is
