use Rattle.std.proofs.Common.{arith, [], ◌∷◌, ◌++◌, ◌∙◌, subst, append_assoc}
use Rattle.backtest_engine.proofs.PhaseLemmas.{goes-heard, heard-some}
use Rattle.backtest_engine.proofs.phases.hear_all.Goals as goal

pub replies-preserved : goal.replies-preserved
replies-preserved g c =
    let inv = c.replies.invariant in
    let (more, goes, plays) = inv.known in
    let some = c.in-Ok-Some in
    let reply = some.heard.reply in
    record {
      known = (
        more ++ reply ∷ [],
        goes-heard (g.D.Desk.stands c.args.desk.now) (g.D.Desk.stands c.replies.desk) (g.D.Desk.stands c.hear.new.self) [] more reply goes
            (λ b cs rs h. heard-some (g.D.Desk.stands c.hear.new.self) b cs rs some.heard some.field-0 some.field-0-is (some.ensures.stands b cs rs h)),
        λ kept m turn cs rs h.
            (let (was, hears) = c.tell-lost.ensures.heard kept in
            subst (λ xs. g.C.Strategy.plays c.tell-lost.new.core m turn cs xs) (append_assoc rs more (reply ∷ []))
            (hears m turn cs (rs ++ more) (plays was m turn cs rs h))),
      );
      fed = some.ensures.starved;
      submitted = c.hear.ensures.submitted ∙ inv.submitted;
      ordered = c.hear.ensures.orders ∙ inv.ordered;
      left = omega (arith, c.tell-lost.ensures.left, inv.left);
      orders = omega (arith, c.tell-lost.ensures.orders, inv.orders);
    }
