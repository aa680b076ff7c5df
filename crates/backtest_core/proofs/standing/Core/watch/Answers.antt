use Rattle.std.proofs.Common.{◌≡◌, ◌++◌, ◌∷◌, [], ap, sym, subst, ◌∙◌}
use Rattle.std.specs.Prelude.{Some, find}
use Rattle.std.specs.List.{AllZip, AllByRecursion as Each}
use Rattle.backtest_core.specs.Standing.{waits_as, without_first, with_feed}
use Rattle.backtest_core.specs.Waiting.{subscription_in, subscriptions_in}
use Rattle.backtest_core.specs.Watching.{Watches}
use Rattle.backtest_core.specs.Asking.{HasWindows}
use Rattle.backtest_core.proofs.CoreLemmas.{each_append, zip_append}
use Rattle.backtest_core.proofs.StandLemmas.{named-is}
use Rattle.backtest_core.proofs.standing.Core.watch.Goals as goal

pub returns-clause-watches : goal.returns-clause-watches
returns-clause-watches c = λ v lines symbol stands place.
    let k = stands.keeps in
    let one = c.in_ok-security.security in
    let waits = c.index.result.now in
    let security = with_feed c.args.feed.0 (subscription_in waits) in
    let found : find (waits_as symbol) v.waiting ≡ Some (subscription_in waits) =
    ap (find (waits_as symbol)) (sym k.waiting) ∙ (place.first waits ∙ ap (λ w. Some (subscription_in w)) (sym c.index.ensures)) in
    let rest : without_first symbol v.waiting ≡ subscriptions_in c.remove.new.self.items =
    ap (without_first symbol) (sym k.waiting) ∙ (place.rest ∙ ap subscriptions_in (sym c.remove.ensures.by_index.2)) in
    let more = c.in_ok-push.ensures.items in
    named-is _ v lines symbol c.args.feed.0 (subscription_in waits) found (record {
      keeps = record {
        plan = k.plan;
        hours = k.hours;
        table = k.table;
        windows = subst (λ ws. Each (HasWindows c.args.self.now.table.specs.items) ws) (sym more)
            (each_append (HasWindows c.args.self.now.table.specs.items) c.args.self.now.watched.items one k.windows
            (subst (λ specs. HasWindows specs one) c.deref.ensures.value c.in_ok-security.ensures.windows));
        waiting = sym rest;
        seen = k.seen;
        requests = k.requests;
      };
      watched = subst (λ ws. AllZip Watches ws (v.followed ++ record { security = security; bars = [] } ∷ [])) (sym more)
          (zip_append Watches c.args.self.now.watched.items v.followed one (record { security = security; bars = [] }) stands.watched
          (c.in_ok-security.ensures.watches));
      text = stands.text;
    })
