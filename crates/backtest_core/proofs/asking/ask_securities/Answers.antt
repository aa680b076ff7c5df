use Rattle.std.proofs.Common.{◌++◌, ap, sym, subst, ◌∙◌, flat_map, take, length, arith, ◌≡◌}
use Rattle.std.proofs.lemmas.List.Folds.{flat_map-map}
use Rattle.clock_run.specs.Requests.{security_requests}
use Rattle.backtest_core.specs.Standing.{Followed, history}
use Rattle.backtest_core.specs.Watching.{WatchesAt}
use Rattle.backtest_core.specs.Asking.{FindsRule, HasWindows}
use Rattle.backtest_core.proofs.AskLemmas.{zip-at, zip-all, each-at, asked-more}
use Rattle.backtest_core.proofs.asking.ask_securities.Goals as goal

pub loop-security-preserved : goal.loop-security-preserved
loop-security-preserved c = (
  λ t seen fs specs at sees watches has finds.
      let i = c.loop-security.security-index in
      let z = zip-at (WatchesAt t) c.args.watched.now fs i c.security-item.result watches c.loop-security-test.true in
      asked-more (λ (f : Followed). security_requests seen t c.args.rule.now (history f)) fs i z.item c.args.out.now.items c.loop-security.out.items _ z.more
      (c.loop-security.invariant.0 t seen fs specs at sees watches has finds)
      (c.in_ok-ask.ensures.asks t seen z.item at sees (subst (λ w. WatchesAt t w z.item) (sym c.security-item.is) z.related)
      (subst (λ s. FindsRule s c.args.places.now c.args.rule.now)
      (sym (subst (HasWindows specs) (sym c.security-item.is) (each-at (HasWindows specs) c.args.watched.now i c.security-item.result has c.loop-security-test.true)))
      finds)),
  λ all. c.in_ok-ask.ensures.sound (c.loop-security.invariant.1 all),
)

pub returns-clause-asks : goal.returns-clause-asks
returns-clause-asks c = λ t seen fs specs at sees watches has finds.
    let end : c.loop-security.security-index ≡ length c.args.watched.now
    = omega (arith, c.loop-security-test.false, c.loop-security.auto.security-index-end) in
    c.loop-security.invariant.0 t seen fs specs at sees watches has finds
    ∙ ap (λ xs. c.args.out.now.items ++ xs)
    (ap (flat_map (λ (f : Followed). security_requests seen t c.args.rule.now (history f)))
    (ap (λ n. take n fs) end ∙ zip-all (WatchesAt t) c.args.watched.now fs watches)
    ∙ sym (flat_map-map (security_requests seen t c.args.rule.now) history fs))
