use Rattle.std.proofs.Common.{◌≡◌, ◌<◌, suc, ◌+◌, ap, sym, subst, ◌∙◌, flat_map, map, take, length, get_or, ◌++◌, ◌∷◌, [], arith}
use Rattle.std.proofs.lemmas.List.{take_more}
use Rattle.rule_strategy.specs.declared.rule.Rule.{Rule}
use Rattle.clock_run.specs.Requests.{security_requests}
use Rattle.backtest_core.specs.declared.places.RulePlaces.{RulePlaces}
use Rattle.backtest_core.specs.Standing.{history}
use Rattle.backtest_core.specs.Asking.{FindsRule}
use Rattle.backtest_core.proofs.AskLemmas.{zip-get, zip-length, asked-more, asked-rules}
use Rattle.backtest_core.proofs.asking.ask_rules.Goals as goal

pub returns-then-places-rules-clause-asks : goal.returns-then-places-rules-clause-asks
returns-then-places-rules-clause-asks c = λ t seen fs specs at sees watches has finds.
    absurd (c.if-places-rules.true (zip-length (FindsRule specs) c.args.places.now c.args.rules.now finds))

pub loop-place-preserved : goal.loop-place-preserved
loop-place-preserved c = (
  λ t seen fs specs at sees watches has finds.
      let i = c.loop-place.place in
      let within : i < length c.args.places.now = omega (arith, zip-length (FindsRule specs) c.args.places.now c.args.rules.now finds, c.loop-place-test.true) in
      let found =
      subst (λ (p : RulePlaces). FindsRule specs p c.index-rules-place.result) (sym c.index-places-place.is)
      (subst (FindsRule specs (get_or c.args.places.now i c.index-places-place.result)) (sym c.index-rules-place.is)
      (zip-get (FindsRule specs) c.args.places.now c.args.rules.now i c.index-places-place.result c.index-rules-place.result finds within)) in
      let step : suc i ≡ i + 1 = omega arith in
      asked-more (λ (rule : Rule). flat_map (security_requests seen t rule) (map history fs)) c.args.rules.now i c.index-rules-place.result c.args.out.now.items c.loop-place.out.items _
      (ap (λ n. take n c.args.rules.now) step ∙ take_more c.args.rules.now i c.index-rules-place.result c.loop-place-test.true
      ∙ ap (λ (rule : Rule). take i c.args.rules.now ++ rule ∷ []) (sym c.index-rules-place.is))
      (c.loop-place.invariant.0 t seen fs specs at sees watches has finds)
      (c.in_ok-ask_securities.ensures.asks t seen fs specs at sees watches has found),
  λ all. c.in_ok-ask_securities.ensures.sound (c.loop-place.invariant.1 all),
)

pub returns-clause-asks : goal.returns-clause-asks
returns-clause-asks c = λ t seen fs specs at sees watches has finds.
    asked-rules c.args.rules.now c.loop-place.place seen t (map history fs) c.args.out.now.items c.loop-place.out.items
    (omega (arith, c.loop-place-test.false, c.loop-place.auto.place-end))
    (c.loop-place.invariant.0 t seen fs specs at sees watches has finds)
