use Rattle.std.proofs.Common.{◌≡◌, ◌++◌, ◌∷◌, [], suc, ◌+◌, arith, map, drop, drop-cons, ap, sym, ◌∙◌}
use Rattle.std.proofs.lemmas.List.{append_assoc}
use Rattle.clock_run.specs.States.{listed}
use Rattle.backtest_core.specs.Waiting.{subscriptions_in}
use Rattle.backtest_core.proofs.joining.wait_listed.Goals as goal

pub loop-security-preserved : goal.loop-security-preserved
loop-security-preserved c =
    let all = c.args.securities.now in
    let i = c.loop-security.security-index in
    let item = c.security-item.result in
    let before = subscriptions_in c.loop-security.waiting.items in
    let here : drop i all ≡ item ∷ drop (suc i) all =
    drop-cons all i item c.loop-security-test.true ∙ ap (λ s. s ∷ drop (suc i) all) (sym c.security-item.is) in
    let step : suc i ≡ i + 1 = omega arith in (
      omega (arith, c.loop-security.invariant.0, c.in_ok-add_listed.ensures.len),
      λ t at.
          c.loop-security.invariant.1 t at
          ∙ (ap (λ l. before ++ map (listed t 0) l) here
          ∙ (sym (append_assoc before (listed t 0 item ∷ []) (map (listed t 0) (drop (suc i) all)))
          ∙ (ap (λ l. l ++ map (listed t 0) (drop (suc i) all)) (sym (c.in_ok-add_listed.ensures.listed t at))
          ∙ ap (λ n. subscriptions_in c.add_listed.new.out.items ++ map (listed t 0) (drop n all)) step))),
    )
