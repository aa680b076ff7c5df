use Rattle.std.proofs.Common.{◌≡◌, ◌++◌, ◌∷◌, [], suc, ◌+◌, arith, map, drop, drop-cons, ap, sym, ◌∙◌}
use Rattle.std.proofs.lemmas.List.{append_assoc}
use Rattle.clock_run.specs.States.{joining}
use Rattle.backtest_core.specs.Waiting.{subscriptions_in}
use Rattle.backtest_core.proofs.closing.join_all.Goals as goal

pub loop-symbol-preserved : goal.loop-symbol-preserved
loop-symbol-preserved c =
    let all = c.args.symbols.now in
    let i = c.loop-symbol.symbol-index in
    let item = c.symbol-item.result in
    let before = subscriptions_in c.loop-symbol.waiting.items in
    let here : drop i all ≡ item ∷ drop (suc i) all =
    drop-cons all i item c.loop-symbol-test.true ∙ ap (λ s. s ∷ drop (suc i) all) (sym c.symbol-item.is) in
    let step : suc i ≡ i + 1 = omega arith in (
      omega (arith, c.loop-symbol.invariant.0, c.in_ok-add_joining.ensures.len),
      λ t at.
          c.loop-symbol.invariant.1 t at
          ∙ (ap (λ l. before ++ map (joining c.args.universe.now t 0) l) here
          ∙ (sym (append_assoc before (joining c.args.universe.now t 0 item ∷ []) (map (joining c.args.universe.now t 0) (drop (suc i) all)))
          ∙ (ap (λ l. l ++ map (joining c.args.universe.now t 0) (drop (suc i) all)) (sym (c.in_ok-add_joining.ensures.waits t at))
          ∙ ap (λ n. subscriptions_in c.add_joining.new.out.items ++ map (joining c.args.universe.now t 0) (drop n all)) step))),
    )
