use Rattle.backtest_engine.proofs.OpeningLemmas.{keys-more}
use Rattle.backtest_engine.proofs.opening.add_listed.Goals as goal

pub loop-security-preserved : goal.loop-security-preserved
loop-security-preserved c t at =
    let now = c.loop-security in
    keys-more t now.security-index c.args.out.now.items now.out.items c.add_key.new.out.items c.args.securities.now c.security-item.result
    c.loop-security-test.true c.security-item.is (c.in_ok-add_key.ensures.keys t at) (now.invariant t at)
