use Rattle.std.proofs.Common.{sym, ap, ◌∙◌, Some}
use Rattle.backtest_core.proofs.LiveLemmas.{lists-gone, lists-less}
use Rattle.backtest_core.proofs.mirror.Lives.remove.Goals as goal

pub returns-in-None : goal.returns-in-None
returns-in-None c = λ live lists. lists-gone _ _ _ live c.args.id c.in-None.ensures.unchanged (sym c.in-None.ensures.value) lists

pub returns-in-Some : goal.returns-in-Some
returns-in-Some c = λ live lists.
    lists-less _ _ _ _ live c.as_slice.result.now c.args.id (sym c.in-Some.ensures.value ∙ ap Some (sym c.as_slice.ensures)) c.take_out_all.ensures
    c.in-Some.ensures.updates.0 lists
