use Rattle.std.proofs.Common.{◌<◌, length, refl, ap, sym, subst, ◌∙◌, arith, set}
use Rattle.backtest_core.specs.declared.watched.Watched.{Watched}
use Rattle.backtest_core.specs.Standing.{Followed}
use Rattle.backtest_core.specs.Inside.{marked_so}
use Rattle.backtest_core.specs.Watching.{WatchesAt}
use Rattle.backtest_core.specs.Asking.{HasWindows}
use Rattle.backtest_core.proofs.CoreLemmas.{each-set}
use Rattle.backtest_core.proofs.HalfwayLemmas.{Halfway, halfway-none, halfway-meets, halfway-next, halfway-all, zip-right}
use Rattle.backtest_core.proofs.leaving.mark_all.Goals as goal

pub loop-i-init : goal.loop-i-init
loop-i-init c = (
  refl,
  λ t fs watch.
      halfway-none (WatchesAt t) (λ w f. WatchesAt t w (marked_so c.args.symbols.now f)) c.args.watched.now.items fs watch,
  λ specs all. all,
)

pub loop-i-preserved : goal.loop-i-preserved
loop-i-preserved c =
    let ws = c.loop-i.watched.items in
    let i = c.loop-i.i in
    let d = c.index_mut-security.result.now in
    let within : i < length ws =
    omega (arith, c.loop-i.invariant.0, c.loop-i-test.true, c.len-i-end.ensures, c.loop-i.watched.ok.0) in (
      c.loop-i.invariant.0,
      λ t fs watch.
          let half = c.loop-i.invariant.1 t fs watch in
          let S = λ (w : Watched) (f : Followed). WatchesAt t w (marked_so c.args.symbols.now f) in
          let meets = halfway-meets (WatchesAt t) S i ws fs d within half in
          subst (λ n. Halfway (WatchesAt t) S n (set ws i c.mark.new.self) fs) (omega arith)
          (halfway-next (WatchesAt t) S i ws fs c.mark.new.self meets.other within meets.at
          (c.mark.ensures.marks t meets.other (subst (λ w. WatchesAt t w meets.other) (sym c.index_mut-security.ensures.value) meets.related)) half),
      λ specs all. each-set (HasWindows specs) i ws c.mark.new.self d within
          (λ has. c.mark.ensures.specs ∙ (ap (λ (w : Watched). w.following.windows.specs) c.index_mut-security.ensures.value ∙ has))
          (c.loop-i.invariant.2 specs all),
    )

pub returns-clause-marks : goal.returns-clause-marks
returns-clause-marks c = λ t fs watch.
    let S = λ (w : Watched) (f : Followed). WatchesAt t w (marked_so c.args.symbols.now f) in
    zip-right (WatchesAt t) (marked_so c.args.symbols.now) c.loop-i.watched.items fs
    (halfway-all (WatchesAt t) S c.loop-i.i c.loop-i.watched.items fs
    (omega (arith, c.loop-i.invariant.0, c.loop-i-test.false, c.len-i-end.ensures, c.loop-i.watched.ok.0))
    (c.loop-i.invariant.1 t fs watch))
