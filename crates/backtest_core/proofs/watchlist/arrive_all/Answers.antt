use Rattle.std.proofs.Common.{◌≡◌, ◌<◌, ◌≤◌, length, refl, subst, ap, ◌∙◌, arith, slice_index_or, ℕ, drop, set, length-set}
use Rattle.backtest_core.specs.Standing.{history, feed_of}
use Rattle.backtest_core.specs.Inside.{bars_in, with_bars}
use Rattle.backtest_core.specs.Slices.{FitsOnce}
use Rattle.backtest_core.specs.Watching.{first_bar, Watches, WatchesAt}
use Rattle.clock_run.specs.Idle.{IsQuiet}
use Rattle.backtest_core.specs.Asking.{HasWindows}
use Rattle.backtest_core.proofs.CoreLemmas.{each-set}
use Rattle.backtest_core.proofs.ListLemmas.{HasHeard, heard-none, heard-next, heard-all}
use Rattle.backtest_core.proofs.watchlist.arrive_all.Goals as goal

pub loop-i-init : goal.loop-i-init
loop-i-init c = record {
  len = refl;
  within = omega arith;
  heard = λ t fs well. heard-none t c.args.slice.now c.args.watched.now.items fs well;
  windows = λ specs all. all;
}

pub loop-i-preserved : goal.loop-i-preserved
loop-i-preserved c =
    let slice = c.args.slice.now in
    let ws = c.loop-i.watched.items in
    let i = c.loop-i.i in
    let within : i < length ws =
    omega (arith, c.loop-i.invariant.len, c.loop-i-test.true, c.len-i-end.ensures, c.args.watched.now.ok.0) in
    let here : c.index_mut-security.result.now ≡ slice_index_or ws i c.index_mut-security.result.now = c.index_mut-security.ensures.value in
    record {
      len = length-set ws i c.arrive.new.self ∙ c.loop-i.invariant.len;
      within = c.find_bar-found.ensures.within;
      heard = λ t fs well. subst (λ n. HasHeard t slice c.find_bar-found.result.place n (set ws i c.arrive.new.self) fs) (omega arith)
          (heard-next t slice c.args.watched.now.items c.loop-i.from c.find_bar-found.result.place i ws fs c.arrive.new.self
          c.index_mut-security.result.now c.find_bar-found.result.bar within well
          (λ order. subst (λ w. c.find_bar-found.result.bar ≡ first_bar (bars_in (drop c.loop-i.from slice) w.feed.0)) here (c.find_bar-found.ensures.found order))
          (subst (λ w. (later : ℕ) → w.feed.0 ≤ later → bars_in (drop c.loop-i.from slice) later ≡ bars_in (drop c.find_bar-found.result.place slice) later) here
          c.find_bar-found.ensures.passed)
          (λ f. subst (λ w. Watches w f → IsQuiet t (history f) → FitsOnce t f (bars_in slice (feed_of f)) → c.find_bar-found.result.bar ≡ first_bar (bars_in slice (feed_of f))
          → WatchesAt t c.arrive.new.self (with_bars slice f)) here (c.arrive.ensures.arrives t f slice))
          (c.loop-i.invariant.heard t fs well));
      windows = λ specs all.
          each-set (HasWindows specs) i ws c.arrive.new.self c.index_mut-security.result.now within
          (λ has. c.arrive.ensures.specs ∙ (ap (λ w. w.following.windows.specs) here ∙ has))
          (c.loop-i.invariant.windows specs all);
    }

pub returns-clause-arrives : goal.returns-clause-arrives
returns-clause-arrives c = λ t fs watch quiet once order rise.
    heard-all t c.args.slice.now c.loop-i.from c.loop-i.i c.loop-i.watched.items fs
    (omega (arith, c.loop-i.invariant.len, c.loop-i-test.false, c.len-i-end.ensures, c.args.watched.now.ok.0))
    (c.loop-i.invariant.heard t fs (record { watch = watch; quiet = quiet; once = once; order = order; rise = rise }))
