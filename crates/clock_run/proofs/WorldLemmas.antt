-- The worlds of two folders that agree, and how a world goes on.
use Rattle.std.proofs.Common.{◌≡◌, ℕ, ◌+◌, ◌-◌, ◌<◌, ◌≤◌, List, [], ◌++◌, refl, ap, sym, subst, ◌∙◌, arith}
use Rattle.std.proofs.lemmas.Int.{ints}
use Rattle.std.specs.Prelude.{Bool, Some, find}
use Rattle.std.specs.Option.{option_to_list}
use Rattle.lean_fixed.specs.declared.resolution.Resolution.{Resolution}
use Rattle.lean_fixed.specs.declared.time.Window.{Window}
use Rattle.lean_fixed.specs.Moments.{first_moment, last_moment}
use Rattle.lean_fixed.specs.Ranges.{IsWindow}
use Rattle.lean_io.specs.Told.{Files}
use Rattle.lean_items.specs.declared.bad.Bad.{Bad}
use Rattle.lean_items.specs.declared.feed_key.FeedKey.{FeedKey}
use Rattle.exchange_hours.specs.Entries.{Entries}
use Rattle.exchange_hours.specs.Sessions.{LieInDays}
use Rattle.clock_feeds.specs.Ahead.{AreWellFormed, AgreeUntil}
use Rattle.clock_feeds.specs.Bars.{ends_at}
use Rattle.clock_feeds.proofs.AheadLemmas.{bars_agree, rows_agree, not_blocked}
use Rattle.clock_feeds.proofs.KeyLemmas.{now_of, none_of}
use Rattle.clock_feeds.proofs.StayLemmas.{feed_stays}
use Rattle.clock_steps.specs.Runs.{IsFrontOf, run}
use Rattle.clock_steps.proofs.RunLemmas.{run-same, run-front}
use Rattle.clock_run.specs.Known.{World}
use Rattle.clock_run.specs.States.{Setup, coarse_key, equity_key, opening}
use Rattle.clock_run.specs.Moments.{moment_of}
use Rattle.clock_run.specs.Worlds.{world_of}
use Rattle.clock_run.specs.Reports.{step_of, moments, backtest}

pub worlds-agree : (files other : Files) (hours : Entries) (window : Window) (t : ℕ) → LieInDays hours → IsWindow window
    → AreWellFormed files hours window → AreWellFormed other hours window → AgreeUntil t files other hours window
    → (u : ℕ) → u ≤ t → u ≤ last_moment window → world_of files hours window u ≡ world_of other hours window u
unfolding world_of
worlds-agree files other hours window t every is_window good fine agree u low within =
    λ i. record {
      bars = λ key. bars_agree files other hours window t every is_window good fine agree key key.kind refl u low within i;
      blocked = λ key.
          (not_blocked files hours window key good key.kind refl u ∙ sym (not_blocked other hours window key fine key.kind refl u)) i;
      coarse = rows_agree files other hours window t every is_window good fine agree (coarse_key window) refl u low within i;
    }

pub same-worlds : (setup : Setup) (world other : World) (count : ℕ)
    → ((t : ℕ) → first_moment setup.plan.window ≤ t → t < first_moment setup.plan.window + count → world t ≡ other t)
    → moments setup world count ≡ moments setup other count
same-worlds setup world other count same =
    run-same (step_of setup world) (step_of setup other) count (first_moment setup.plan.window) (opening setup)
    (λ t s from until. ap (λ known. moment_of setup t known s) (same t from until))

pub same-files : (setup : Setup) (files other : Files) (t : ℕ) → LieInDays setup.hours → IsWindow setup.plan.window
    → AreWellFormed files setup.hours setup.plan.window → AreWellFormed other setup.hours setup.plan.window
    → AgreeUntil t files other setup.hours setup.plan.window → t ≤ last_moment setup.plan.window
    → moments setup (world_of files setup.hours setup.plan.window) (t + 1 - first_moment setup.plan.window)
    ≡ moments setup (world_of other setup.hours setup.plan.window) (t + 1 - first_moment setup.plan.window)
same-files setup files other t every is_window good fine agree within =
    same-worlds setup (world_of files setup.hours setup.plan.window) (world_of other setup.hours setup.plan.window)
    (t + 1 - first_moment setup.plan.window)
    (λ u from until. worlds-agree files other setup.hours setup.plan.window t every is_window good fine agree u
    (by u (first_moment setup.plan.window) from until) (omega (arith, within, by u (first_moment setup.plan.window) from until)))
  where
    by : (u first : ℕ) → first ≤ u → u < first + (t + 1 - first) → u ≤ t
    by u first from until = omega (arith, from, until)

pub front-of : (setup : Setup) (world : World) (t : ℕ) → t ≤ last_moment setup.plan.window
    → IsFrontOf (moments setup world (t + 1 - first_moment setup.plan.window)).lines (backtest setup world).lines
front-of setup world t within =
    let first = first_moment setup.plan.window in
    let last = last_moment setup.plan.window in
    let e : (t + 1 - first) + ((last + 1 - first) - (t + 1 - first)) ≡ last + 1 - first = omega (arith, within) in
    subst (λ n. IsFrontOf (moments setup world (t + 1 - first)).lines (run (step_of setup world) n first (opening setup)).lines) e
    (run-front (step_of setup world) (t + 1 - first) ((last + 1 - first) - (t + 1 - first)) first (opening setup))

pub bars-go-on : (files : Files) (hours : Entries) (window : Window) (key : FeedKey) (t : ℕ)
    → (world_of files hours window (t + 1)).bars key ≡ (world_of files hours window t).bars key
    ++ option_to_list (find (ends_at (t + 1)) ((world_of files hours window (t + 1)).bars key))
unfolding world_of
bars-go-on files hours window key t = now_of files hours window key key.kind t

pub stays-blocked : (files : Files) (hours : Entries) (window : Window) (key : FeedKey) (t u : ℕ) (bad : Bad) → t ≤ u
    → (world_of files hours window t).blocked key ≡ Some bad → (world_of files hours window u).blocked key ≡ Some bad
unfolding world_of
stays-blocked files hours window key = feed_stays files hours window key key.kind

pub begins-fresh : (files : Files) (hours : Entries) (window : Window) (symbol : List ℕ) (resolution : Resolution) (fill : Bool) (t : ℕ)
    → LieInDays hours → IsWindow window → (world_of files hours window t).bars (equity_key t symbol resolution fill) ≡ []
unfolding world_of
begins-fresh files hours window symbol resolution fill t every is_window =
    let key = equity_key t symbol resolution fill in
    none_of files hours window key every is_window key.kind refl t (omega (arith, ints))
