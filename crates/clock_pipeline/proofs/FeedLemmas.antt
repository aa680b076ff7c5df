-- What was taken of a feed tells of a moment that it reaches what the files tell.
use Rattle.std.proofs.Common.{◌≡◌, ℕ, List, ap, sym, ◌∙◌}
use Rattle.std.specs.Option.{option_to_list}
use Rattle.lean_fixed.specs.declared.resolution.Resolution.{Resolution}
use Rattle.lean_fixed.specs.declared.time.Window.{Window}
use Rattle.lean_fixed.specs.Ranges.{IsWindow}
use Rattle.lean_io.specs.Told.{Files}
use Rattle.lean_items.specs.declared.feed_key.FeedKey.{FeedKey}
use Rattle.lean_items.specs.declared.feed_key.FeedKind.TheVariants.{Coarse, Equity}
use Rattle.lean_items.specs.declared.item.Item.{Item}
use Rattle.lean_items.specs.Taken.{Follows}
use Rattle.exchange_hours.specs.Entries.{Entries}
use Rattle.exchange_hours.specs.Sessions.{LieInDays}
use Rattle.clock_steps.proofs.WalkLemmas.{walk-alike}
use Rattle.clock_feeds.specs.Bars.{bar_at}
use Rattle.clock_feeds.specs.Feeds.{bars_of, coarse_of, filling_of, feed, feed_of}
use Rattle.clock_feeds.specs.Known.{bars_by, feed_bars, feed_bars_of}
use Rattle.clock_feeds.specs.Lists.{bars_ending, rows_ending}
use Rattle.clock_feeds.specs.Slices.{coarse_at}
use Rattle.clock_feeds.proofs.FeedLemmas.{feed_rises, feed_whole, coarse_told}
use Rattle.clock_feeds.proofs.KeyLemmas.{of_kind, bars_told_of}
use Rattle.clock_pipeline.specs.Reached.{bars_taken, reaches}
use Rattle.clock_pipeline.proofs.ReachLemmas.{closes-list, bars-told, rows-told}
use Rattle.std.specs.Prelude.{true}

module _ (files : Files) (hours : Entries) (window : Window) (every : LieInDays hours) (is_window : IsWindow window) (key : FeedKey) (taken : List Item)
    (t : ℕ) (follows : Follows (feed files hours window key) taken) (reached : reaches key.kind key.start.0 t taken ≡ true) where
  pub taken-bars : (symbol : List ℕ) (resolution : Resolution) → key.kind ≡ Equity symbol resolution → bars_taken taken t ≡ feed_bars files hours window key t
  unfolding bars_taken bars_by
  taken-bars symbol resolution is =
      walk-alike (λ u. bars_ending u taken) (λ u. option_to_list (bar_at (filling_of hours window key resolution) (bars_of files hours window key symbol resolution) u)) 0 t
      (λ u from until.
      bars-told key.kind key.start.0 t (feed files hours window key) taken (feed_rises files hours window key every is_window) (of_kind files hours window key key.kind)
      (closes-list (feed files hours window key) (feed_whole files hours window key)) follows reached u until
      ∙ ap (λ kind. bars_ending u (feed_of files hours window key kind)) is
      ∙ bars_told_of files hours window key every is_window symbol resolution is u)
      ∙ ap (λ kind. feed_bars_of files hours window key kind t) (sym is)

  pub taken-rows : key.kind ≡ Coarse → rows_ending t taken ≡ coarse_at (coarse_of files hours window key) t
  taken-rows is =
      rows-told key.kind key.start.0 t (feed files hours window key) taken (feed_rises files hours window key every is_window) (of_kind files hours window key key.kind)
      (closes-list (feed files hours window key) (feed_whole files hours window key)) follows reached
      ∙ ap (λ kind. rows_ending t (feed_of files hours window key kind)) is
      ∙ sym (coarse_told t (coarse_of files hours window key))
