-- The lists of a folder's feeds tell its world.
use Rattle.std.proofs.Common.{◌≡◌, ℕ, ◌+◌, true, false, Bool, cond, pos, List, [], ◌∷◌, ◌++◌, refl, sym, ap, ◌∙◌, subst, arith}
use Rattle.std.specs.List.{AllByRecursion as Each, filter}
use Rattle.std.proofs.lemmas.Int.{ints}
use Rattle.std.proofs.lemmas.List.Elements.{All-from_recursion, recursion_from_All}
use Rattle.lean_fixed.specs.declared.time.Window.{Window}
use Rattle.lean_fixed.specs.Ranges.{IsWindow}
use Rattle.lean_io.specs.Told.{Files}
use Rattle.lean_items.specs.declared.feed_key.FeedKey.{FeedKey}
use Rattle.lean_items.specs.declared.feed_key.FeedKind.{FeedKind}
use Rattle.lean_items.specs.declared.feed_key.FeedKind.TheVariants.{Coarse, Equity}
use Rattle.lean_items.specs.declared.item.Item.{Item}
use Rattle.lean_items.specs.Given.{IsRow}
use Rattle.exchange_hours.specs.Entries.{Entries}
use Rattle.exchange_hours.specs.Sessions.{LieInDays}
use Rattle.clock_feeds.specs.Feeds.{coarse_of, feed_of, feed}
use Rattle.clock_feeds.specs.Known.{feed_bars, feed_blocked}
use Rattle.clock_feeds.specs.Lists.{IsWhole, blocked_in}
use Rattle.clock_feeds.proofs.FeedLemmas.{coarse_told, feed_rises, feed_whole}
use Rattle.clock_feeds.proofs.KeyLemmas.{blocked_of, grow_of, in_file, none_of, of_kind}
use Rattle.frontier_sync.specs.Heads.{fits_first}
use Rattle.frontier_sync.specs.Rising.{EndsOnce}
use Rattle.frontier_sync.specs.Slices.{ends_at}
use Rattle.frontier_sync.specs.Stands.{AreBars, is_coarse}
use Rattle.clock_run.specs.States.{Setup, coarse_key, equity_key}
use Rattle.clock_run.specs.Worlds.{world_of}
use Rattle.clock_run.proofs.EachLemmas.{each-through}
use Rattle.backtest_core.specs.Slices.{IsSoundRow}
use Rattle.backtest_engine.specs.Feeds.{list_of}
use Rattle.backtest_engine.specs.Lists.{due}
use Rattle.backtest_engine.specs.Stands.{AreLists, HasFile}
use Rattle.backtest_engine.specs.Tells.{Tells, bars_ending}
use Rattle.backtest_engine.specs.Turns.{IsEquity}
use Rattle.backtest_engine.proofs.WorldTellsLists.{IsGood, good-first, good-row, has-file, no-coarse, bars-same, rows-same, whole-once, due-told}
use Rattle.backtest_engine.proofs.WorldTellsFeeds.{good, quiet, once}

-- ---- lists

module _ (files : Files) (hours : Entries) (window : Window) (key : FeedKey) where
  only-bars : (kind : FeedKind) → IsEquity kind → AreBars (feed_of files hours window key kind)
  only-bars Coarse is = absurd is
  only-bars (Equity symbol resolution) is =
      let list = feed_of files hours window key (Equity symbol resolution) in
      All-from_recursion (λ item. is_coarse item ≡ false) list
      (each-through list (no-coarse symbol resolution) (of_kind files hours window key (Equity symbol resolution)))

  once-whole : IsWhole (feed files hours window key) → EndsOnce (feed files hours window key)
  once-whole whole = subst EndsOnce (sym whole.is) (whole-once whole.rows whole.stop (recursion_from_All IsRow whole.rows whole.are_rows))

  module _ (every : LieInDays hours) (is_window : IsWindow window) where
    abbrev list : List Item
    list = feed files hours window key

    all-good : Each (IsGood key.start.0) list
    all-good = good files hours window key every is_window key.kind refl

    due-is : (t : ℕ) → IsWhole list → due (pos t) list ≡ feed_blocked files hours window key t
    due-is t whole =
        let same : due (pos t) list ≡ blocked_in list t
        = subst (λ xs. due (pos t) xs ≡ blocked_in xs t) (sym whole.is)
        (due-told key.start.0 t whole.rows whole.stop (recursion_from_All IsRow whole.rows whole.are_rows) (subst (Each (IsGood key.start.0)) whole.is all-good)) in
        same ∙ blocked_of files hours window key every is_window key.kind refl t

    grows : (t : ℕ) → feed_bars files hours window key (t + 1) ≡ feed_bars files hours window key t ++ bars_ending (t + 1) list
    grows t =
        grow_of files hours window key every is_window key.kind refl t (t + 1) (omega arith) (λ u low high. absurd (omega (arith, low, high)))
        ∙ ap (λ xs. feed_bars files hours window key t ++ xs) (sym (bars-same key.start.0 (t + 1) list all-good))

    sound-at : (t : ℕ) → Each IsSoundRow (filter (ends_at (pos t)) list)
    sound-at t = each-kept (ends_at (pos t)) list (each-through list (good-row key.start.0) all-good)
      where
        by : (b : Bool) (item : Item) (items : List Item) → IsSoundRow item → Each IsSoundRow items → Each IsSoundRow (cond b (item ∷ items) items)
        by true item items is all = (is, all)
        by false item items is all = all

        each-kept : (p : Item → Bool) (items : List Item) → Each IsSoundRow items → Each IsSoundRow (filter p items)
        each-kept p [] all = tt
        each-kept p (item ∷ items) all = by (p item) item (filter p items) all.0 (each-kept p items all.1)

pub lists-are : (files : Files) (hours : Entries) (window : Window) → LieInDays hours → IsWindow window → AreLists (list_of files hours window)
lists-are files hours window every is_window = record {
  list = λ key. record {
    after = key.start.0;
    rises = feed_rises files hours window key every is_window;
    once = once-whole files hours window key (feed_whole files hours window key);
  };
  first = λ key.
      All-from_recursion (λ x. fits_first key.start.0 x ≡ true) (feed files hours window key)
      (each-through (feed files hours window key) (good-first key.start.0) (all-good files hours window key every is_window));
  bars = λ key is. only-bars files hours window key key.kind is;
  files = λ key.
      All-from_recursion HasFile (feed files hours window key)
      (each-through (feed files hours window key) has-file (in_file files hours window key is_window key.kind refl));
}

-- ---- worlds

pub folder-tells : (setup : Setup) (files : Files) → LieInDays setup.hours → IsWindow setup.plan.window
    → Tells setup (world_of files setup.hours setup.plan.window) (list_of files setup.hours setup.plan.window)
unfolding world_of
folder-tells setup files every is_window =
    let hours = setup.hours in
    let window = setup.plan.window in
    let coarse = coarse_key window in
    record {
      lists_are = lists-are files hours window every is_window;
      bars = λ key t is. grows files hours window key every is_window t;
      fresh = λ start symbol resolution fill t low.
          let key = equity_key start symbol resolution fill in
          none_of files hours window key every is_window key.kind refl t (omega (arith, ints, low));
      quiet = λ key t. quiet files hours window key every is_window key.kind t;
      once = λ f t valid known. once files hours window f.security.key every is_window f f.security.key.kind refl t valid known;
      rows = λ t.
          coarse_told t (coarse_of files hours window coarse)
          ∙ sym (rows-same coarse.start.0 t (feed files hours window coarse) (all-good files hours window coarse every is_window));
      sound = λ key t. sound-at files hours window key every is_window t;
      blocked = λ key t. due-is files hours window key every is_window t (feed_whole files hours window key);
    }
