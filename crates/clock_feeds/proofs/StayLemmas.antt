-- A feed that is blocked stays blocked.
use Rattle.std.proofs.Common.{◌≡◌, ℕ, ◌≤◌, List, [], ◌∷◌, Bool, true, false, refl, ap, ◌∙◌, arith}
use Rattle.std.specs.Prelude.{Option, Some, None, nat_le, if◌then◌else◌}
use Rattle.std.specs.List.{list_all}
use Rattle.std.proofs.lemmas.Bool.Decides.{nat_tests}
use Rattle.std.proofs.lemmas.Bool.{and_parts, and_from}
use Rattle.lean_fixed.specs.declared.time.Window.{Window}
use Rattle.lean_io.specs.Told.{Files}
use Rattle.lean_items.specs.declared.bad.Bad.{Bad}
use Rattle.lean_items.specs.declared.bar.Bar.{Bar}
use Rattle.lean_items.specs.declared.coarse_row.CoarseRow.{CoarseRow}
use Rattle.lean_items.specs.declared.feed_key.FeedKey.{FeedKey}
use Rattle.lean_items.specs.declared.feed_key.FeedKind.{FeedKind}
use Rattle.lean_items.specs.declared.feed_key.FeedKind.TheVariants.{Coarse, Equity}
use Rattle.exchange_hours.specs.Entries.{Entries}
use Rattle.clock_feeds.specs.Kept.{Kept}
use Rattle.clock_feeds.specs.Bars.{end_of, blocked}
use Rattle.clock_feeds.specs.Feeds.{bars_of, coarse_of}
use Rattle.clock_feeds.specs.Known.{coarse_blocked, feed_blocked_of}

module _ {X : Type 0} (end : X → ℕ) where
  abbrev is_by : ℕ → X → Bool
  is_by t x = nat_le (end x) t

  abbrev stop_by : Option Bad → List X → ℕ → Option Bad
  stop_by stop rows t = if list_all (is_by t) rows then stop else None

  by_later : (t u : ℕ) (x : X) → t ≤ u → is_by t x ≡ true → is_by u x ≡ true
  by_later t u x le is = grind (arith, nat_tests)

  all_later : (t u : ℕ) (rows : List X) → t ≤ u → list_all (is_by t) rows ≡ true → list_all (is_by u) rows ≡ true
  all_later t u [] le all = refl
  all_later t u (row ∷ rows) le all =
      let parts = and_parts (is_by t row) (list_all (is_by t) rows) all in
      and_from (is_by u row) (list_all (is_by u) rows) (by_later t u row le parts.0) (all_later t u rows le parts.1)

  stays : (stop : Option Bad) (rows : List X) (t u : ℕ) (bad : Bad) → t ≤ u → stop_by stop rows t ≡ Some bad → stop_by stop rows u ≡ Some bad
  stays stop rows t u bad le = by (list_all (is_by t) rows) refl
    where
      by : (b : Bool) → list_all (is_by t) rows ≡ b → (if b then stop else None) ≡ Some bad → stop_by stop rows u ≡ Some bad
      by true all is = ap (λ b. if b then stop else None) (all_later t u rows le all) ∙ is
      by false all is = absurd cc

pub bars_stay : (kept : Kept Bar) (t u : ℕ) (bad : Bad) → t ≤ u → blocked kept t ≡ Some bad → blocked kept u ≡ Some bad
bars_stay kept = stays end_of kept.stop kept.rows

pub rows_stay : (kept : Kept (ℕ × CoarseRow)) (t u : ℕ) (bad : Bad) → t ≤ u → coarse_blocked kept t ≡ Some bad → coarse_blocked kept u ≡ Some bad
rows_stay kept = stays (λ row. row.0) kept.stop kept.rows

pub feed_stays : (files : Files) (hours : Entries) (window : Window) (key : FeedKey) (kind : FeedKind) (t u : ℕ) (bad : Bad) → t ≤ u
    → feed_blocked_of files hours window key kind t ≡ Some bad → feed_blocked_of files hours window key kind u ≡ Some bad
feed_stays files hours window key Coarse = rows_stay (coarse_of files hours window key)
feed_stays files hours window key (Equity symbol resolution) = bars_stay (bars_of files hours window key symbol resolution)
