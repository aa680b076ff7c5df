-- What is known of a walk over the feeds of a pool, whatever its folder tells.
use Rattle.std.specs.Prelude.{◌≡◌, ℕ, ◌≤◌, List, ◌++◌, length, Option, Some, None, Result, Ok, Err, map, slice_get}
use Rattle.std.specs.List.{Contains}
use Rattle.lean_fixed.specs.Calendar.{last_day}
use Rattle.lean_fixed.specs.declared.resolution.Resolution.{Resolution}
use Rattle.lean_fixed.specs.declared.time.Window.{Window}
use Rattle.lean_io.specs.Told.{Files}
use Rattle.lean_items.specs.declared.arrival.Arrival.{Arrival}
use Rattle.lean_items.specs.declared.feed_key.FeedKey.{FeedKey}
use Rattle.lean_items.specs.declared.item.Item.{Item}
use Rattle.lean_items.specs.declared.item.Item.TheVariants.{Bad as BadLine, Faulted as FailedRead}
use Rattle.lean_items.specs.Taken.{Feeds, Taken}
use Rattle.exchange_hours.specs.Entries.{Entries}
use Rattle.exchange_hours.specs.Sessions.{LieInDays}
use Rattle.clock_feeds.specs.Feeds.{feed}
use Rattle.clock_feeds.specs.Slices.{Source}
use Rattle.report_pages.specs.declared.pages.Stop.{Stop}
use Rattle.report_pages.specs.Printed.{IsPrinted, IsFront}
use Rattle.session_tape.specs.declared.ending.Ending.{Ending}
use Rattle.session_tape.specs.declared.ending.Ending.TheVariants.{Whole, Refused, Faulted}
use Rattle.session_tape.specs.Session.{SessionBar, session_key, session, session_text}
use Rattle.session_tape.specs.Whole.{IsWhole}

-- the keys of the symbols, in their order
abbrev pub keys_of : Resolution → Window → List (List ℕ) → List FeedKey
keys_of resolution window symbols = map (session_key resolution window) symbols

-- the lists of a pool are those of the feeds over these files and hours
pub record AreFeeds (lists : FeedKey → List Item) (files : Files) (hours : Entries) (window : Window) : Type 0 where
  pub lie : LieInDays hours
  pub same : (key : FeedKey) → lists key ≡ feed files hours window key

-- a failed read is among what was taken
abbrev pub HasFaulted : Feeds → Type 0
HasFaulted feeds = (n : ℕ) × (taken : Taken) × (feeds n ≡ Some taken) × Contains taken.items FailedRead

-- how the bars of a session tape ended: all were printed, a malformed line is due, or a read failed behind whole minutes
abbrev pub EndsSo : List (List ℕ × Source) → Window → List SessionBar → Ending → Type 0
EndsSo sources window bars (Whole count) =
    (session sources window ≡ record { lines = bars; state = tt; stop = None }) × (count ≡ length bars)
EndsSo sources window bars (Refused symbol bad) =
    (session sources window ≡ record { lines = bars; state = tt; stop = Some (symbol, bad) }) × (bad.file ≤ last_day)
EndsSo sources window bars Faulted = IsWhole sources window bars

-- the bars that were printed behind a page, and what ended them
pub record IsWalked (sources : List (List ℕ × Source)) (window : Window) (before after : Option (List ℕ)) (page new : List ℕ) (ending : Ending) : Type 0 where
  pub bars : List SessionBar
  pub printed : IsPrinted before after page new (session_text bars)
  pub ends : EndsSo sources window bars ending

-- the same of a walk that was cut short: a front of all bars went into the sink
abbrev pub HasWalked : List (List ℕ × Source) → Window → Option (List ℕ) → Option (List ℕ) → List ℕ → List ℕ → Result Ending Stop → Type 0
HasWalked sources window before after page new (Ok ending) = IsWalked sources window before after page new ending
HasWalked sources window before after page new (Err stop) =
    IsFront before after (page ++ session_text (session sources window).lines)

-- after a failed read one is among what was taken
abbrev pub IfFaulted : Result Ending Stop → Type 0 → Type 0
IfFaulted (Ok Faulted) P = P
IfFaulted (Ok (Whole count)) P = Unit {0}
IfFaulted (Ok (Refused symbol bad)) P = Unit {0}
IfFaulted (Err stop) P = Unit {0}

-- what a head says that ends a walk
abbrev pub IsEnding : List (List ℕ) → Arrival → Ending → Type 0
IsEnding symbols stop (Whole count) = ⊥
IsEnding symbols stop (Refused symbol bad) = (stop.item ≡ BadLine bad) × (slice_get symbols stop.feed.0 ≡ Some symbol)
IsEnding symbols stop Faulted = stop.item ≡ FailedRead
