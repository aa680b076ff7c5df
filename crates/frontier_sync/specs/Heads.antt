-- The heads of feeds: of each feed the item that was taken of it last, and was not passed on yet.
use Rattle.std.specs.Prelude.{◌≡◌, ℕ, ◌<◌, ◌==◌, nat_lt, ℤ, int_lt, if◌then◌else◌, ◌<ℤ◌, ◌≤ℤ◌, Bool, true, false, not, ◌&&◌, List, length, [], ◌∷◌, ◌++◌, Option, Some, None}
use Rattle.std.specs.List.{All, Any, filter}
use Rattle.lean_fixed.specs.declared.time.Moment.{Moment}
use Rattle.lean_items.specs.declared.arrival.Arrival.{Arrival}
use Rattle.lean_items.specs.declared.feed_no.FeedNo.{FeedNo}
use Rattle.lean_items.specs.declared.item.Item.{Item}
use Rattle.lean_items.specs.declared.item.Item.TheVariants.{Bar, Coarse, Bad, Faulted, End}
use Rattle.lean_items.specs.Fits.{fits, is_bar_in_range, is_row_in_range}
use Rattle.lean_items.specs.Given.{IsRow, end_of}

-- a feed gave an item
abbrev pub arrival : FeedNo → Item → Arrival
arrival feed item = record { feed = feed; item = item }

-- the numbers of the feeds rise, so that no feed has two heads
abbrev pub AreRising : List Arrival → Type 0
AreRising [] = Unit {0}
AreRising (a ∷ heads) = All (λ b. a.feed.0 < b.feed.0) heads × AreRising heads

-- a head in the place of the head of its feed, if it had one, between those of lower and of higher feeds
abbrev pub put : Arrival → List Arrival → List Arrival
put a heads =
    filter (λ b. nat_lt b.feed.0 a.feed.0) heads ++ a ∷ filter (λ b. nat_lt a.feed.0 b.feed.0) heads

-- without the head of a feed
abbrev pub without : ℕ → List Arrival → List Arrival
without feed heads = filter (λ a. not (a.feed.0 == feed)) heads

-- the head of a feed stands at a place, and behind it only those of higher feeds
abbrev pub StandsAt : List Arrival → ℕ → ℕ → Type 0
StandsAt heads place feed =
    (front back : List Arrival) × (a : Arrival) × (heads ≡ front ++ a ∷ back) × (length front ≡ place)
    × (a.feed.0 ≡ feed) × All (λ b. feed < b.feed.0) back

-- a malformed line or a failed read
abbrev pub stops : Item → Bool
stops (Bad bad) = true
stops Faulted = true
stops (Bar bar) = false
stops (Coarse at row) = false
stops End = false

-- an end, if there is one, that is no earlier than a moment, or later
abbrev pub EndsFrom : ℤ → Option ℤ → Type 0
EndsFrom t None = Unit {0}
EndsFrom t (Some end) = t ≤ℤ end

abbrev pub EndsAfter : ℤ → Option ℤ → Type 0
EndsAfter t None = Unit {0}
EndsAfter t (Some end) = t <ℤ end

-- the least end of the heads that have one
abbrev pub IsFrontier : List Arrival → Option Moment → Type 0
IsFrontier heads None = All (λ a. end_of a.item ≡ None) heads
IsFrontier heads (Some t) =
    Any (λ a. end_of a.item ≡ Some t.0) heads × All (λ a. EndsFrom t.0 (end_of a.item)) heads

-- the earlier of two moments, if there are any
abbrev pub earlier : Option Moment → Option Moment → Option Moment
earlier None second = second
earlier (Some first) None = Some first
earlier (Some first) (Some second) = Some (if int_lt second.0 first.0 then second else first)

-- each feed whose head is a row is open
abbrev pub AreOpen : (ℕ → Bool) → List Arrival → Type 0
AreOpen is_open heads = All (λ a. IsRow a.item → is_open a.feed.0 ≡ true) heads

-- an item that may be the first head of a feed: a last item, or a row that ends past the feed's start and whose numbers are in
-- their ranges
abbrev pub fits_first : ℤ → Item → Bool
fits_first start (Bar bar) = int_lt start bar.end.0 && is_bar_in_range bar
fits_first start (Coarse at row) = int_lt start at.0 && is_row_in_range at.0 row
fits_first start (Bad bad) = true
fits_first start Faulted = true
fits_first start End = true

-- the same, or an item that may come behind one that ends at a moment
abbrev pub fits_by : Bool → ℤ → Item → Bool
fits_by true start item = fits_first start item
fits_by false after item = fits after item
