-- From one end to the next: what is known of the pool, the heads and the page.
use Rattle.std.proofs.Common.{◌≡◌, ℕ, ◌+◌, ◌-◌, ◌^◌, ◌<◌, ◌≤◌, true, ℤ, pos, List, [], ◌∷◌, ◌++◌, map, length, Option, Some, None, refl, sym, ap, ◌∙◌, subst, arith, inr, append_assoc}
use Rattle.std.specs.Prelude.{min, find, unwrap_or, Result, Ok, Err}
use Rattle.std.specs.List.{All, Contains, filter}
use Rattle.std.proofs.Math.Nat.{min-eq_left}
use Rattle.std.proofs.lemmas.Int.{ints}
use Rattle.std.proofs.lemmas.Grind.{flat_map-append}
use Rattle.std.proofs.lemmas.List.Elements.{All-nil, All-cons, All-head, All-tail, All-weaker, All-append, filter_passes}
use Rattle.lean_fixed.specs.Moments.{first_moment, last_moment}
use Rattle.lean_fixed.specs.Ranges.{IsWindow}
use Rattle.lean_fixed.specs.declared.resolution.Resolution.{Resolution}
use Rattle.lean_fixed.specs.declared.time.Window.{Window}
use Rattle.lean_io.specs.Told.{Files}
use Rattle.lean_items.specs.declared.arrival.Arrival.{Arrival}
use Rattle.lean_items.specs.declared.feed_key.FeedKey.{FeedKey}
use Rattle.lean_items.specs.declared.feed_no.FeedNo.{FeedNo}
use Rattle.lean_items.specs.declared.item.Item.{Item}
use Rattle.lean_items.specs.declared.item.Item.TheVariants.{Bar, Coarse, Bad, Faulted as FailedRead, End}
use Rattle.lean_items.specs.Fits.{fits}
use Rattle.lean_items.specs.Given.{end_of}
use Rattle.lean_items.specs.Taken.{Start, Feeds, AllFollow}
use Rattle.exchange_hours.specs.Entries.{Entries}
use Rattle.clock_feeds.specs.Slices.{Source, slice, refused}
use Rattle.clock_feeds.proofs.FeedLemmas.{last_small}
use Rattle.frontier_sync.specs.Heads.{arrival, stops, EndsFrom, EndsAfter}
use Rattle.frontier_sync.specs.Slices.{ends_at, given_of, given_here, slice_of, IsSliced, taken_all, MovesOn}
use Rattle.frontier_sync.specs.Stands.{HeadsStand, IsTaken}
use Rattle.frontier_sync.proofs.StandLemmas.{none-found, head-found, sound-heads, all-taken, all-front, all-step, all-later, all-quiet}
use Rattle.report_pages.specs.declared.pages.Stop.{Stop}
use Rattle.report_pages.specs.Printed.{IsPrinted, IsFront}
use Rattle.report_pages.proofs.PrintedLemmas.{IsPrinted-nothing, IsPrinted-append, IsFront-behind, IsFront-more, IsFront-printed}
use Rattle.session_tape.specs.declared.ending.Ending.{Ending}
use Rattle.session_tape.specs.declared.ending.Ending.TheVariants.{Whole, Refused, Faulted}
use Rattle.session_tape.specs.Session.{SessionBar, Refusal, session_line, session_text, session_sources, session}
use Rattle.session_tape.specs.Shown.{shown}
use Rattle.session_tape.specs.Walked.{keys_of, AreFeeds, HasFaulted, HasWalked, IfFaulted, IsEnding}
use Rattle.session_tape.proofs.ListLemmas.{are_lists, all_bars, refused_same, shown_slice, first_none, slice_short, InFile, due_in_file}
use Rattle.session_tape.proofs.StopLemmas.{none_due, first_due}
use Rattle.session_tape.proofs.RunLemmas.{SoFar, IsQuiet, so_far_start, so_far_next, so_far_end, so_far_stop, so_far_whole, so_far_front}

-- ---- what holds of heads from one minute to the next, whatever is told

abbrev pub AreNumbered : ℕ → List Arrival → Type 0
AreNumbered count heads = All (λ a. a.feed.0 < count) heads

abbrev pub AllFrom : ℕ → List Arrival → Type 0
AllFrom t heads = All (λ a. EndsFrom (pos t) (end_of a.item)) heads

pub numbered_next : (at : ℤ) (taken : ℕ → List Item) (count : ℕ) (heads after : List Arrival) → AreNumbered count heads → IsSliced at taken heads after → AreNumbered count after
numbered_next at taken count [] [] all sliced = All-nil (λ a. a.feed.0 < count)
numbered_next at taken count [] (b ∷ after) all sliced = absurd sliced
numbered_next at taken count (a ∷ heads) [] all sliced = absurd sliced
numbered_next at taken count (a ∷ heads) (b ∷ after) all ((same, refilled), sliced) =
    All-cons (λ x. x.feed.0 < count) b after
    (subst (λ (f : FeedNo). f.0 < count) (sym same) (All-head (λ x. x.feed.0 < count) a heads all))
    (numbered_next at taken count heads after (All-tail (λ x. x.feed.0 < count) a heads all) sliced)

from_next : (t : ℕ) (item : Item) → EndsAfter (pos t) (end_of item) → EndsFrom (pos (t + 1)) (end_of item)
from_next t (Bar bar) h = omega (arith, ints, h)
from_next t (Coarse end row) h = omega (arith, ints, h)
from_next t (Bad bad) h = tt
from_next t FailedRead h = tt
from_next t End h = tt

pub later_next : (t : ℕ) (taken : ℕ → List Item) (heads after : List Arrival) → AllFrom t heads → IsSliced (pos t) taken heads after → AllFrom (t + 1) after
later_next t taken [] [] all sliced = All-nil (λ a. EndsFrom (pos (t + 1)) (end_of a.item))
later_next t taken [] (b ∷ after) all sliced = absurd sliced
later_next t taken (a ∷ heads) [] all sliced = absurd sliced
later_next t taken (a ∷ heads) (b ∷ after) all ((same, refilled), sliced) =
    let P : Arrival → Type 0 = λ x. EndsFrom (pos t) (end_of x.item) in
    All-cons (λ x. EndsFrom (pos (t + 1)) (end_of x.item)) b after
    (from_next t b.item (refilled.later (All-head P a heads all)))
    (later_next t taken heads after (All-tail P a heads all) sliced)

earlier_end : (s t : ℕ) (item : Item) → s ≤ t → EndsFrom (pos t) (end_of item) → EndsFrom (pos s) (end_of item)
earlier_end s t (Bar bar) le h = omega (arith, ints, le, h)
earlier_end s t (Coarse end row) le h = omega (arith, ints, le, h)
earlier_end s t (Bad bad) le h = tt
earlier_end s t FailedRead le h = tt
earlier_end s t End le h = tt

pub all_earlier : (s t : ℕ) (heads : List Arrival) → s ≤ t → AllFrom t heads → AllFrom s heads
all_earlier s t heads le all = All-weaker (λ a. EndsFrom (pos t) (end_of a.item)) (λ a. EndsFrom (pos s) (end_of a.item)) (λ a h. earlier_end s t a.item le h) heads all

-- all that is given at a moment ends then
given_ends : (at : ℤ) (feed : FeedNo) (items : List Item) → All (λ item. ends_at at item ≡ true) items → All (λ (a : Arrival). ends_at at a.item ≡ true) (map (arrival feed) items)
given_ends at feed [] all = All-nil (λ (a : Arrival). ends_at at a.item ≡ true)
given_ends at feed (item ∷ items) all =
    All-cons (λ (a : Arrival). ends_at at a.item ≡ true) (arrival feed item) (map (arrival feed) items)
    (All-head (λ x. ends_at at x ≡ true) item items all) (given_ends at feed items (All-tail (λ x. ends_at at x ≡ true) item items all))

pub slice_ends : (at : ℤ) (taken : ℕ → List Item) (heads : List Arrival) → All (λ (a : Arrival). ends_at at a.item ≡ true) (slice_of at taken heads)
slice_ends at taken [] = All-nil (λ (a : Arrival). ends_at at a.item ≡ true)
slice_ends at taken (a ∷ heads) =
    All-append (λ (x : Arrival). ends_at at x.item ≡ true) (given_here at taken a) (slice_of at taken heads)
    (given_ends at a.feed (given_of at a.item (taken a.feed.0)) (filter_passes (ends_at at) (a.item ∷ filter (fits at) (taken a.feed.0))))
    (slice_ends at taken heads)

-- ---- what is known

module _ (resolution : Resolution) (window : Window) (symbols : List (List ℕ)) where
  abbrev keys : List FeedKey
  keys = keys_of resolution window symbols

  abbrev first : ℕ
  first = first_moment window

  abbrev last : ℕ
  last = last_moment window

  -- whatever the pool's folder tells: how far the walk has come
  pub record Comes (lists : FeedKey → List Item) (f : Files) (hours : Entries) (now : Feeds) (heads : List Arrival) (at rows : ℕ) (told0 told : Option (List ℕ)) (page0 page : List ℕ) : Type 0 where
    pub stand : HeadsStand (pos (at + 1)) now 0 heads keys
    pub bars : List SessionBar
    pub so_far : SoFar (session_sources f hours resolution window symbols) window at rows bars
    pub printed : IsPrinted told0 told page0 page (session_text bars)

  -- what was taken since the walk began at some feeds and heads
  pub record Known (stands : Start → Feeds → Type 0) (before : Start) (feeds : Feeds) (heads0 heads : List Arrival) (at rows : ℕ) (told0 told : Option (List ℕ)) (page0 page : List ℕ) : Type 0 where
    pub now : Feeds
    pub stands_now : stands before now
    pub taken : All (IsTaken now) heads
    pub earlier : (lists : FeedKey → List Item) → AllFollow lists now → AllFollow lists feeds
    pub comes : (lists : FeedKey → List Item) (f : Files) (hours : Entries) → AreFeeds lists f hours window → AllFollow lists now
        → HeadsStand (pos (first + 1)) feeds 0 heads0 keys → Comes lists f hours now heads at rows told0 told page0 page

  -- how a walk ends
  abbrev pub Ends : (Start → Feeds → Type 0) → Start → Feeds → List Arrival → Option (List ℕ) → Option (List ℕ) → List ℕ → List ℕ → Result Ending Stop → Type 0
  Ends stands before feeds heads0 told0 told page0 page result =
      (now : Feeds) × stands before now × IfFaulted result (HasFaulted now)
      × ((lists : FeedKey → List Item) → AllFollow lists now → AllFollow lists feeds)
      × ((lists : FeedKey → List Item) (f : Files) (hours : Entries) → AreFeeds lists f hours window → AllFollow lists now
      → HeadsStand (pos (first + 1)) feeds 0 heads0 keys
      → HasWalked (session_sources f hours resolution window symbols) window told0 told page0 page result)

  pub known_start : (is_window : IsWindow window) (stands : Start → Feeds → Type 0) (before : Start) (feeds : Feeds) (heads : List Arrival) (told : Option (List ℕ)) (page : List ℕ) → first ≤ last
      → stands before feeds → All (IsTaken feeds) heads → Known stands before feeds heads heads first 0 told told page page
  known_start is_window stands before feeds heads told page within stand taken = record {
    now = feeds;
    stands_now = stand;
    taken = taken;
    earlier = λ lists follow. follow;
    comes = λ lists f hours are follow start. record {
      stand = start;
      bars = [];
      so_far = so_far_start (session_sources f hours resolution window symbols) window within (first_none f hours resolution window is_window lists are symbols);
      printed = IsPrinted-nothing told page;
    };
  }

  module _ (is_window : IsWindow window) (stands : Start → Feeds → Type 0) (before : Start) (feeds : Feeds) (heads0 heads : List Arrival) (at rows : ℕ)
      (told0 told : Option (List ℕ)) (page0 page : List ℕ) (known : Known stands before feeds heads0 heads at rows told0 told page0 page) where
    abbrev none_stops : Type 0
    none_stops = find (λ (a : Arrival). stops a.item) heads ≡ None

    module _ (lists : FeedKey → List Item) (f : Files) (hours : Entries) (are : AreFeeds lists f hours window) where
      abbrev sources : List (List ℕ × Source)
      sources = session_sources f hours resolution window symbols

      -- up to the least end of the heads nothing ends, and no malformed line is due
      quiet : (c : Comes lists f hours known.now heads at rows told0 told page0 page) (until : ℕ) → none_stops → AllFollow lists known.now → AllFrom until heads
          → IsQuiet sources window at until
      quiet c until none follow from u low high =
          let calm = none-found (λ (a : Arrival). stops a.item) heads none in
          let nothing = all-quiet lists (pos (at + 1)) (pos u) (pos until) 0 known.now heads keys (are_lists f hours resolution window is_window lists are symbols) follow c.stand (sound-heads heads calm) from
          (omega (arith, ints, low)) (omega (arith, ints, high)) in (
            sym (shown_slice f hours resolution window is_window lists are symbols u) ∙ ap (shown symbols) nothing,
            refused_same f hours resolution window is_window lists are u symbols
                ∙ none_due f hours resolution window is_window lists are (pos (at + 1)) u 0 known.now heads symbols follow c.stand calm (all_earlier (u + 1) until heads (omega (arith, high)) from),
          )

      -- nor at the minute itself
      calm_now : (c : Comes lists f hours known.now heads at rows told0 told page0 page) → none_stops → AllFollow lists known.now → AllFrom (at + 1) heads → refused sources at ≡ None
      calm_now c none follow from =
          refused_same f hours resolution window is_window lists are at symbols
          ∙ none_due f hours resolution window is_window lists are (pos (at + 1)) at 0 known.now heads symbols follow c.stand (none-found (λ (a : Arrival). stops a.item) heads none) from

      -- what is given at the next minute is the slice
      pub next_slice : (c : Comes lists f hours known.now heads at rows told0 told page0 page) (next : ℕ) (taken : ℕ → List Item) (after : List Arrival) → none_stops → at < next
          → AllFrom next heads → IsSliced (pos next) taken heads after → AllFollow lists (taken_all known.now taken)
          → HeadsStand (pos (next + 1)) (taken_all known.now taken) 0 after keys × (shown symbols (slice_of (pos next) taken heads) ≡ slice sources next)
      next_slice c next taken after none low from sliced follow =
          let calm = none-found (λ (a : Arrival). stops a.item) heads none in
          let here = all-later (pos (at + 1)) (pos next) 0 known.now heads keys (omega (arith, ints, low)) c.stand from in
          let step = all-step lists (pos next) 0 known.now taken heads after keys (are_lists f hours resolution window is_window lists are symbols) follow here sliced (sound-heads heads calm)
          (inr (all_bars f hours resolution window is_window lists are symbols)) in
          (step.0, ap (shown symbols) step.1 ∙ shown_slice f hours resolution window is_window lists are symbols next)

      pub next_so_far : (c : Comes lists f hours known.now heads at rows told0 told page0 page) (next more : ℕ) (given : List SessionBar) → none_stops → AllFollow lists known.now → AllFrom (at + 1) heads → at < next → next ≤ last
          → AllFrom next heads → length symbols ≤ 64 → given ≡ slice sources next → more ≡ length given
          → SoFar sources window next (rows + more) (c.bars ++ given)
      next_so_far c next more given none follow late low high from few same count =
          let short = slice_short f hours resolution window is_window lists are symbols next in
          let size : more ≡ length (slice sources next) = count ∙ ap length same in
          subst (λ xs. SoFar sources window next (rows + more) (c.bars ++ xs)) (sym same)
          (so_far_next sources window at rows next more c.bars c.so_far (calm_now c none follow late) low high (quiet c next none follow from) size (omega (arith, size, short, few)))

    -- the next minute was printed
    pub known_next : (after_stands : Start → Feeds → Type 0) (next more rows1 : ℕ) (taken : ℕ → List Item) (after : List Arrival) (told1 : Option (List ℕ)) (page1 : List ℕ) → none_stops
        → AllFrom (at + 1) heads → at < next → next ≤ last → AllFrom next heads → length symbols ≤ 64 → IsSliced (pos next) taken heads after → MovesOn stands after_stands taken
        → more ≡ length (shown symbols (slice_of (pos next) taken heads))
        → IsPrinted told told1 page page1 (session_text (shown symbols (slice_of (pos next) taken heads)))
        → rows1 ≡ min (rows + more) (2 ^ 64 - 1)
        → Known after_stands before feeds heads0 after next rows1 told0 told1 page0 page1
    known_next after_stands next more rows1 taken after told1 page1 none late low high from few sliced moves count printed sum =
        let given = shown symbols (slice_of (pos next) taken heads) in
        record {
          now = taken_all known.now taken;
          stands_now = moves before known.now known.stands_now;
          taken = all-taken (pos next) known.now taken heads after known.taken sliced;
          earlier = λ lists follow. known.earlier lists (all-front lists known.now taken follow);
          comes = λ lists f hours are follow start.
              (let was = all-front lists known.now taken follow in
              let c = known.comes lists f hours are was start in
              let step = next_slice lists f hours are c next taken after none low from sliced follow in
              record {
                stand = step.0;
                bars = c.bars ++ given;
                so_far = (let so = next_so_far lists f hours are c next more given none was late low high from few step.1 count in
                    let size : rows + more ≤ 2 ^ 64 - 1 = (let a = so.counted in let b = so.few in let d = last_small window is_window in omega (arith, a, b, d, high)) in
                    subst (λ n. SoFar (session_sources f hours resolution window symbols) window next n (c.bars ++ given)) (sym (sum ∙ min-eq_left size)) so);
                printed = subst (IsPrinted told0 told1 page0 page1) (sym (flat_map-append session_line c.bars given))
                    (IsPrinted-append told0 told told1 page0 page page1 (session_text c.bars) (session_text given) c.printed printed);
              });
        }

    -- what was printed is a front of all that is
    front_of : (lists : FeedKey → List Item) (f : Files) (hours : Entries) (c : Comes lists f hours known.now heads at rows told0 told page0 page)
        → IsFront told0 told (page0 ++ session_text (session (session_sources f hours resolution window symbols) window).lines)
    front_of lists f hours c =
        let all = session_sources f hours resolution window symbols in
        let front = so_far_front all window at rows c.bars c.so_far in
        let text : session_text (session all window).lines ≡ session_text c.bars ++ session_text front.rest
        = ap session_text front.is ∙ flat_map-append session_line c.bars front.rest in
        subst (λ t. IsFront told0 told (page0 ++ t)) (sym text) (IsFront-printed told0 told page0 page (session_text c.bars) (session_text front.rest) c.printed)

    -- no head ends in the window
    pub ends_whole : none_stops → AllFrom (at + 1) heads → AllFrom (last + 1) heads → Ends stands before feeds heads0 told0 told page0 page (Ok (Whole rows))
    ends_whole none late from = (
      known.now,
      known.stands_now,
      tt,
      known.earlier,
      λ lists f hours are follow start.
          (let all = session_sources f hours resolution window symbols in
          let c = known.comes lists f hours are follow start in
          record {
            bars = c.bars;
            printed = c.printed;
            ends = (
              so_far_end all window at rows c.bars c.so_far (calm_now lists f hours are c none follow late) (quiet lists f hours are c (last + 1) none follow from),
              c.so_far.counted,
            );
          }),
    )

    ends_faulted : (a : Arrival) → find (λ (h : Arrival). stops h.item) heads ≡ Some a → a.item ≡ FailedRead → HasFaulted known.now
    ends_faulted a found is =
        let (taken, at_feed, has) = (head-found (IsTaken known.now) (λ (h : Arrival). stops h.item) heads a known.taken found).0 in
        (a.feed.0, taken, at_feed, subst (Contains taken.items) is has)

    -- a head stops the walk
    pub ends_stopped : (a : Arrival) (ending : Ending) → find (λ (h : Arrival). stops h.item) heads ≡ Some a → IsEnding symbols a ending → AllFrom (at + 1) heads
        → Ends stands before feeds heads0 told0 told page0 page (Ok ending)
    ends_stopped a (Whole count) found is late = absurd is
    ends_stopped a (Refused symbol bad) found (line, named) late = (
      known.now,
      known.stands_now,
      tt,
      known.earlier,
      λ lists f hours are follow start.
          (let all = session_sources f hours resolution window symbols in
          let c = known.comes lists f hours are follow start in
          let (name, at_name, due) = first_due f hours resolution window is_window lists are symbols [] symbols at 0 known.now heads a bad refl refl follow c.stand late found line in
          let same : name ≡ symbol = some_same name symbol (sym at_name ∙ named) in
          let due_here = refused_same f hours resolution window is_window lists are at symbols ∙ due in
          record {
            bars = c.bars;
            printed = c.printed;
            ends = (
              so_far_stop all window at rows c.bars (symbol, bad) c.so_far
                  (subst (λ (s : List ℕ). refused all at ≡ Some (let r : Refusal = (s, bad) in r)) same due_here),
              subst (λ o. InFile f hours resolution window is_window lists are o) due_here (due_in_file f hours resolution window is_window lists are at symbols),
            );
          }),
    )
      where
        some_same : (x y : List ℕ) → (let o : Option (List ℕ) = Some x in o) ≡ Some y → x ≡ y
        some_same x y e = ap (λ (o : Option (List ℕ)). unwrap_or o x) e
    ends_stopped a Faulted found is late = (
      known.now,
      known.stands_now,
      ends_faulted a found is,
      known.earlier,
      λ lists f hours are follow start.
          (let all = session_sources f hours resolution window symbols in
          let c = known.comes lists f hours are follow start in
          record { bars = c.bars; printed = c.printed; ends = so_far_whole all window at rows c.bars c.so_far }),
    )

    -- there was no memory for the slice
    pub ends_unsliced : (after_stands : Start → Feeds → Type 0) (taken : ℕ → List Item) (stop : Stop) → MovesOn stands after_stands taken
        → Ends after_stands before feeds heads0 told0 told page0 page (Err stop)
    ends_unsliced after_stands taken stop moves = (
      taken_all known.now taken,
      moves before known.now known.stands_now,
      tt,
      (λ lists follow. known.earlier lists (all-front lists known.now taken follow)),
      λ lists f hours are follow start.
          (let was = all-front lists known.now taken follow in
          front_of lists f hours (known.comes lists f hours are was start)),
    )

    -- a line was not printed
    pub ends_unprinted : (after_stands : Start → Feeds → Type 0) (next : ℕ) (taken : ℕ → List Item) (after : List Arrival) (told1 : Option (List ℕ)) (page1 : List ℕ) (stop : Stop) → none_stops
        → AllFrom (at + 1) heads → at < next → next ≤ last → AllFrom next heads → length symbols ≤ 64 → IsSliced (pos next) taken heads after → MovesOn stands after_stands taken
        → IsFront told told1 (page ++ session_text (shown symbols (slice_of (pos next) taken heads)))
        → Ends after_stands before feeds heads0 told0 told1 page0 page1 (Err stop)
    ends_unprinted after_stands next taken after told1 page1 stop none late low high from few sliced moves front =
        let given = shown symbols (slice_of (pos next) taken heads) in (
          taken_all known.now taken,
          moves before known.now known.stands_now,
          tt,
          (λ lists follow. known.earlier lists (all-front lists known.now taken follow)),
          λ lists f hours are follow start.
              (let all = session_sources f hours resolution window symbols in
              let was = all-front lists known.now taken follow in
              let c = known.comes lists f hours are was start in
              let step = next_slice lists f hours are c next taken after none low from sliced follow in
              let so = next_so_far lists f hours are c next (length given) given none was late low high from few step.1 refl in
              let behind = so_far_front all window next (rows + length given) (c.bars ++ given) so in
              let text : session_text (session all window).lines ≡ session_text c.bars ++ (session_text given ++ session_text behind.rest)
              = ap session_text behind.is ∙ flat_map-append session_line (c.bars ++ given) behind.rest ∙ ap (λ t. t ++ session_text behind.rest) (flat_map-append session_line c.bars given)
              ∙ append_assoc (session_text c.bars) (session_text given) (session_text behind.rest) in
              let more : IsFront told told1 (page ++ (session_text given ++ session_text behind.rest))
              = subst (IsFront told told1) (append_assoc page (session_text given) (session_text behind.rest)) (IsFront-more told told1 (page ++ session_text given) (session_text behind.rest) front) in
              subst (λ t. IsFront told0 told1 (page0 ++ t)) (sym text)
              (IsFront-behind told0 told told1 page0 page (session_text c.bars) (session_text given ++ session_text behind.rest) c.printed more)),
        )
