-- From one moment to the next at which anything can happen, whatever was taken and heard.
use Rattle.std.proofs.Common.{◌≡◌, ℕ, zero, suc, ◌+◌, ◌-◌, ◌<◌, ◌≤◌, Bool, true, false, ℤ, pos, List, [], ◌∷◌, ◌++◌, Option, Some, None, refl, sym, ap, ◌∙◌, subst, inl, inr, arith, append_assoc, append-nil}
use Rattle.std.specs.Prelude.{find, nat_lt, slice_get, unwrap_or, Ok, Err}
use Rattle.std.specs.List.{All}
use Rattle.std.proofs.lemmas.Bool.{cases_Bool}
use Rattle.std.proofs.lemmas.Int.{ints}
use Rattle.std.proofs.lemmas.List.Elements.{All-nil, All-cons, All-weaker, All-contains}
use Rattle.lean_items.specs.declared.arrival.Arrival.{Arrival}
use Rattle.lean_items.specs.declared.bad.Bad.{Bad as BadLine}
use Rattle.lean_items.specs.declared.feed_key.FeedKey.{FeedKey}
use Rattle.lean_items.specs.declared.item.Item.{Item}
use Rattle.lean_items.specs.declared.item.Item.TheVariants as item
use Rattle.lean_items.specs.Given.{end_of}
use Rattle.lean_items.specs.Taken.{Feeds, Taken, AllFollow}
use Rattle.lean_orders.specs.declared.desk.Command.{Command}
use Rattle.lean_orders.specs.declared.desk.Reply.{Reply}
use Rattle.clock_book.specs.Books.{Book}
use Rattle.clock_book.specs.Handled.{after}
use Rattle.clock_steps.specs.Runs.{Ran, rests, behind, IsStill}
use Rattle.clock_steps.proofs.RunLemmas.{run-next, run-stopped, run-front}
use Rattle.frontier_sync.specs.Heads.{stops, EndsFrom}
use Rattle.frontier_sync.proofs.StandLemmas.{none-found}
use Rattle.report_pages.specs.Printed.{IsTaken, IsFront}
use Rattle.report_pages.proofs.PrintedLemmas.{IsTaken-append, IsFront-more}
use Rattle.backtest_engine.specs.declared.ending.Cut.{Cut}
use Rattle.backtest_engine.specs.declared.ending.Cut.TheVariants as cut
use Rattle.backtest_engine.specs.declared.ending.Ending.TheVariants.{Whole, Refused, Faulted}
use Rattle.backtest_engine.specs.Lists.{slice_at, refused}
use Rattle.backtest_engine.specs.Meaning.{Meaning, State, Subscription, moment_of}
use Rattle.backtest_engine.specs.Reports.{Halt, halt, limited, malformed, halted, minute, minutes, whole}
use Rattle.backtest_engine.specs.Phased.{DeskStands}
use Rattle.backtest_engine.specs.Stands.{AreLists, AreAt, AreCalm, HasFile, HasMore}
use Rattle.backtest_engine.specs.Gave.{AreQuiet, AreSound, IsStop}
use Rattle.backtest_engine.specs.Moved.{moment_at, Knows, Goes, Moved}
use Rattle.backtest_engine.specs.Exact.{ended_as, limit_at, Passes, Passed, Took, Stops, EndsBy}
use Rattle.backtest_engine.specs.Walked.{AllFrom, NoClose, IsEnd, AllMeet}
use Rattle.backtest_engine.proofs.GaveLemmas.{later-quiet, later-sound, quiet-sound, heads-quiet, heads-stop}
use Rattle.backtest_engine.proofs.HeadLemmas.{all-later, all-quiet, calm-heads, none-refused, first-refused}

-- ---- what was written

pub front-behind : (first mid last : Option (List ℕ)) (a b : List ℕ) → IsTaken first mid a → IsFront mid last b → IsFront first last (a ++ b)
front-behind first mid last a b taken f = record {
  written = a ++ f.written;
  left = f.left;
  taken = IsTaken-append first mid last a f.written taken f.taken;
  whole = ap (λ x. a ++ x) f.whole ∙ sym (append_assoc a f.written f.left);
}

earlier-from : (s t : ℕ) (heads : List Arrival) → s ≤ t → AllFrom t heads → AllFrom s heads
earlier-from s t heads le all = All-weaker (λ a. EndsFrom (pos t) (end_of a.item)) (λ a. EndsFrom (pos s) (end_of a.item)) (λ a h. by (end_of a.item) h) heads all
  where
    by : (o : Option ℤ) → EndsFrom (pos t) o → EndsFrom (pos s) o
    by None h = tt
    by (Some e) h = omega (arith, ints, le, h)

no-refusal : (o : Option (FeedKey × BadLine)) → o ≡ None → halt None o ≡ None
no-refusal o e = ap (halt None) e

-- the heads of active feeds end no earlier than the moment at which they stand
at-from : (coarse : Bool) (t : ℕ) (feeds : Feeds) (heads : List Arrival) (active : List Subscription) → AreAt coarse (pos t) feeds heads active → AllFrom t heads
at-from coarse t feeds [] [] at = All-nil (λ a. EndsFrom (pos t) (end_of a.item))
at-from coarse t feeds [] (f ∷ active) at = absurd at
at-from coarse t feeds (a ∷ heads) [] at = absurd at
at-from coarse t feeds (a ∷ heads) (f ∷ active) (i, at) =
    All-cons (λ a. EndsFrom (pos t) (end_of a.item)) a heads i.head.from (at-from coarse t feeds heads active at)

below-is : (t u : ℕ) → nat_lt t u ≡ true → t < u
below-is t u h = grind arith

same-is : (t u : ℕ) → nat_lt t u ≡ false → t < u + 1 → t ≡ u
same-is t u h lt = grind arith

-- ---- one run

module _ {Own : Type 0} (m : Meaning Own) (lists : FeedKey → List Item) (coarse : Bool) (first last : ℕ) (s0 : State Own) where
  abbrev step : ℕ → State Own → Ran (State Own) ℕ Halt
  step = minute m lists

  abbrev so : ℕ → Ran (State Own) ℕ Halt
  so count = minutes m lists first s0 count

  abbrev ran_so : List ℕ → State Own → Option Halt → Ran (State Own) ℕ Halt
  ran_so lines s z = record { lines = lines; state = s; stop = z }

  minute-is : (t : ℕ) (s : State Own) → step t s ≡ halted m lists t (moment_at m lists coarse t s)
  unfolding minute
  minute-is t s = refl

  -- before a moment
  pub record Comes (stands : State Own → List FeedKey → Type 0) (desk : DeskStands) (added : ℕ) (now : Feeds) (heads : List Arrival) (at : ℕ) (b : Book) (cs : List Command) (rs : List Reply) (told0 told : Option (List ℕ)) : Type 0 where
    pub state : State Own
    pub bytes : List ℕ
    pub ran : so (at - first) ≡ ran_so bytes state None
    pub knows : Knows m lists coarse stands desk added now heads at state b cs rs
    pub calm : AreCalm lists (pos at) heads (m.active state.own)
    pub wrote : IsTaken told0 told bytes
    pub passed : Passed m lists first last s0 coarse now at

  -- behind one, before the look at the heads
  pub record Came (stands : State Own → List FeedKey → Type 0) (desk : DeskStands) (added : ℕ) (now : Feeds) (heads : List Arrival) (at : ℕ) (b : Book) (cs : List Command) (rs : List Reply) (told0 told : Option (List ℕ)) : Type 0 where
    pub state : State Own
    pub bytes : List ℕ
    pub ran : so (at + 1 - first) ≡ ran_so bytes state (halt None (refused lists (pos at) (m.active state.own)))
    pub knows : Knows m lists coarse stands desk added now heads (at + 1) state b cs rs
    pub wrote : IsTaken told0 told bytes
    pub took : Took m lists first last s0 coarse now at
    pub plays : limit_at m lists first last s0 coarse now at ≡ None

  -- the moment behind those that were played
  ran-next : (at : ℕ) (bytes : List ℕ) (s : State Own) → first ≤ at → so (at - first) ≡ ran_so bytes s None → so (at + 1 - first) ≡ behind bytes (halted m lists at (moment_at m lists coarse at s))
  ran-next at bytes s low ran =
      let n = at - first in
      let to : first + n + 0 ≡ at = omega (arith, low) in
      let count : n + 0 + 1 ≡ at + 1 - first = omega (arith, low) in
      let still : IsStill step s (first + n) (first + n + 0) = λ t lo hi. absurd (omega (arith, lo, hi)) in
      ap so (sym count) ∙ run-next step n 0 first s0 s bytes ran still ∙ ap (λ t. behind bytes (step t s)) to ∙ ap (behind bytes) (minute-is at s)

  -- what ends at the next moment is taken
  pub meets-at : (meets : ℕ → List Arrival → State Own → Type 0) → AllMeet meets m lists first last s0
      → (at : ℕ) (bytes : List ℕ) (s : State Own) → first ≤ at → at ≤ last → so (at - first) ≡ ran_so bytes s None
      → meets at (slice_at lists (pos at) (m.active s.own)) s
  meets-at meets all at bytes s low high ran =
      let n = at - first in
      let to : first + n ≡ at = omega (arith, low) in
      let met = all n (omega (arith, low, high)) (ap (λ (r : Ran (State Own) ℕ Halt). r.stop) ran) in
      subst (λ t. meets t (slice_at lists (pos t) (m.active s.own)) s) to
      (subst (λ (r : Ran (State Own) ℕ Halt). meets (first + n) (slice_at lists (pos (first + n)) (m.active r.state.own)) r.state) ran met)

  later-passed : (feeds now : Feeds) (until : ℕ) → HasMore feeds now → Passed m lists first last s0 coarse feeds until → Passed m lists first last s0 coarse now until
  later-passed feeds now until has passed t lo hi =
      let p = passed t lo hi in
      (later-sound feeds now (pos (t + 1)) _ has p.0, later-quiet feeds now (pos (t + 1)) _ has p.1, p.2)

  -- one minute more passed
  passed-step : (now : Feeds) (u : ℕ) → Passed m lists first last s0 coarse now u → Passes m lists first last s0 coarse now u → Passed m lists first last s0 coarse now (u + 1)
  passed-step now u passed p t lo hi = elim (cases_Bool (nat_lt t u)) [
    | inl lt ↦ passed t lo (below-is t u lt)
    | inr other ↦ subst (λ k. Passes m lists first last s0 coarse now k) (sym (same-is t u other hi)) p
  ]

  pub came : (stands new_stands : State Own → List FeedKey → Type 0) (desk new_desk : DeskStands) (added new_added : ℕ) (now later : Feeds) (heads new : List Arrival) (at : ℕ) (b : Book) (cs ds : List Command) (rs more : List Reply) (told0 told told1 : Option (List ℕ))
      → first ≤ at → at ≤ last → HasMore now later → (c : Comes stands desk added now heads at b cs rs told0 told) → new_desk b (cs ++ ds) (rs ++ more)
      → Goes m lists coarse new_stands new_added later new at c.state (after b (cs ++ ds)) told told1
      → Came new_stands new_desk new_added later new at b (cs ++ ds) (rs ++ more) told0 told1
  came stands new_stands desk new_desk added new_added now later heads new at b cs ds rs more told0 told told1 low high has c desk_is g =
      let r = moment_at m lists coarse at c.state in
      record {
        state = r.state;
        bytes = c.bytes ++ r.lines;
        ran = ran-next at c.bytes c.state low c.ran ∙ ap (λ z. ran_so (c.bytes ++ r.lines) r.state (halt z (refused lists (pos at) (m.active r.state.own)))) g.stop;
        knows = record { core_is = g.core_is; desk_is = desk_is; book = g.book_is; added_is = g.added_is; at = g.at };
        wrote = IsTaken-append told0 told told1 c.bytes r.lines c.wrote g.wrote;
        took = record {
          low = low;
          high = high;
          passed = later-passed now later at has c.passed;
          sound = subst (λ (r : Ran (State Own) ℕ Halt). AreSound later (pos (at + 1)) (m.active r.state.own)) (sym c.ran) g.sound;
        };
        plays = subst (λ (r : Ran (State Own) ℕ Halt). (moment_at m lists coarse at r.state).stop ≡ None) (sym c.ran) g.stop;
      }

  -- the lines of the first minutes are a front of all
  front-of : (count : ℕ) (told0 told : Option (List ℕ)) → count ≤ last + 1 - first → IsFront told0 told (so count).lines → IsFront told0 told (whole m lists first last s0).lines
  front-of count told0 told small front =
      let rest = last + 1 - first - count in
      let all : count + rest ≡ last + 1 - first = omega (arith, small) in
      let f = run-front step count rest first s0 in
      subst (λ n. IsFront told0 told (so n).lines) all (subst (λ xs. IsFront told0 told xs) (sym f.is) (IsFront-more told0 told (so count).lines f.rest front))

  pub cut-short : (stands new_stands : State Own → List FeedKey → Type 0) (desk : DeskStands) (added new_added : ℕ) (now later : Feeds) (heads new : List Arrival) (at : ℕ) (b : Book) (cs : List Command) (rs : List Reply) (book : Book) (told0 told told1 : Option (List ℕ)) (c : Cut)
      → first ≤ at → at ≤ last → (k : Comes stands desk added now heads at b cs rs told0 told)
      → Moved m lists coarse new_stands new_added later new at k.state book told told1 (Err c)
      → IsEnd m lists first last s0 coarse later new_stands book told0 told1 (Err c)
  cut-short stands new_stands desk added new_added now later heads new at b cs rs book told0 told told1 c low high k moved = by c moved
    where
      small : at + 1 - first ≤ last + 1 - first
      small = omega (arith, low, high)

      lines_are : (so (at + 1 - first)).lines ≡ k.bytes ++ (moment_at m lists coarse at k.state).lines
      lines_are = ap (λ (r : Ran (State Own) ℕ Halt). r.lines) (ran-next at k.bytes k.state low k.ran)

      by-front : IsFront told told1 (moment_at m lists coarse at k.state).lines → IsFront told0 told1 (whole m lists first last s0).lines
      by-front f = front-of (at + 1 - first) told0 told1 small
          (subst (λ xs. IsFront told0 told1 xs) (sym lines_are) (front-behind told0 told told1 k.bytes (moment_at m lists coarse at k.state).lines k.wrote f))

      by : (c : Cut) → Moved m lists coarse new_stands new_added later new at k.state book told told1 (Err c) → IsEnd m lists first last s0 coarse later new_stands book told0 told1 (Err c)
      by cut.NoMemory f = by-front f
      by cut.WriteFault f = by-front f
      by cut.ReadFault (same, failed) = (
        record {
          count = at - first;
          small = omega (arith, low, high);
          wrote = subst (λ z. IsTaken told0 z (so (at - first)).lines) (sym same) (subst (λ xs. IsTaken told0 told xs) (sym (ap (λ (r : Ran (State Own) ℕ Halt). r.lines) k.ran)) k.wrote);
        },
        failed,
      )
      by (cut.Limited limit) (stop, wrote, sound) =
          let r = moment_at m lists coarse at k.state in
          let ran : so (at + 1 - first) ≡ ran_so (k.bytes ++ r.lines) r.state (Some (limited limit))
          = ran-next at k.bytes k.state low k.ran ∙ ap (λ z. ran_so (k.bytes ++ r.lines) r.state (halt z (refused lists (pos at) (m.active r.state.own)))) stop in
          let more = last - at in
          let all : at + 1 - first + more ≡ last + 1 - first = omega (arith, low, high) in
          let whole_is = sym (ap so all) ∙ run-stopped step (at + 1 - first) more first s0 r.state (k.bytes ++ r.lines) (limited limit) ran in (
            ap (λ (r : Ran (State Own) ℕ Halt). r.stop) whole_is,
            subst (λ xs. IsTaken told0 told1 xs) (sym (ap (λ (r : Ran (State Own) ℕ Halt). r.lines) whole_is)) (IsTaken-append told0 told told1 k.bytes r.lines k.wrote wrote),
          )

  -- how a minute that was cut short ends the run
  pub exact-cut : (stands new_stands : State Own → List FeedKey → Type 0) (desk : DeskStands) (added new_added : ℕ) (now later : Feeds) (heads new : List Arrival) (at : ℕ) (b : Book) (cs : List Command) (rs : List Reply) (book : Book) (told0 told told1 : Option (List ℕ)) (c : Cut)
      → first ≤ at → at ≤ last → HasMore now later → (k : Comes stands desk added now heads at b cs rs told0 told)
      → Moved m lists coarse new_stands new_added later new at k.state book told told1 (Err c)
      → EndsBy m lists first last s0 coarse later (ended_as (Err c))
  exact-cut stands new_stands desk added new_added now later heads new at b cs rs book told0 told told1 c low high has k moved = by c moved
    where
      by : (c : Cut) → Moved m lists coarse new_stands new_added later new at k.state book told told1 (Err c) → EndsBy m lists first last s0 coarse later (ended_as (Err c))
      by cut.NoMemory f = tt
      by cut.WriteFault f = tt
      by cut.ReadFault (same, failed) = inr (record { at = at; low = low; high = high; passed = later-passed now later at has k.passed; failed = failed })
      by (cut.Limited limit) (stop, wrote, sound) = (
        limit,
        record {
          at = at;
          took = record {
            low = low;
            high = high;
            passed = later-passed now later at has k.passed;
            sound = subst (λ (r : Ran (State Own) ℕ Halt). AreSound later (pos (at + 1)) (m.active r.state.own)) (sym k.ran) sound;
          };
          halts = subst (λ (r : Ran (State Own) ℕ Halt). (moment_at m lists coarse at r.state).stop ≡ Some limit) (sym k.ran) stop;
        },
      )

  -- ---- behind a moment at which no head stops

  module _ (are : AreLists lists) (stands : State Own → List FeedKey → Type 0) (meets : ℕ → List Arrival → State Own → Type 0) (all : AllMeet meets m lists first last s0) (desk : DeskStands) (added : ℕ) (now : Feeds) (heads : List Arrival) (at : ℕ) (b : Book) (cs : List Command) (rs : List Reply) (told0 told : Option (List ℕ))
      (low : first ≤ at) (high : at ≤ last) (follow : AllFollow lists now)
      (idle : (s : State Own) (t : ℕ) → stands s [] → meets t [] s → m.is_close t ≡ false → moment_of m t [] s ≡ rests s)
      (c : Came stands desk added now heads at b cs rs told0 told) where
    calm-ran : All (λ a. stops a.item ≡ false) heads → so (at + 1 - first) ≡ ran_so c.bytes c.state None
    calm-ran calm = c.ran ∙ ap (ran_so c.bytes c.state) (no-refusal _ (none-refused lists are coarse (pos at) now heads (m.active c.state.own) follow c.knows.at calm))

    -- at a moment up to which nothing has happened nothing happens
    quiet-at : (until : ℕ) → until ≤ last + 1 → All (λ a. stops a.item ≡ false) heads → AllFrom until heads → NoClose m.is_close at until
        → (u : ℕ) → at + 1 ≤ u → u < until → so (u - first) ≡ ran_so c.bytes c.state None
        → halted m lists u (moment_at m lists coarse u c.state) ≡ rests c.state
    quiet-at until within calm from none u lo hi so_far =
        let active = m.active c.state.own in
        let nothing : slice_at lists (pos u) active ≡ []
        = all-quiet lists are coarse (pos (at + 1)) (pos u) (pos until) now heads active follow c.knows.at calm from (omega (arith, ints, lo)) (omega (arith, ints, hi)) in
        let later = all-later lists are coarse (pos (at + 1)) (pos (u + 1)) now heads active (omega (arith, ints, lo)) c.knows.at (earlier-from (u + 1) until heads (omega (arith, hi)) from) in
        let none_due : refused lists (pos u) active ≡ None = none-refused lists are coarse (pos u) now heads active follow later calm in
        let met : meets u [] c.state
        = subst (λ xs. meets u xs c.state) nothing (meets-at meets all u c.bytes c.state (omega (arith, low, lo)) (omega (arith, within, hi)) so_far) in
        let quiet : moment_at m lists coarse u c.state ≡ rests c.state
        = ap (λ xs. moment_of m u xs c.state) nothing ∙ idle c.state u c.knows.core_is met (none u (omega (arith, lo)) hi) in
        ap (halted m lists u) quiet ∙ ap (λ z. ran_so [] c.state z) (no-refusal _ none_due)

    -- the minutes behind it, one after the other
    ran-until : (until : ℕ) → until ≤ last + 1 → All (λ a. stops a.item ≡ false) heads → AllFrom until heads → NoClose m.is_close at until
        → (gap : ℕ) → at + 1 + gap ≤ until → so (at + 1 + gap - first) ≡ ran_so c.bytes c.state None
    ran-until until within calm from none zero h =
        let start : at + 1 + zero - first ≡ at + 1 - first = omega arith in
        ap so start ∙ calm-ran calm
    ran-until until within calm from none (suc gap) h =
        let u = at + 1 + gap in
        let so_far = ran-until until within calm from none gap (omega (arith, h)) in
        let next : at + 1 + suc gap - first ≡ u + 1 - first = omega arith in
        ap so next ∙ ran-next u c.bytes c.state (omega (arith, low)) so_far
        ∙ ap (behind c.bytes) (quiet-at until within calm from none u (omega arith) (omega (arith, h)) so_far)
        ∙ ap (λ xs. ran_so xs c.state None) (append-nil c.bytes)

    -- what was given at the minutes behind it
    passes-at : (until : ℕ) → until ≤ last + 1 → All (λ a. stops a.item ≡ false) heads → AllFrom until heads → NoClose m.is_close at until
        → (gap : ℕ) → at + 1 + gap + 1 ≤ until → Passes m lists first last s0 coarse now (at + 1 + gap)
    passes-at until within calm from none gap h =
        let u = at + 1 + gap in
        let active = m.active c.state.own in
        let here = ran-until until within calm from none gap (omega (arith, h)) in
        let next : u + 1 - first ≡ at + 1 + suc gap - first = omega arith in
        let there = ap so next ∙ ran-until until within calm from none (suc gap) (omega (arith, h)) in
        let later = all-later lists are coarse (pos (at + 1)) (pos (u + 1)) now heads active (omega (arith, ints)) c.knows.at (earlier-from (u + 1) until heads (omega (arith, h)) from) in
        let quiet = heads-quiet coarse (pos (u + 1)) now heads active later calm in (
          subst (λ (r : Ran (State Own) ℕ Halt). AreSound now (pos (u + 1)) (m.active r.state.own)) (sym here) (quiet-sound now (pos (u + 1)) active quiet),
          subst (λ (r : Ran (State Own) ℕ Halt). AreQuiet now (pos (u + 1)) (m.active r.state.own)) (sym there) quiet,
          ap (λ (r : Ran (State Own) ℕ Halt). r.stop) there,
        )

    passed-until : (until : ℕ) → until ≤ last + 1 → All (λ a. stops a.item ≡ false) heads → AllFrom until heads → NoClose m.is_close at until
        → (gap : ℕ) → at + 1 + gap ≤ until → Passed m lists first last s0 coarse now (at + 1 + gap)
    passed-until until within calm from none zero h =
        let quiet = heads-quiet coarse (pos (at + 1)) now heads (m.active c.state.own) c.knows.at calm in
        let p : Passes m lists first last s0 coarse now at
        = (c.took.sound, subst (λ (r : Ran (State Own) ℕ Halt). AreQuiet now (pos (at + 1)) (m.active r.state.own)) (sym c.ran) quiet, ap (λ (r : Ran (State Own) ℕ Halt). r.stop) (calm-ran calm)) in
        let same : at + 1 ≡ at + 1 + zero = omega arith in
        subst (λ n. Passed m lists first last s0 coarse now n) same (passed-step now at c.took.passed p)
    passed-until until within calm from none (suc gap) h =
        let more : at + 1 + gap + 1 ≤ until = omega (arith, h) in
        let same : at + 1 + gap + 1 ≡ at + 1 + suc gap = omega arith in
        subst (λ n. Passed m lists first last s0 coarse now n) same
        (passed-step now (at + 1 + gap) (passed-until until within calm from none gap (omega (arith, h))) (passes-at until within calm from none gap more))

    pub comes-next : (next : ℕ) → at < next → next ≤ last → find (λ (a : Arrival). stops a.item) heads ≡ None → (AllFrom (at + 1) heads → AllFrom next heads) → (stands c.state [] → NoClose m.is_close at next)
        → Comes stands desk added now heads next b cs rs told0 told
    comes-next next past within none from closes =
        let calm = none-found (λ (a : Arrival). stops a.item) heads none in
        let ends = from (at-from coarse (at + 1) now heads (m.active c.state.own) c.knows.at) in
        let gap = next - at - 1 in
        let count : next - first ≡ at + 1 + gap - first = omega (arith, past) in
        record {
          state = c.state;
          bytes = c.bytes;
          ran = ap so count ∙ ran-until next (omega (arith, within)) calm ends (closes c.knows.core_is) gap (omega (arith, past));
          knows = record {
            core_is = c.knows.core_is;
            desk_is = c.knows.desk_is;
            book = c.knows.book;
            added_is = c.knows.added_is;
            at = all-later lists are coarse (pos (at + 1)) (pos next) now heads (m.active c.state.own) (omega (arith, ints, past)) c.knows.at ends;
          };
          calm = calm-heads lists are coarse (pos (at + 1)) (pos next) now heads (m.active c.state.own) c.knows.at calm;
          wrote = c.wrote;
          passed = (let all : at + 1 + gap ≡ next = omega (arith, past) in
              subst (λ n. Passed m lists first last s0 coarse now n) all (passed-until next (omega (arith, within)) calm ends (closes c.knows.core_is) gap (omega (arith, past))));
        }

    pub exact-whole : find (λ (a : Arrival). stops a.item) heads ≡ None → (AllFrom (at + 1) heads → AllFrom (last + 1) heads) → (stands c.state [] → NoClose m.is_close at (last + 1))
        → Passed m lists first last s0 coarse now (last + 1)
    exact-whole none from closes =
        let calm = none-found (λ (a : Arrival). stops a.item) heads none in
        let ends = from (at-from coarse (at + 1) now heads (m.active c.state.own) c.knows.at) in
        let gap = last - at in
        let all : at + 1 + gap ≡ last + 1 = omega (arith, high) in
        subst (λ n. Passed m lists first last s0 coarse now n) all (passed-until (last + 1) (omega arith) calm ends (closes c.knows.core_is) gap (omega (arith, high)))

    pub exact-stopped : (a : Arrival) (x : Item) → find (λ (a : Arrival). stops a.item) heads ≡ Some a → a.item ≡ x → Stops m lists first last s0 coarse now x
    exact-stopped a x found is = record {
      at = at;
      took = c.took;
      plays = c.plays;
      stop = subst (λ (r : Ran (State Own) ℕ Halt). IsStop now (pos (at + 1)) (m.active r.state.own) x) (sym c.ran)
          (subst (λ y. IsStop now (pos (at + 1)) (m.active c.state.own) y) is (heads-stop coarse (pos (at + 1)) now heads (m.active c.state.own) a c.knows.at found));
    }

    pub ends-whole : find (λ (a : Arrival). stops a.item) heads ≡ None → (AllFrom (at + 1) heads → AllFrom (last + 1) heads) → (stands c.state [] → NoClose m.is_close at (last + 1))
        → IsEnd m lists first last s0 coarse now stands (after b cs) told0 told (Ok Whole)
    ends-whole none from closes =
        let calm = none-found (λ (a : Arrival). stops a.item) heads none in
        let ends = from (at-from coarse (at + 1) now heads (m.active c.state.own) c.knows.at) in
        let gap = last - at in
        let count : last + 1 - first ≡ at + 1 + gap - first = omega (arith, high) in
        let ran : whole m lists first last s0 ≡ ran_so c.bytes c.state None
        = ap so count ∙ ran-until (last + 1) (omega arith) calm ends (closes c.knows.core_is) gap (omega (arith, high)) in (
          ap (λ (r : Ran (State Own) ℕ Halt). r.stop) ran,
          subst (λ (r : Ran (State Own) ℕ Halt). stands r.state []) (sym ran) c.knows.core_is,
          ap (λ (r : Ran (State Own) ℕ Halt). r.state.book) ran ∙ c.knows.book,
          subst (λ (r : Ran (State Own) ℕ Halt). IsTaken told0 told r.lines) (sym ran) c.wrote,
        )

    -- ---- behind a moment at which a head stops

    pub ends-refused : (a : Arrival) (key : FeedKey) (bad : BadLine) (keys : List FeedKey) → ((n : ℕ) (taken : Taken) → now n ≡ Some taken → slice_get keys n ≡ Some taken.key)
        → find (λ (a : Arrival). stops a.item) heads ≡ Some a → a.item ≡ item.Bad bad → slice_get keys a.feed.0 ≡ Some key
        → IsEnd m lists first last s0 coarse now stands (after b cs) told0 told (Ok (Refused key bad))
    ends-refused a key bad keys keys_are found is named =
        let (taken, there, due, has) = first-refused lists are coarse (pos at) now heads (m.active c.state.own) a bad follow c.knows.at found is in
        let same : taken.key ≡ key = some-key taken.key key (sym (keys_are a.feed.0 taken there) ∙ named) in
        let ran : so (at + 1 - first) ≡ ran_so c.bytes c.state (Some (malformed key bad))
        = c.ran ∙ ap (λ z. ran_so c.bytes c.state (halt None z)) due ∙ ap (λ k. ran_so c.bytes c.state (Some (malformed k bad))) same in
        let more = last - at in
        let all : at + 1 - first + more ≡ last + 1 - first = omega (arith, low, high) in
        let whole_is = sym (ap so all) ∙ run-stopped step (at + 1 - first) more first s0 c.state c.bytes (malformed key bad) ran in (
          ap (λ (r : Ran (State Own) ℕ Halt). r.stop) whole_is,
          subst (λ (r : Ran (State Own) ℕ Halt). IsTaken told0 told r.lines) (sym whole_is) c.wrote,
          All-contains HasFile (lists taken.key) (item.Bad bad) (are.files taken.key) has,
        )
      where
        some-key : (x y : FeedKey) → (let o : Option FeedKey = Some x in o) ≡ Some y → x ≡ y
        some-key x y e = ap (λ (o : Option FeedKey). unwrap_or o x) e

    pub ends-faulted : (a : Arrival) → find (λ (a : Arrival). stops a.item) heads ≡ Some a → a.item ≡ item.Faulted
        → IsEnd m lists first last s0 coarse now stands (after b cs) told0 told (Ok Faulted)
    ends-faulted a found is =
        let n = at + 1 - first in
        let there : first + n ≡ at + 1 = omega (arith, low) in
        record {
          cut = record {
            count = n;
            small = omega (arith, low, high);
            wrote = subst (λ (r : Ran (State Own) ℕ Halt). IsTaken told0 told r.lines) (sym c.ran) c.wrote;
          };
          heads = heads;
          at = subst (λ t. AreAt coarse (pos t) now heads (m.active (so n).state.own)) (sym there)
              (subst (λ (r : Ran (State Own) ℕ Halt). AreAt coarse (pos (at + 1)) now heads (m.active r.state.own)) (sym c.ran) c.knows.at);
          head = a;
          found = found;
          failed = is;
        }
