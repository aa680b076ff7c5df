use Rattle.std.proofs.Common.{◌≡◌, ◌+◌, ◌<◌, ◌≤◌, pos, true, ◌++◌, Some, None, length, sym, ap, ◌∙◌, subst, arith}
use Rattle.std.specs.Prelude.{find}
use Rattle.std.specs.List.{All}
use Rattle.lean_fixed.specs.Moments.{first_moment}
use Rattle.lean_items.specs.declared.arrival.Arrival.{Arrival}
use Rattle.frontier_sync.specs.Heads.{stops}
use Rattle.frontier_sync.specs.Slices.{ends_at, slice_of, IsSliced}
use Rattle.frontier_sync.proofs.StandLemmas.{head-found}
use Rattle.frontier_sync.proofs.TakenLemmas.{stays-none, stays-more}
use Rattle.report_pages.specs.declared.pages.Stop.TheVariants.{NoMemory}
use Rattle.report_pages.specs.Printed.{IsPrinted, IsFront}
use Rattle.session_tape.specs.Session.{session_text}
use Rattle.session_tape.specs.Shown.{shown}
use Rattle.session_tape.proofs.WalkLemmas.{AllFrom, numbered_next, later_next, slice_ends, Known, known_start, known_next, ends_whole, ends_stopped, ends_unsliced, ends_unprinted}
use Rattle.session_tape.proofs.walk.walk.Goals as goal

pub minutes-init : goal.minutes-init
minutes-init g c =
    let first = first_moment c.args.window in
    let at : c.first_minute-at.result ≡ first = c.first_minute-at.ensures in
    record {
      opened = c.requires.opened;
      numbered = c.requires.numbered;
      later = subst (λ n. AllFrom (n + 1) c.args.heads.now) (sym at) c.requires.later;
      low = omega (arith, at);
      high = omega (arith, at, c.requires.order);
      known = λ before feeds stand taken.
          subst (λ n. Known c.args.resolution c.args.window c.args.symbols.now (g.P.Pool.stands c.args.pool.now) before feeds c.args.heads.now c.args.heads.now n 0
          (g.S.Sink.told c.args.out.now) (g.S.Sink.told c.args.out.now) c.args.page.now c.args.page.now) (sym at)
          (known_start c.args.resolution c.args.window c.args.symbols.now c.requires.window (g.P.Pool.stands c.args.pool.now) before feeds c.args.heads.now
          (g.S.Sink.told c.args.out.now) c.args.page.now c.requires.order stand taken);
      room = c.requires.room;
      sink_grows = omega arith;
      stays = stays-none g.P.Pool.files g.P.Pool.lists g.P.Pool.faults g.P.Pool.place c.args.pool.now;
    }

pub ending_at-requires-clause-stops : goal.ending_at-requires-clause-stops
ending_at-requires-clause-stops g c =
    let found : find (λ (a : Arrival). stops a.item) c.minutes.heads ≡ Some c.in-Some.stop = sym c.stop.ensures.first ∙ c.in-Some.is in
    (head-found (λ a. a.feed.0 < length c.args.symbols.now) (λ (a : Arrival). stops a.item) c.minutes.heads c.in-Some.stop c.minutes.invariant.numbered found).1

pub ending_at-requires-clause-numbered : goal.ending_at-requires-clause-numbered
ending_at-requires-clause-numbered g c =
    let found : find (λ (a : Arrival). stops a.item) c.minutes.heads ≡ Some c.in-Some.stop = sym c.stop.ensures.first ∙ c.in-Some.is in
    (head-found (λ a. a.feed.0 < length c.args.symbols.now) (λ (a : Arrival). stops a.item) c.minutes.heads c.in-Some.stop c.minutes.invariant.numbered found).0

pub returns-in-Some-clause-stands : goal.returns-in-Some-clause-stands
returns-in-Some-clause-stands g c before feeds stand taken =
    let found : find (λ (a : Arrival). stops a.item) c.minutes.heads ≡ Some c.in-Some.stop = sym c.stop.ensures.first ∙ c.in-Some.is in
    ends_stopped c.args.resolution c.args.window c.args.symbols.now c.requires.window (g.P.Pool.stands c.minutes.pool) before feeds c.args.heads.now c.minutes.heads c.minutes.at c.minutes.rows
    (g.S.Sink.told c.args.out.now) (g.S.Sink.told c.minutes.out) c.args.page.now c.minutes.page (c.minutes.invariant.known before feeds stand taken)
    c.in-Some.stop c.ending_at.result found c.ending_at.ensures c.minutes.invariant.later

pub returns-in-None-next_minute-clause-stands : goal.returns-in-None-next_minute-clause-stands
returns-in-None-next_minute-clause-stands g c before feeds stand taken =
    let none : find (λ (a : Arrival). stops a.item) c.minutes.heads ≡ None = sym c.stop.ensures.first ∙ c.in-None.is in
    ends_whole c.args.resolution c.args.window c.args.symbols.now c.requires.window (g.P.Pool.stands c.minutes.pool) before feeds c.args.heads.now c.minutes.heads c.minutes.at c.minutes.rows
    (g.S.Sink.told c.args.out.now) (g.S.Sink.told c.minutes.out) c.args.page.now c.minutes.page (c.minutes.invariant.known before feeds stand taken)
    none c.minutes.invariant.later c.in-None-next_minute.ensures

pub returns-in-Err-clause-stands : goal.returns-in-Err-clause-stands
returns-in-Err-clause-stands g c before feeds stand taken =
    let (of_feeds, sliced, moves, heads) = c.in-Err.ensures.took in
    ends_unsliced c.args.resolution c.args.window c.args.symbols.now c.requires.window (g.P.Pool.stands c.minutes.pool) before feeds c.args.heads.now c.minutes.heads c.minutes.at c.minutes.rows
    (g.S.Sink.told c.args.out.now) (g.S.Sink.told c.minutes.out) c.args.page.now c.minutes.page (c.minutes.invariant.known before feeds stand taken)
    (g.P.Pool.stands c.slice.new.pool) of_feeds NoMemory moves

pub print_slice-requires-clause-ends : goal.print_slice-requires-clause-ends
print_slice-requires-clause-ends g c =
    let (of_feeds, (by, given), moves, heads) = c.in-Ok.ensures.took in
    let next = c.in-Some-next_minute.next in
    let sliced = subst (λ z. IsSliced z of_feeds c.minutes.heads c.slice.new.self) c.moment_of.ensures by in
    let out = subst (λ z. c.slice.new.out.items ≡ c.clear.new.self.items ++ slice_of z of_feeds c.minutes.heads) c.moment_of.ensures given in
    let is : c.deref.result.now ≡ slice_of (pos next) of_feeds c.minutes.heads
    = c.deref.ensures.value ∙ out ∙ ap (λ xs. xs ++ slice_of (pos next) of_feeds c.minutes.heads) c.clear.ensures.items in
    subst (λ xs. All (λ (a : Arrival). ends_at (pos next) a.item ≡ true) xs) (sym is) (slice_ends (pos next) of_feeds c.minutes.heads)

pub returns-in-Err-print_slice-clause-stands : goal.returns-in-Err-print_slice-clause-stands
returns-in-Err-print_slice-clause-stands g c before feeds stand taken =
    let (of_feeds, (by, given), moves, heads) = c.in-Ok.ensures.took in
    let next = c.in-Some-next_minute.next in
    let sliced = subst (λ z. IsSliced z of_feeds c.minutes.heads c.slice.new.self) c.moment_of.ensures by in
    let out = subst (λ z. c.slice.new.out.items ≡ c.clear.new.self.items ++ slice_of z of_feeds c.minutes.heads) c.moment_of.ensures given in
    let none : find (λ (a : Arrival). stops a.item) c.minutes.heads ≡ None = sym c.stop.ensures.first ∙ c.in-None.is in
    let (high, least, from) = c.in-Some-next_minute.ensures in
    let low : c.minutes.at + 1 ≤ next = least (c.minutes.at + 1) c.minutes.invariant.later in
    let is : c.deref.result.now ≡ slice_of (pos next) of_feeds c.minutes.heads
    = c.deref.ensures.value ∙ out ∙ ap (λ xs. xs ++ slice_of (pos next) of_feeds c.minutes.heads) c.clear.ensures.items in
    let front = subst (λ xs. IsFront (g.S.Sink.told c.minutes.out) (g.S.Sink.told c.print_slice.new.out) (c.minutes.page ++ session_text (shown c.args.symbols.now xs))) is c.in-Err-print_slice.ensures.prints.0 in
    ends_unprinted c.args.resolution c.args.window c.args.symbols.now c.requires.window (g.P.Pool.stands c.minutes.pool) before feeds c.args.heads.now c.minutes.heads c.minutes.at c.minutes.rows
    (g.S.Sink.told c.args.out.now) (g.S.Sink.told c.minutes.out) c.args.page.now c.minutes.page (c.minutes.invariant.known before feeds stand taken)
    (g.P.Pool.stands c.slice.new.pool) next of_feeds c.slice.new.self (g.S.Sink.told c.print_slice.new.out) c.print_slice.new.page c.in-Err-print_slice.stop none c.minutes.invariant.later
    (omega (arith, low)) high from c.requires.few sliced moves front

pub minutes-preserved : goal.minutes-preserved
minutes-preserved g c =
    let inv = c.minutes.invariant in
    let took = c.in-Ok.ensures in
    let (of_feeds, (by, given), moves, heads) = took.took in
    let lines = c.in-Ok-print_slice.ensures in
    let next = c.in-Some-next_minute.next in
    let sliced = subst (λ z. IsSliced z of_feeds c.minutes.heads c.slice.new.self) c.moment_of.ensures by in
    let out = subst (λ z. c.slice.new.out.items ≡ c.clear.new.self.items ++ slice_of z of_feeds c.minutes.heads) c.moment_of.ensures given in
    let none : find (λ (a : Arrival). stops a.item) c.minutes.heads ≡ None = sym c.stop.ensures.first ∙ c.in-None.is in
    let (high, least, from) = c.in-Some-next_minute.ensures in
    let low : c.minutes.at + 1 ≤ next = least (c.minutes.at + 1) inv.later in
    let is : c.deref.result.now ≡ slice_of (pos next) of_feeds c.minutes.heads
    = c.deref.ensures.value ∙ out ∙ ap (λ xs. xs ++ slice_of (pos next) of_feeds c.minutes.heads) c.clear.ensures.items in
    let counted = subst (λ xs. c.in-Ok-print_slice.printed ≡ length (shown c.args.symbols.now xs)) is lines.counted in
    let printed = subst (λ xs. IsPrinted (g.S.Sink.told c.minutes.out) (g.S.Sink.told c.print_slice.new.out) c.minutes.page c.print_slice.new.page (session_text (shown c.args.symbols.now xs))) is lines.prints.0 in
    record {
      opened = took.opened;
      numbered = numbered_next (pos next) of_feeds (length c.args.symbols.now) c.minutes.heads c.slice.new.self inv.numbered sliced;
      later = later_next next of_feeds c.minutes.heads c.slice.new.self from sliced;
      low = omega (arith, low, inv.low);
      high = high;
      known = λ before feeds stand taken.
          known_next c.args.resolution c.args.window c.args.symbols.now c.requires.window (g.P.Pool.stands c.minutes.pool) before feeds c.args.heads.now c.minutes.heads c.minutes.at c.minutes.rows
          (g.S.Sink.told c.args.out.now) (g.S.Sink.told c.minutes.out) c.args.page.now c.minutes.page (inv.known before feeds stand taken)
          (g.P.Pool.stands c.slice.new.pool) next c.in-Ok-print_slice.printed c.saturating_add-rows.result of_feeds c.slice.new.self (g.S.Sink.told c.print_slice.new.out) c.print_slice.new.page
          none inv.later (omega (arith, low)) high from c.requires.few sliced moves counted printed c.saturating_add-rows.ensures;
      room = lines.prints.1;
      sink_grows = omega (arith, inv.sink_grows, lines.prints.2);
      stays = stays-more g.P.Pool.files g.P.Pool.lists g.P.Pool.faults g.P.Pool.place c.args.pool.now c.minutes.pool c.slice.new.pool inv.stays took.stays;
    }
