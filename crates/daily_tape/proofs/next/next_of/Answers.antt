-- The least step of the heads so far, and of one more.
use Rattle.std.proofs.Common.{◌≡◌, ◌+◌, ◌<◌, ◌≤◌, rules, subst, sym, take}
use Rattle.std.proofs.lemmas.List.{take_all}
use Rattle.lean_fixed.specs.Calendar.{last_day}
use Rattle.daily_tape.specs.declared.source.Source.{Source}
use Rattle.daily_tape.specs.Head.{StandsPast}
use Rattle.daily_tape.specs.Steps.{AllPast, IsAhead, Stops}
use Rattle.daily_tape.proofs.NextLemmas.{first_stop, seen-more}
use Rattle.daily_tape.proofs.next.next_of.Goals as goal

pub returns-in-None-clause-next : goal.returns-in-None-clause-next
returns-in-None-clause-next g c =
    let stops : Stops c.index-sources-place.result.head = search rules in
    first_stop c.args.sources.now c.loop-place.place c.loop-place.least c.index-sources-place.result c.loop-place-test.true c.index-sources-place.is c.loop-place.invariant.ahead stops

pub loop-place-preserved : goal.loop-place-preserved
loop-place-preserved g c =
    rw c.min-least.ensures (seen-more c.args.sources.now c.loop-place.place c.loop-place.least c.in-Some.step c.index-sources-place.result c.loop-place-test.true c.index-sources-place.is c.loop-place.invariant
    (subst (λ (source : Source g.row.H.Denot). IsAhead c.in-Some.step source.head × (c.in-Some.step ≤ last_day + 2)) (sym c.index-sources-place.is) c.in-Some.ensures.stops)
    (λ k le. subst (λ (source : Source g.row.H.Denot). StandsPast k source.head → k < c.in-Some.step) (sym c.index-sources-place.is) (c.in-Some.ensures.later k le)))

pub returns-then-least-lt-PAST_LAST-clause-later : goal.returns-then-least-lt-PAST_LAST-clause-later
returns-then-least-lt-PAST_LAST-clause-later g c k le past =
    let all : take c.loop-place.place c.args.sources.now ≡ c.args.sources.now = take_all c.loop-place.place c.args.sources.now c.loop-place-test.false in
    c.loop-place.invariant.later k le (let p : AllPast k (take c.loop-place.place c.args.sources.now) = rw all past in p)
