-- A slice arrives at an algorithm.
use Rattle.std.proofs.Common.{◌≡◌, ℕ, ◌+◌, ◌≤◌, List, [], ◌∷◌, ◌++◌, true, false, refl, ap, sym, subst, ◌∙◌, arith, inl}
use Rattle.std.specs.Prelude.{pos, Option, Some, None, Ok, Err, length, map, if◌then◌else◌, Bool}
use Rattle.std.proofs.lemmas.Bool.{false≢true}
use Rattle.std.proofs.lemmas.List.{append-nil}
use Rattle.lean_fixed.specs.Ranges.{IsPrintedMoment}
use Rattle.lean_fixed.specs.declared.time.Moment.{Moment}
use Rattle.lean_items.specs.declared.arrival.Arrival.{Arrival}
use Rattle.exchange_hours.specs.Sessions.{moment}
use Rattle.lean_orders.specs.declared.desk.Command.{Command}
use Rattle.lean_orders.specs.declared.desk.Reply.{Reply}
use Rattle.clock_run.specs.Lines.{Line}
use Rattle.clock_run.specs.Orderly.{NumbersRise}
use Rattle.clock_run.specs.States.{Setup, coarse_keys}
use Rattle.report_stats.specs.Stands.{StandsFor as StatsStand}
use Rattle.backtest_core.specs.declared.standing.Core.{Core}
use Rattle.backtest_core.specs.declared.stop.Stop.{Stop as CoreStop}
use Rattle.backtest_core.specs.declared.stop.Stop.TheVariants as core_stop
use Rattle.backtest_core.specs.Calls.{StopsFor}
use Rattle.backtest_core.specs.Core.{StandsFor, StandsIn, requests_of}
use Rattle.backtest_core.specs.Inside.{Inside, with_bars, marked_so, choice_in, arrived_with, arrived, has_too_many, begins}
use Rattle.backtest_core.specs.declared.phase.Phase.TheVariants as core_phase
use Rattle.backtest_core.specs.Slices.{IsSlice}
use Rattle.backtest_core.specs.Standing.{Followed, Standing}
use Rattle.backtest_engine.specs.declared.algorithm.Algorithm.{Algorithm}
use Rattle.backtest_engine.specs.declared.limits.Limit.TheVariants.{Securities}
use Rattle.backtest_engine.specs.Algorithms.{Own, subscribed, meaning_of}
use Rattle.backtest_engine.specs.InsideLemmas.{given-none}
use Rattle.backtest_engine.specs.Meaning.{Subscription as Feed, Meaning, State}
use Rattle.backtest_engine.specs.Meets.{IsMet}
use Rattle.backtest_engine.specs.Playing.{Between, Within}
use Rattle.backtest_engine.specs.PlayingLaws.{stop_of}
use Rattle.backtest_engine.specs.RestLemmas.{Rested, rested}
use Rattle.backtest_engine.specs.Turns.{Turn, numbered, Arrives, first_turn}
use Rattle.backtest_engine.proofs.RunsPhases.{arrived-unphased}

-- ---- what an arrival leaves as it was

bars-securities : (slice : List Arrival) (fs : List Followed) → map (λ f. f.security) (map (with_bars slice) fs) ≡ map (λ f. f.security) fs
bars-securities slice [] = refl
bars-securities slice (f ∷ fs) = ap (λ xs. f.security ∷ xs) (bars-securities slice fs)

bars-feeds : (slice : List Arrival) (fs : List Followed) → map subscribed (map (with_bars slice) fs) ≡ map subscribed fs
bars-feeds slice [] = refl
bars-feeds slice (f ∷ fs) = ap (λ xs. subscribed f ∷ xs) (bars-feeds slice fs)

marked-feeds : (symbols : List (List ℕ)) (fs : List Followed) → map subscribed (map (marked_so symbols) fs) ≡ map subscribed fs
marked-feeds symbols [] = refl
marked-feeds symbols (f ∷ fs) = ap (λ xs. subscribed f ∷ xs) (marked-feeds symbols fs)

marked-rise : (symbols : List (List ℕ)) (from until : ℕ) (fs : List Followed) → NumbersRise from until (map (λ f. f.security) fs)
    → NumbersRise from until (map (λ f. f.security) (map (marked_so symbols) fs))
marked-rise symbols from until [] rise = rise
marked-rise symbols from until (f ∷ fs) rise = (rise.0, marked-rise symbols (f.security.active.feed.0 + 1) until fs rise.1)

-- an algorithm's core behind an arrival
pub record Came (t : ℕ) (v : Standing) (i : Inside) : Type 0 where
  pub at : i.at ≡ t
  pub setup : i.standing.setup ≡ v.setup
  pub seen : i.standing.seen ≡ v.seen
  pub phase : i.phase ≡ None
  pub feeds : map subscribed i.standing.followed ≡ map subscribed v.followed
  pub rise : (from until : ℕ) → NumbersRise from until (map (λ f. f.security) v.followed)
      → NumbersRise from until (map (λ f. f.security) i.standing.followed)

came-with : (t : ℕ) (choice : Option (List (List ℕ))) (v : Standing) → Came t v (arrived_with t choice v)
came-with t None v = record { at = refl; setup = refl; seen = refl; phase = refl; feeds = refl; rise = λ from until rise. rise }
came-with t (Some symbols) v = record {
  at = refl;
  setup = refl;
  seen = refl;
  phase = refl;
  feeds = marked-feeds symbols v.followed;
  rise = λ from until rise. marked-rise symbols from until v.followed rise;
}

came : (t : ℕ) (slice : List Arrival) (v : Standing) → Came t v (arrived t slice v)
came t slice v =
    let heard : Standing = record v { followed = map (with_bars slice) v.followed } in
    let c = came-with t (choice_in v slice) heard in
    record {
      at = c.at;
      setup = c.setup;
      seen = c.seen;
      phase = c.phase;
      feeds = c.feeds ∙ bars-feeds slice v.followed;
      rise = λ from until rise. c.rise from until (subst (λ xs. NumbersRise from until xs) (sym (bars-securities slice v.followed)) rise);
    }

-- ---- what the call says

abbrev pub Came-in : Algorithm → Core → Moment → List Arrival → Type 0
Came-in a core at slice = (t : ℕ) (v : Standing) (lines : List Line) → StandsFor a.core v lines → at ≡ moment t → v.waiting ≡ []
    → IsSlice t v slice → (has_too_many v slice ≡ false) × StandsIn core (arrived t slice v)

abbrev pub Stopped-in : Algorithm → Core → Moment → List Arrival → CoreStop → Type 0
Stopped-in a core at slice stop = (t : ℕ) (v : Standing) (lines : List Line) → StandsFor a.core v lines → at ≡ moment t → v.waiting ≡ []
    → IsSlice t v slice → StopsFor stop core_stop.Securities ((has_too_many v slice ≡ true) × StandsIn core (arrived t slice v))

-- an algorithm is before its first phase
within-first : (setup : Setup) (a : Algorithm) (core : Core) (t : ℕ) (slice : List Arrival) (s : State Own)
    → (b : Between a (meaning_of setup) s []) → Rested a b.setup s → IsMet t slice s → IsPrintedMoment (pos t) → core.commands.at.0 ≡ pos t
    → requests_of core ≤ requests_of a.core → StandsIn core (arrived t slice s.own.inside.standing)
    → Within (record a { core = core }) (meaning_of setup) (first_turn (meaning_of setup) t slice s) [] []
unfolding meaning_of
within-first setup a core t slice s b r met printed now fewer stands =
    let v = s.own.inside.standing in
    let i = arrived t slice v in
    let c = came t slice v in
    let given = r.core.keeps.requests in
    let few = a.core.commands.few in
    record {
      setup = b.setup;
      means = b.means;
      its = c.setup ∙ r.its;
      hours = b.hours;
      at = c.at;
      clean = arrived-unphased t slice v;
      printed = printed;
      now = now;
      text = refl;
      active = ap (λ (x : Setup). numbered 0 (coarse_keys x.plan) ++ map subscribed i.standing.followed) c.setup
          ∙ ap (λ (fs : List Feed). numbered 0 (coarse_keys v.setup.plan) ++ fs) c.feeds;
      feeds = refl;
      numbers = subst (λ (x : Setup). NumbersRise (length (coarse_keys x.plan)) s.own.feeds (map (λ f. f.security) i.standing.followed)) (sym c.setup)
          (c.rise (length (coarse_keys v.setup.plan)) s.own.feeds met.numbers);
      seen = c.seen ∙ met.seen;
      ranged = (met.most, met.ranged);
      fitting = tt;
      time = tt;
      room = omega (arith, met.orders, fewer, given, few);
      plays = λ rest is. record {
        core = inl (record {
          none = refl;
          silent = refl;
          inside = i;
          stands = stands;
          is = arrived-unphased t slice v;
          before = ap (λ phase. begins core_phase.Prices phase) c.phase;
        });
        split = ap (λ (j : Inside). j.left) (sym (given-none _));
        stats = subst (λ (x : Setup). StatsStand a.stats x.plan.cash.0 (s.own.equities ++ [])) (sym (c.setup ∙ r.its))
            (subst (λ es. StatsStand a.stats b.setup.plan.cash.0 es) (sym (append-nil s.own.equities)) b.stats);
      };
    }

arrives-ok-at : (setup : Setup) (a : Algorithm) (core : Core) (at : Moment) (t : ℕ) (slice : List Arrival) (s : State Own) (x : Unit {0})
    → Between a (meaning_of setup) s [] → IsMet t slice s → at.0 ≡ pos t → IsPrintedMoment at.0 → core.commands.at ≡ at
    → requests_of core ≤ requests_of a.core → Came-in a core at slice
    → Arrives (meaning_of setup) (λ turn cs rs. Within (record a { core = core }) (meaning_of setup) turn cs rs) core.text.items t slice s (Ok x)
unfolding meaning_of
arrives-ok-at setup a core at t slice s x b met is printed same fewer comes =
    let r = rested (meaning_of setup) a s b in
    let now : at ≡ moment t = ap (λ z. record { 0 = z }) is in
    let (few, stands) = comes t s.own.inside.standing r.lines r.core now r.waiting met.takes in (
      ap (λ full. if full then Some Securities else None) few,
      within-first setup a core t slice s b r met (subst (λ z. IsPrintedMoment z) is printed)
          (ap (λ (x : Moment). x.0) same ∙ is) fewer stands,
    )

pub arrives-ok : (m : Meaning Own) (a : Algorithm) (core : Core) (at : Moment) (t : ℕ) (slice : List Arrival) (s : State Own) (x : Unit {0})
    → Between a m s [] → IsMet t slice s → at.0 ≡ pos t → IsPrintedMoment at.0 → core.commands.at ≡ at
    → requests_of core ≤ requests_of a.core → Came-in a core at slice
    → Arrives m (λ turn cs rs. Within (record a { core = core }) m turn cs rs) core.text.items t slice s (Ok x)
arrives-ok m a core at t slice s x b met is printed same fewer comes =
    subst (λ m. Arrives m (λ turn cs rs. Within (record a { core = core }) m turn cs rs) core.text.items t slice s (Ok x)) (sym b.means)
    (arrives-ok-at b.setup a core at t slice s x (subst (λ m. Between a m s []) b.means b) met is printed same fewer comes)

abbrev is-securities : CoreStop → Bool
is-securities core_stop.NoMemory = false
is-securities core_stop.Requests = false
is-securities core_stop.Securities = true

arrives-full : (setup : Setup) (core : Core) (t : ℕ) (slice : List Arrival) (s : State Own) (plays : Turn Own → List Command → List Reply → Type 0)
    → (has_too_many s.own.inside.standing slice ≡ true) → StandsIn core (arrived t slice s.own.inside.standing)
    → Arrives (meaning_of setup) plays core.text.items t slice s (Err (stop_of core_stop.Securities))
unfolding meaning_of
arrives-full setup core t slice s plays full stands = (ap (λ full. if full then Some Securities else None) full, stands.text)

pub arrives-err : (m : Meaning Own) (a : Algorithm) (core : Core) (at : Moment) (t : ℕ) (slice : List Arrival) (s : State Own) (stop : CoreStop)
    → Between a m s [] → IsMet t slice s → at.0 ≡ pos t → Stopped-in a core at slice stop
    → Arrives m (λ turn cs rs. Within (record a { core = core }) m turn cs rs) core.text.items t slice s (Err (stop_of stop))
arrives-err m a core at t slice s core_stop.NoMemory b met is stops = tt
arrives-err m a core at t slice s core_stop.Requests b met is stops =
    let r = rested m a s b in
    let said = stops t s.own.inside.standing r.lines r.core (ap (λ z. record { 0 = z }) is) r.waiting met.takes in
    absurd (false≢true (sym (ap is-securities said.0)))
arrives-err m a core at t slice s core_stop.Securities b met is stops =
    let r = rested m a s b in
    let said = stops t s.own.inside.standing r.lines r.core (ap (λ z. record { 0 = z }) is) r.waiting met.takes in
    subst (λ m. Arrives m (λ turn cs rs. Within (record a { core = core }) m turn cs rs) core.text.items t slice s (Err (stop_of core_stop.Securities))) (sym b.means)
    (arrives-full b.setup core t slice s (λ turn cs rs. Within (record a { core = core }) (meaning_of b.setup) turn cs rs) said.1.0 said.1.1)
