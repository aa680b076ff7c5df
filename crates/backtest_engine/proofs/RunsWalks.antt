-- A run over lists that tell a world and the definition go on side by side, minute after minute.
use Rattle.std.proofs.Common.{◌≡◌, ℕ, zero, suc, ◌+◌, ◌-◌, ◌*◌, ◌≤◌, List, [], ◌∷◌, ◌++◌, false, refl, ap, sym, subst, ◌∙◌, arith}
use Rattle.std.specs.Prelude.{ℤ, pos, negsuc, ◌≤ℤ◌, unsigned_abs, Option, Some, None, option_map, map, length}
use Rattle.std.specs.List.{AllByRecursion as Each}
use Rattle.std.proofs.lemmas.Int.{ints}
use Rattle.std.proofs.lemmas.Option.{none-some}
use Rattle.std.proofs.lemmas.List.Concat.{flat_map-append}
use Rattle.lean_fixed.specs.Moments.{first_moment}
use Rattle.lean_items.specs.declared.feed_key.FeedKey.{FeedKey}
use Rattle.lean_items.specs.declared.item.Item.{Item}
use Rattle.rule_strategy.specs.declared.security.Security.{Security}
use Rattle.rule_strategy.specs.Asked.{most_asked}
use Rattle.rule_strategy.specs.Validity.{IsPlan}
use Rattle.clock_steps.specs.Runs.{Ran, then_on, before, run}
use Rattle.clock_steps.proofs.RunLemmas.{run-cut, run-one, before-same}
use Rattle.clock_book.specs.Seen.{Seen, seen_of}
use Rattle.clock_run.specs.Idle.{IsSettled}
use Rattle.clock_run.specs.InRange.{IsWorldInRange, IsStateInRange}
use Rattle.clock_run.specs.Known.{Known, World}
use Rattle.clock_run.specs.Lines.{Line, Halt as ClockHalt, line_bytes}
use Rattle.clock_run.specs.Moments.{is_done_with}
use Rattle.clock_run.specs.Orderly.{NumbersRise, IsOrderly}
use Rattle.clock_run.specs.Reports.{step_of, moments}
use Rattle.clock_run.specs.States as clock
use Rattle.clock_run.specs.States.{Setup, coarse_keys, numbered as each_numbered, listed, opening}
use Rattle.clock_run.proofs.OrderlyLemmas.{moments-orderly}
use Rattle.clock_run.proofs.RangeLemmas.{states-range}
use Rattle.clock_run.proofs.SettleLemmas.{moment-settles, opening-settled}
use Rattle.backtest_core.specs.Standing.{followed_of}
use Rattle.backtest_core.specs.Inside.{inside}
use Rattle.backtest_core.specs.Text.{lines_bytes}
use Rattle.backtest_engine.specs.Algorithms.{Own, state_of, nothing_known, opening_state, meaning_of}
use Rattle.backtest_engine.specs.Lists.{slice_at}
use Rattle.backtest_engine.specs.Meaning.{State}
use Rattle.backtest_engine.specs.Meets.{IsMet}
use Rattle.backtest_engine.specs.Reports.{Halt, minute, minutes}
use Rattle.backtest_engine.specs.Tells.{Tells}
use Rattle.backtest_engine.proofs.RunsTies.{AreKeyed, takes}
use Rattle.backtest_engine.proofs.RunsKeys.{keyed-opening}
use Rattle.backtest_engine.proofs.RunsSteps.{clock_halt, not-none, minute-walks}

-- between two minutes an algorithm is at a state of the definition
pub record Going (setup : Setup) (known : Known) (e : State Own) (d : clock.State) : Type 0 where
  pub state : e ≡ state_of setup d known
  pub keyed : AreKeyed d.securities
  pub settled : IsSettled d

-- some minutes of a run and as many moments of the definition
pub record Runs (setup : Setup) (known : Known) (e : Ran (State Own) ℕ Halt) (d : Ran clock.State Line ClockHalt) : Type 0 where
  pub lines : e.lines ≡ lines_bytes d.lines
  pub stop : option_map clock_halt e.stop ≡ d.stop
  pub going : d.stop ≡ None → Going setup known e.state d.state

-- what is run behind them
module _ (setup : Setup) (known : Known) (f : State Own → Ran (State Own) ℕ Halt) (g : clock.State → Ran clock.State Line ClockHalt) where
  then-runs : (el : List ℕ) (es : State Own) (ez : Option Halt) (dl : List Line) (ds : clock.State) (dz : Option ClockHalt)
      → el ≡ lines_bytes dl → option_map clock_halt ez ≡ dz → (dz ≡ None → Runs setup known (f es) (g ds))
      → Runs setup known (then_on el es ez f) (then_on dl ds dz g)
  then-runs el es None dl ds None lines stop on =
      let r = on refl in
      record {
        lines = ap (λ ls. ls ++ (f es).lines) lines
            ∙ (ap (λ ls. lines_bytes dl ++ ls) r.lines ∙ sym (flat_map-append line_bytes dl (g ds).lines));
        stop = r.stop;
        going = r.going;
      }
  then-runs el es (Some z) dl ds (Some y) lines stop on = record { lines = lines; stop = stop; going = λ none. absurd (not-none y (Some y) refl none) }
  then-runs el es None dl ds (Some y) lines stop on = absurd (none-some y stop)
  then-runs el es (Some z) dl ds None lines stop on = absurd (not-none (clock_halt z) (Some (clock_halt z)) refl stop)

-- a first day has moments before it
late : (z : ℤ) → pos 1 ≤ℤ z → 1 ≤ 1440 * unsigned_abs z
late (pos n) low = omega (arith, ints)
late (negsuc n) low = absurd (omega (arith, ints))

module _ (setup : Setup) (world : World) (lists : FeedKey → List Item) (plan : IsPlan setup.plan) (ranged : IsWorldInRange world)
    (tells : Tells setup world lists) where
  abbrev first : ℕ
  first = first_moment setup.plan.window

  is-late : 1 ≤ first
  is-late = late setup.plan.window.first.0 plan.window.days.first.0

  abbrev ran : ℕ → Ran (State Own) ℕ Halt
  ran count = minutes (meaning_of setup) lists first (opening_state setup) count

  -- nothing is known of the listed securities before the first moment
  silent-before : (u start n : ℕ) (securities : List Security) → u ≤ start
      → map (followed_of nothing_known) (each_numbered (listed start) n securities) ≡ map (followed_of (world u)) (each_numbered (listed start) n securities)
  silent-before u start n [] low = refl
  silent-before u start n (x ∷ xs) low = λ j.
      record { security = listed start n x; bars = sym (tells.fresh start x.symbol x.resolution x.fill u low) j } ∷ silent-before u start (n + 1) xs low j

  runs-zero : Runs setup (world (first + 0 - 1)) (ran 0) (moments setup world 0)
  unfolding run
  runs-zero =
      let followed = silent-before (first + 0 - 1) first (length (coarse_keys setup.plan)) setup.plan.securities (omega arith) in
      record {
        lines = refl;
        stop = refl;
        going = λ none. record {
          state = λ j. record {
            own = record {
              inside = inside 0 [] (record {
                setup = setup;
                waiting = [];
                followed = followed j;
                seen = seen_of (opening setup).book;
                requests = 0;
              });
              feeds = (opening setup).feeds;
              equities = [];
            };
            book = (opening setup).book;
          };
          keyed = keyed-opening first (length (coarse_keys setup.plan)) setup.plan.securities plan.securities;
          settled = opening-settled setup;
        };
      }

  -- one minute more
  minute-on : (t u : ℕ) → t ≡ u + 1 → (e : State Own) (d : clock.State) → IsOrderly setup.plan d → Going setup (world u) e d
      → Runs setup (world t) (minute (meaning_of setup) lists t e) (step_of setup world t d)
  minute-on t u next e d orderly here =
      let w = minute-walks setup world lists tells t u next d orderly here.keyed plan.universe in
      subst (λ e. Runs setup (world t) (minute (meaning_of setup) lists t e) (step_of setup world t d)) (sym here.state)
      (record {
        lines = w.lines;
        stop = w.stop;
        going = λ none. record { state = w.state none; keyed = w.keyed none; settled = moment-settles setup t (world t) d none };
      })

  ran-next : (count : ℕ) → ran (count + 1) ≡ before (ran count) (minute (meaning_of setup) lists (first + count))
  ran-next count =
      run-cut (minute (meaning_of setup) lists) count 1 first (opening_state setup)
      ∙ before-same (ran count) _ _ (λ e. run-one (minute (meaning_of setup) lists) (first + count) e)

  moments-next : (count : ℕ) → moments setup world (count + 1) ≡ before (moments setup world count) (step_of setup world (first + count))
  moments-next count =
      run-cut (step_of setup world) count 1 first (opening setup)
      ∙ before-same (moments setup world count) _ _ (λ d. run-one (step_of setup world) (first + count) d)

  runs-next : (count : ℕ) → Runs setup (world (first + count - 1)) (ran count) (moments setup world count)
      → Runs setup (world (first + count)) (ran (count + 1)) (moments setup world (count + 1))
  runs-next count r =
      let t = first + count in
      let e = ran count in
      let d = moments setup world count in
      let has_late = is-late in
      let on : d.stop ≡ None → Runs setup (world t) (minute (meaning_of setup) lists t e.state) (step_of setup world t d.state) =
      λ none. minute-on t (t - 1) (omega (arith, has_late)) e.state d.state (moments-orderly setup world count plan) (r.going none) in
      subst (λ e. Runs setup (world t) e (moments setup world (count + 1))) (sym (ran-next count))
      (subst (Runs setup (world t) (before (ran count) (minute (meaning_of setup) lists t))) (sym (moments-next count))
      (then-runs setup (world t) (minute (meaning_of setup) lists t) (step_of setup world t) e.lines e.state e.stop d.lines d.state d.stop r.lines r.stop on))

  pub runs : (count : ℕ) → Runs setup (world (first + count - 1)) (ran count) (moments setup world count)
  runs zero = runs-zero
  runs (suc count) =
      let more : count + 1 ≡ suc count = omega arith in
      let now : first + count ≡ first + suc count - 1 = omega arith in
      subst (λ n. Runs setup (world (first + suc count - 1)) (ran n) (moments setup world n)) more
      (subst (λ u. Runs setup (world u) (ran (count + 1)) (moments setup world (count + 1))) now (runs-next count (runs count)))

  -- ---- what an algorithm takes at a moment

  kept-map : (known : Known) (seen : Seen) (xs : List clock.Subscription) → Each (λ x. is_done_with seen x ≡ false) xs
      → Each (λ f. is_done_with seen f.security ≡ false) (map (followed_of known) xs)
  kept-map known seen [] kept = tt
  kept-map known seen (x ∷ xs) kept = (kept.0, kept-map known seen xs kept.1)

  securities-of : (known : Known) (xs : List clock.Subscription) → map (λ f. f.security) (map (followed_of known) xs) ≡ xs
  securities-of known [] = refl
  securities-of known (x ∷ xs) = ap (λ ys. x ∷ ys) (securities-of known xs)

  met : (t u : ℕ) → t ≡ u + 1 → (e : State Own) (d : clock.State) → IsOrderly setup.plan d → IsStateInRange d → Going setup (world u) e d
      → IsMet t (slice_at lists (pos t) ((meaning_of setup).active e.own)) e
  unfolding meaning_of
  met t u next e d orderly in_range here =
      subst (λ e. IsMet t (slice_at lists (pos t) ((meaning_of setup).active e.own)) e) (sym here.state)
      (record {
        takes = takes setup world lists tells t u next d orderly here.keyed;
        seen = refl;
        most = most_asked;
        ranged = in_range.book;
        orders = in_range.orders;
        tried = here.settled.tried;
        kept = kept-map (world u) (seen_of d.book) d.securities here.settled.kept;
        numbers = subst (NumbersRise (length (coarse_keys setup.plan)) d.feeds) (sym (securities-of (world u) d.securities)) orderly.numbers;
      })

  pub meets : (count : ℕ) → (ran count).stop ≡ None
      → IsMet (first + count) (slice_at lists (pos (first + count)) ((meaning_of setup).active (ran count).state.own)) (ran count).state
  meets count none =
      let r = runs count in
      let has_late = is-late in
      met (first + count) (first + count - 1) (omega (arith, has_late)) (ran count).state (moments setup world count).state
      (moments-orderly setup world count plan) (states-range setup world count plan ranged)
      (r.going (sym r.stop ∙ ap (option_map clock_halt) none))
