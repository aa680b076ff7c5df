-- One minute of a run over lists that tell a world is one moment of the definition.
use Rattle.std.proofs.Common.{◌≡◌, ℕ, ◌+◌, List, [], ◌++◌, Bool, true, false, refl, ap, sym, subst, ◌∙◌}
use Rattle.std.specs.Prelude.{pos, Option, Some, None, option_map, if◌then◌else◌, map}
use Rattle.std.proofs.lemmas.Option.{none-some}
use Rattle.std.proofs.lemmas.List.Concat.{flat_map-append}
use Rattle.lean_items.specs.declared.arrival.Arrival.{Arrival}
use Rattle.lean_items.specs.declared.bad.Bad.{Bad}
use Rattle.lean_items.specs.declared.feed_key.FeedKey.{FeedKey}
use Rattle.lean_items.specs.declared.item.Item.{Item}
use Rattle.rule_strategy.specs.Validity.{IsUniverseIf}
use Rattle.clock_steps.specs.Runs.{Ran, then_on, behind}
use Rattle.clock_run.specs.Known.{Known, World}
use Rattle.clock_run.specs.Lines.{Line, Halt as ClockHalt, malformed as clock_malformed, too_many_securities, too_many_requests, removed, line_bytes}
use Rattle.clock_run.specs.Moments as clock_moments
use Rattle.clock_run.specs.Moments.{selection, prices, trading}
use Rattle.clock_run.specs.States as clock
use Rattle.clock_run.specs.States.{Setup, symbol_of}
use Rattle.clock_run.specs.Orderly.{IsOrderly}
use Rattle.backtest_core.specs.declared.phase.Phase.TheVariants as core_phase
use Rattle.backtest_core.specs.Standing.{standing_of}
use Rattle.backtest_core.specs.Inside.{Inside, inside, begins, arrived, has_too_many, is_over_in, leaving}
use Rattle.backtest_core.specs.Made.{Ties, priced, traded_on, closed_on, left_behind, lines_behind}
use Rattle.backtest_core.specs.Served.{Serves}
use Rattle.backtest_core.specs.Text.{lines_bytes}
use Rattle.backtest_core.specs.Whole.{through}
use Rattle.backtest_core.proofs.PhaseLemmas.{through-ended}
use Rattle.backtest_core.proofs.StartLemmas.{begins as begins_at, too-many}
use Rattle.backtest_core.proofs.MomentLemmas.{makes-lines, makes-standing, makes-feeds, makes-traded, makes-served, limit-of-requests, in-parts, halted-securities, halted-requests}
use Rattle.backtest_engine.specs.declared.limits.Limit.{Limit}
use Rattle.backtest_engine.specs.declared.limits.Limit.TheVariants.{Securities, Requests}
use Rattle.backtest_engine.specs.declared.phase.Phase.TheVariants.{Prices, Rules, Close}
use Rattle.backtest_engine.specs.Algorithms.{Own, active_of, own_of, state_of, unphased, meaning_of}
use Rattle.backtest_engine.specs.Lists.{refused}
use Rattle.backtest_engine.specs.Meaning.{State, close_of, behind_rules, behind_prices, behind_arrival, moment_of}
use Rattle.backtest_engine.specs.Reports.{Halt, limited, malformed, halt, halted, minute}
use Rattle.backtest_engine.specs.Tells.{Tells}
use Rattle.backtest_engine.proofs.RunsPhases.{at_inside, phase-on, arrived-unphased}
use Rattle.backtest_engine.proofs.RunsTies.{AreKeyed, all, ties}
use Rattle.backtest_engine.proofs.RunsKeys.{keyed-selection, keyed-behind, selection-book, selection-equities, refused-is}

-- what halts a run, in the definition's words
abbrev pub clock_halt : Halt → ClockHalt
clock_halt (limited Securities) = too_many_securities
clock_halt (limited Requests) = too_many_requests
clock_halt (malformed key bad) = clock_malformed key.kind bad

-- A run and the definition printed the same, and were halted alike; where they were not, they are at the same state.
pub record Walks (setup : Setup) (known : Known) (e : Ran (State Own) ℕ Halt) (d : Ran clock.State Line ClockHalt) : Type 0 where
  pub lines : e.lines ≡ lines_bytes d.lines
  pub stop : option_map clock_halt e.stop ≡ d.stop
  pub state : d.stop ≡ None → e.state ≡ state_of setup d.state known
  pub keyed : d.stop ≡ None → AreKeyed d.state.securities

-- ---- a moment of an algorithm

module _ (setup : Setup) (t : ℕ) (before_it known : Known) (slice : List Arrival) (s : clock.State) (tie : Ties setup t before_it known slice s) where
  abbrev chosen : Ran clock.State Line ClockHalt
  chosen = selection setup.plan.universe t known.coarse s

  abbrev one : clock.State
  one = chosen.state

  abbrev s1 : clock.State
  s1 = priced t known one

  abbrev s2 : clock.State
  s2 = traded_on setup t known one

  abbrev s3 : clock.State
  s3 = closed_on setup t known one

  abbrev s4 : clock.State
  s4 = left_behind setup t known one

  abbrev i0 : Inside
  i0 = arrived t slice (standing_of setup s before_it)

  abbrev i1 : Inside
  i1 = through core_phase.Prices one.book i0

  abbrev i2 : Inside
  i2 = through core_phase.Rules s1.book i1

  abbrev i3 : Inside
  i3 = through core_phase.Close s2.book i2

  serves : Serves setup t known one i0
  serves = makes-served setup t before_it known slice s tie

  may-prices : begins core_phase.Prices i0.phase ≡ true
  may-prices = ap (begins core_phase.Prices) (begins_at setup t before_it known slice s tie).phase

  may-rules : begins core_phase.Rules i1.phase ≡ true
  may-rules = ap (λ (i : Inside). begins core_phase.Rules i.phase) (through-ended core_phase.Prices one.book i0 may-prices)

  may-close : begins core_phase.Close i2.phase ≡ true
  may-close = ap (λ (i : Inside). begins core_phase.Close i.phase) (through-ended core_phase.Rules s1.book i1 may-rules)

  -- the close of the moment
  abbrev gone : List Line
  gone = map (λ f. removed i3.at (symbol_of f.security)) (leaving i3)

  closes : behind (lines_bytes i3.lines) (close_of (meaning_of setup) t slice (at_inside (unphased i3) s.feeds s3))
      ≡ record { lines = lines_bytes (chosen.lines ++ lines_behind setup t known one); state = state_of setup s4 known; stop = None }
  unfolding meaning_of
  closes =
      let lines : lines_bytes i3.lines ++ lines_bytes gone ≡ lines_bytes (chosen.lines ++ lines_behind setup t known one) =
      sym (flat_map-append line_bytes i3.lines gone) ∙ ap lines_bytes (makes-lines setup t before_it known slice s tie) in
      λ j. record {
        lines = lines j;
        state = record {
          own = record {
            inside = inside 0 [] (makes-standing setup t before_it known slice s tie j);
            feeds = makes-feeds setup t before_it known slice s tie j;
            equities = s3.equities;
          };
          book = s3.book;
        };
        stop = None;
      }

  abbrev stop_of : Bool → Limit → Option Limit
  stop_of b limit = if b then Some limit else None

  close-on : behind (lines_bytes i2.lines) (behind_rules (meaning_of setup) t slice (at_inside (unphased i2) s.feeds s2))
      ≡ record { lines = lines_bytes (chosen.lines ++ lines_behind setup t known one); state = state_of setup s4 known; stop = None }
  close-on =
      phase-on setup t slice Close i2 s.feeds s2 s3 may-close serves.close (close_of (meaning_of setup) t slice) ∙ closes

  rules-on : behind (lines_bytes i1.lines) (behind_prices (meaning_of setup) t slice (at_inside (unphased i1) s.feeds s1))
      ≡ then_on (lines_bytes i2.lines) (at_inside (unphased i2) s.feeds s2) (stop_of (is_over_in core_phase.Rules i1) Requests) (behind_rules (meaning_of setup) t slice)
  rules-on = phase-on setup t slice Rules i1 s.feeds s1 s2 may-rules serves.rules (behind_rules (meaning_of setup) t slice)

  prices-on : behind (lines_bytes i0.lines) (behind_arrival (meaning_of setup) t slice (at_inside (unphased i0) s.feeds one))
      ≡ then_on (lines_bytes i2.lines) (at_inside (unphased i2) s.feeds s2) (stop_of (is_over_in core_phase.Rules i1) Requests) (behind_rules (meaning_of setup) t slice)
  prices-on = phase-on setup t slice Prices i0 s.feeds one s1 may-prices serves.prices (behind_prices (meaning_of setup) t slice) ∙ rules-on

  same-start : at_inside i0 s.feeds s ≡ at_inside (unphased i0) s.feeds one
  same-start = λ j. record {
    own = record {
      inside = sym (arrived-unphased t slice (standing_of setup s before_it)) j;
      feeds = s.feeds;
      equities = sym (selection-equities setup.plan.universe t known.coarse s) j;
    };
    book = sym (selection-book setup.plan.universe t known.coarse s) j;
  }

  begins-on : moment_of (meaning_of setup) t slice (state_of setup s before_it)
      ≡ then_on (lines_bytes i0.lines) (at_inside (unphased i0) s.feeds one) (stop_of (has_too_many (standing_of setup s before_it) slice) Securities)
      (behind_arrival (meaning_of setup) t slice)
  unfolding moment_of meaning_of
  begins-on =
      ap (λ z. then_on (lines_bytes i0.lines) z (stop_of (has_too_many (standing_of setup s before_it) slice) Securities) (behind_arrival (meaning_of setup) t slice)) same-start

  -- no limit was met
  pub plain : has_too_many (standing_of setup s before_it) slice ≡ false → is_over_in core_phase.Rules i1 ≡ false
      → moment_of (meaning_of setup) t slice (state_of setup s before_it)
      ≡ record { lines = lines_bytes (chosen.lines ++ lines_behind setup t known one); state = state_of setup s4 known; stop = None }
  plain few few_requests =
      begins-on
      ∙ (ap (λ b. then_on (lines_bytes i0.lines) (at_inside (unphased i0) s.feeds one) (stop_of b Securities) (behind_arrival (meaning_of setup) t slice)) few
      ∙ (prices-on
      ∙ (ap (λ b. then_on (lines_bytes i2.lines) (at_inside (unphased i2) s.feeds s2) (stop_of b Requests) (behind_rules (meaning_of setup) t slice)) few_requests
      ∙ close-on)))

  -- there is no room for one more request
  pub over-requests : has_too_many (standing_of setup s before_it) slice ≡ false → is_over_in core_phase.Rules i1 ≡ true
      → moment_of (meaning_of setup) t slice (state_of setup s before_it)
      ≡ record {
        lines = lines_bytes (chosen.lines ++ ((prices t known one).lines ++ (trading setup t known s1).lines));
        state = at_inside (unphased i2) s.feeds s2;
        stop = Some Requests;
      }
  over-requests few many =
      begins-on
      ∙ (ap (λ b. then_on (lines_bytes i0.lines) (at_inside (unphased i0) s.feeds one) (stop_of b Securities) (behind_arrival (meaning_of setup) t slice)) few
      ∙ (prices-on
      ∙ (ap (λ b. then_on (lines_bytes i2.lines) (at_inside (unphased i2) s.feeds s2) (stop_of b Requests) (behind_rules (meaning_of setup) t slice)) many
      ∙ (λ j. record {
        lines = lines_bytes (makes-traded setup t before_it known slice s tie j);
        state = at_inside (unphased i2) s.feeds s2;
        stop = Some Requests;
      }))))

  -- there is no room for one more security
  pub over-securities : has_too_many (standing_of setup s before_it) slice ≡ true
      → moment_of (meaning_of setup) t slice (state_of setup s before_it)
      ≡ record { lines = lines_bytes chosen.lines; state = at_inside (unphased i0) s.feeds one; stop = Some Securities }
  over-securities many =
      begins-on
      ∙ (ap (λ b. then_on (lines_bytes i0.lines) (at_inside (unphased i0) s.feeds one) (stop_of b Securities) (behind_arrival (meaning_of setup) t slice)) many
      ∙ (λ j. record {
        lines = lines_bytes ((begins_at setup t before_it known slice s tie).lines j);
        state = at_inside (unphased i0) s.feeds one;
        stop = Some Securities;
      }))

-- ---- a minute of a run

pub not-none : {A : Type 0} (z : A) (o : Option A) → o ≡ Some z → o ≡ None → ⊥
not-none z o some none = none-some z (sym none ∙ some)

halt-is : (r : Option (FeedKey × Bad)) → option_map clock_halt (halt None r) ≡ option_map (λ (r : FeedKey × Bad). clock_malformed r.0.kind r.1) r
halt-is None = refl
halt-is (Some r) = refl

module _ (setup : Setup) (world : World) (lists : FeedKey → List Item) (tells : Tells setup world lists) (t u : ℕ) (next : t ≡ u + 1) (s : clock.State)
    (orderly : IsOrderly setup.plan s) (keyed : AreKeyed s.securities) (sound : IsUniverseIf setup.plan.universe) where
  abbrev slice : List Arrival
  slice = all setup world lists tells t u next s orderly keyed

  abbrev tie : Ties setup t (world u) (world t) slice s
  tie = ties setup world lists tells t u next s orderly keyed

  abbrev picked : Ran clock.State Line ClockHalt
  picked = selection setup.plan.universe t (world t).coarse s

  abbrev Same : Ran (State Own) ℕ Limit → Ran clock.State Line ClockHalt → Type 0
  Same e d = Walks setup (world t) (halted (meaning_of setup) lists t e) d

  same-as : (e0 e : Ran (State Own) ℕ Limit) (d0 d : Ran clock.State Line ClockHalt) → e0 ≡ e → d0 ≡ d → Same e d → Same e0 d0
  same-as e0 e d0 d e_is d_is same = subst (λ e. Same e d0) (sym e_is) (subst (Same e) (sym d_is) same)

  limited-walks : (z : State Own) (limit : Limit) (h : ClockHalt) (lines : List Line) (d : clock.State) → clock_halt (limited limit) ≡ h
      → Same (record { lines = lines_bytes lines; state = z; stop = Some limit }) (record { lines = lines; state = d; stop = Some h })
  limited-walks z limit h lines d is = record {
    lines = refl;
    stop = ap Some is;
    state = λ none. absurd (not-none h (Some h) refl none);
    keyed = λ none. absurd (not-none h (Some h) refl none);
  }

  walks-securities : has_too_many (standing_of setup s (world u)) slice ≡ true
      → Same (moment_of (meaning_of setup) t slice (state_of setup s (world u))) (clock_moments.moment_of setup t (world t) s)
  walks-securities many =
      let stop : picked.stop ≡ Some too_many_securities =
      too-many setup t (world u) (world t) slice s tie ∙ ap (λ b. if b then Some too_many_securities else None) many in
      let d : clock_moments.moment_of setup t (world t) s ≡ record { lines = picked.lines; state = picked.state; stop = Some too_many_securities } =
      halted-securities setup t (world t) s too_many_securities stop
      ∙ (λ j. record { lines = picked.lines; state = picked.state; stop = stop j }) in
      same-as _ _ _ _ (over-securities setup t (world u) (world t) slice s tie many) d
      (limited-walks _ Securities too_many_securities picked.lines picked.state refl)

  abbrev over : Bool
  over = is_over_in core_phase.Rules (through core_phase.Prices picked.state.book (arrived t slice (standing_of setup s (world u))))

  trading-stop : (trading setup t (world t) (priced t (world t) picked.state)).stop ≡ (if over then Some too_many_requests else None)
  trading-stop = limit-of-requests setup t (world u) (world t) slice s tie

  picked-stop : has_too_many (standing_of setup s (world u)) slice ≡ false → picked.stop ≡ None
  picked-stop few = too-many setup t (world u) (world t) slice s tie ∙ ap (λ b. if b then Some too_many_securities else None) few

  walks-requests : has_too_many (standing_of setup s (world u)) slice ≡ false → over ≡ true
      → Same (moment_of (meaning_of setup) t slice (state_of setup s (world u))) (clock_moments.moment_of setup t (world t) s)
  walks-requests few many =
      let stop : (trading setup t (world t) (priced t (world t) picked.state)).stop ≡ Some too_many_requests =
      trading-stop ∙ ap (λ b. if b then Some too_many_requests else None) many in
      same-as _ _ _ _ (over-requests setup t (world u) (world t) slice s tie few many)
      (halted-requests setup t (world t) s too_many_requests (picked-stop few) stop)
      (limited-walks _ Requests too_many_requests _ _ refl)

  walks-plain : has_too_many (standing_of setup s (world u)) slice ≡ false → over ≡ false
      → Same (moment_of (meaning_of setup) t slice (state_of setup s (world u))) (clock_moments.moment_of setup t (world t) s)
  unfolding meaning_of
  walks-plain few few_requests =
      let stop : (trading setup t (world t) (priced t (world t) picked.state)).stop ≡ None =
      trading-stop ∙ ap (λ b. if b then Some too_many_requests else None) few_requests in
      let s4 = left_behind setup t (world t) picked.state in
      same-as _ _ _ _ (plain setup t (world u) (world t) slice s tie few few_requests)
      (in-parts setup t (world t) s (picked-stop few) stop)
      (record {
        lines = refl;
        stop = halt-is (refused lists (pos t) (active_of (own_of setup s4 (world t)))) ∙ refused-is setup world lists tells t (world t) s4;
        state = λ none. refl;
        keyed = λ none. keyed-behind setup t (world t) picked.state (keyed-selection setup.plan.universe sound t (world t).coarse s keyed);
      })

  walks : Same (moment_of (meaning_of setup) t slice (state_of setup s (world u))) (clock_moments.moment_of setup t (world t) s)
  walks = by (has_too_many (standing_of setup s (world u)) slice) refl over refl
    where
      by : (many : Bool) → has_too_many (standing_of setup s (world u)) slice ≡ many → (many_requests : Bool) → over ≡ many_requests
          → Same (moment_of (meaning_of setup) t slice (state_of setup s (world u))) (clock_moments.moment_of setup t (world t) s)
      by true is r r_is = walks-securities is
      by false is true r_is = walks-requests is r_is
      by false is false r_is = walks-plain is r_is

  -- a minute over what ends at it in the lists of the active feeds
  pub minute-walks : Walks setup (world t) (minute (meaning_of setup) lists t (state_of setup s (world u))) (clock_moments.moment_of setup t (world t) s)
  unfolding minute meaning_of
  minute-walks = walks
