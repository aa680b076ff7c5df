-- What a core stands for once the slice of a moment has arrived: the definition behind its selection.
use Rattle.std.proofs.Common.{◌≡◌, ℕ, ◌+◌, List, [], ◌∷◌, ◌++◌, false, refl, ap, sym, subst, ◌∙◌, arith}
use Rattle.std.specs.Prelude.{Option, Some, None, length, map, take, if◌then◌else◌, nat_lt}
use Rattle.std.specs.List.{AllByRecursion as Each}
use Rattle.std.specs.Option.{option_map_or}
use Rattle.std.proofs.lemmas.List.{append-nil, length-map}
use Rattle.lean_items.specs.declared.arrival.Arrival.{Arrival}
use Rattle.lean_items.specs.declared.coarse_row.CoarseRow.{CoarseRow}
use Rattle.rule_strategy.specs.declared.universe.UniversePlan.{UniversePlan}
use Rattle.universe_rules.specs.Selected.{selected}
use Rattle.universe_state.specs.Choice.{additions, room}
use Rattle.clock_steps.specs.Runs.{Ran, rests}
use Rattle.clock_book.specs.Seen.{AreNumbered}
use Rattle.clock_run.specs.Lines.{Line, Halt, too_many_securities}
use Rattle.clock_run.specs.Known.{Known}
use Rattle.clock_run.specs.States.{Setup, Subscription, State, actives, actives_of, numbered, joining, equity_key}
use Rattle.clock_run.specs.Moments.{marked_as, chosen, selection}
use Rattle.backtest_core.specs.Standing.{Followed, Standing, active_of, followed_of, standing_of}
use Rattle.backtest_core.specs.Inside.{Inside, bars_in, rows_in, with_bars, marked_so, inside, actives_in, choosing, choice, arrived_with, arrived, is_too_many, has_too_many, joining_all}
use Rattle.backtest_core.specs.Made.{TiesRows, AreNew, Ties}
use Rattle.backtest_core.proofs.PartLemmas.{Tracks, AreSilent, Joins}

heard-bars : (slice : List Arrival) (before known : Known) (xs : List Subscription)
    → Each (λ security. known.bars security.key ≡ before.bars security.key ++ bars_in slice security.active.feed.0) xs
    → map (with_bars slice) (map (followed_of before) xs) ≡ map (followed_of known) xs
heard-bars slice before known [] ties = refl
heard-bars slice before known (x ∷ xs) ties =
    ap (λ bars. record { security = x; bars = bars } ∷ map (with_bars slice) (map (followed_of before) xs)) (sym ties.0)
    ∙ ap (λ fs. followed_of known x ∷ fs) (heard-bars slice before known xs ties.1)

actives-map : (known : Known) (xs : List Subscription) → map active_of (map (followed_of known) xs) ≡ actives_of xs
actives-map known [] = refl
actives-map known (x ∷ xs) = ap (λ us. x.active ∷ us) (actives-map known xs)

marked-map : (symbols : List (List ℕ)) (known : Known) (xs : List Subscription)
    → map (marked_so symbols) (map (followed_of known) xs) ≡ map (followed_of known) (map (marked_as symbols) xs)
marked-map symbols known [] = refl
marked-map symbols known (x ∷ xs) = ap (λ fs. followed_of known (marked_as symbols x) ∷ fs) (marked-map symbols known xs)

joins-numbered : (universe : UniversePlan) (t n : ℕ) (ys : List (List ℕ)) → Joins n (map (joining universe t 0) ys) (numbered (joining universe t) n ys)
joins-numbered universe t n [] = tt
joins-numbered universe t n (y ∷ ys) = (refl, joins-numbered universe t (n + 1) ys)

new-bars : (universe : UniversePlan) (t : ℕ) (known : Known)
    → ((symbol : List ℕ) → known.bars (equity_key t symbol universe.resolution universe.fill) ≡ [])
    → (n : ℕ) (ys : List (List ℕ)) → Each (λ security. known.bars security.key ≡ []) (numbered (joining universe t) n ys)
new-bars universe t known fresh n [] = tt
new-bars universe t known fresh n (y ∷ ys) = (fresh y, new-bars universe t known fresh (n + 1) ys)

new-unmarked : (universe : UniversePlan) (t n : ℕ) (ys : List (List ℕ))
    → Each (λ security. security.active.marked ≡ false) (numbered (joining universe t) n ys)
new-unmarked universe t n [] = tt
new-unmarked universe t n (y ∷ ys) = (refl, new-unmarked universe t (n + 1) ys)

-- behind the arrival a core is at the state that the selection leaves
pub record Begins (universe : Option UniversePlan) (setup : Setup) (t n : ℕ) (known : Known) (i : Inside) (one : Ran State Line Halt) : Type 0 where
  pub old : List Subscription
  pub new : List Subscription
  pub silent : AreSilent known new
  pub tracks : Tracks setup t known old new i one.state
  pub lines : i.lines ≡ one.lines
  pub phase : i.phase ≡ None
  pub joins : Joins n (joining_all universe t i.news) new
  pub feeds : n + length (joining_all universe t i.news) ≡ one.state.feeds

none-joins : (universe : Option UniversePlan) (t n : ℕ) → Joins n (joining_all universe t []) []
none-joins None t n = tt
none-joins (Some universe) t n = tt

none-more : (universe : Option UniversePlan) (t n : ℕ) → n + length (joining_all universe t []) ≡ n
none-more None t n = omega arith
none-more (Some universe) t n = omega arith

-- a core that has heard its bars
abbrev heard : Standing → List Followed → Standing
heard v fs = record v { followed = fs }

module _ (setup : Setup) (t : ℕ) (known : Known) (s : State) (ids : AreNumbered 1 s.book.orders) (before : Known) where
  begin-rests : (universe : Option UniversePlan)
      → Begins universe setup t s.feeds known (inside t [] (heard (standing_of setup s before) (map (followed_of known) s.securities))) (rests s)
  begin-rests universe = record {
    old = s.securities;
    new = [];
    silent = record { bars = tt; marked = tt };
    tracks = record {
      securities = sym (append-nil s.securities);
      followed = refl;
      seen = refl;
      requests = refl;
      setup_is = refl;
      at = refl;
      numbered = ids;
    };
    lines = refl;
    phase = refl;
    joins = none-joins universe t s.feeds;
    feeds = none-more universe t s.feeds;
  }

  begin-chosen : (universe : UniversePlan) (symbols : List (List ℕ))
      → ((symbol : List ℕ) → known.bars (equity_key t symbol universe.resolution universe.fill) ≡ [])
      → Begins (Some universe) setup t s.feeds known
      (choosing t symbols (heard (standing_of setup s before) (map (followed_of known) s.securities))) (chosen universe t symbols s)
  begin-chosen universe symbols fresh =
      let old = map (marked_as symbols) s.securities in
      let news = take (room (actives s)) (additions symbols (actives s)) in
      let target = inside t news (heard (standing_of setup s before) (map (followed_of known) old)) in
      let same : choosing t symbols (heard (standing_of setup s before) (map (followed_of known) s.securities)) ≡ target =
      λ j. inside t (take (room (actives-map known s.securities j)) (additions symbols (actives-map known s.securities j)))
      (heard (standing_of setup s before) (marked-map symbols known s.securities j)) in
      subst (λ i. Begins (Some universe) setup t s.feeds known i (chosen universe t symbols s)) (sym same)
      (record {
        old = old;
        new = numbered (joining universe t) s.feeds news;
        silent = record { bars = new-bars universe t known fresh s.feeds news; marked = new-unmarked universe t s.feeds news };
        tracks = record {
          securities = refl;
          followed = refl;
          seen = refl;
          requests = refl;
          setup_is = refl;
          at = refl;
          numbered = ids;
        };
        lines = refl;
        phase = refl;
        joins = joins-numbered universe t s.feeds news;
        feeds = ap (λ n. s.feeds + n) (length-map news (joining universe t 0));
      })

  begin-some : (universe : UniversePlan)
      → ((symbol : List ℕ) → known.bars (equity_key t symbol universe.resolution universe.fill) ≡ []) → (rows : List CoarseRow)
      → Begins (Some universe) setup t s.feeds known
      (arrived_with t (choice (Some universe) rows) (heard (standing_of setup s before) (map (followed_of known) s.securities)))
      (selection (Some universe) t rows s)
  begin-some universe fresh [] = begin-rests (Some universe)
  begin-some universe fresh (row ∷ rows) = begin-chosen universe (selected (row ∷ rows) universe.rule) fresh

  begin-all : (universe : Option UniversePlan) (rows known_rows : List CoarseRow) → TiesRows universe rows known_rows → AreNew universe t known
      → Begins universe setup t s.feeds known
      (arrived_with t (choice universe rows) (heard (standing_of setup s before) (map (followed_of known) s.securities)))
      (selection universe t known_rows s)
  begin-all None rows known_rows ties fresh = begin-rests None
  begin-all (Some universe) rows known_rows ties fresh =
      subst (λ rows. Begins (Some universe) setup t s.feeds known
      (arrived_with t (choice (Some universe) rows) (heard (standing_of setup s before) (map (followed_of known) s.securities)))
      (selection (Some universe) t known_rows s))
      (sym ties) (begin-some universe fresh known_rows)

pub begins : (setup : Setup) (t : ℕ) (before known : Known) (slice : List Arrival) (s : State) → Ties setup t before known slice s
    → Begins setup.plan.universe setup t s.feeds known (arrived t slice (standing_of setup s before))
    (selection setup.plan.universe t known.coarse s)
begins setup t before known slice s ties =
    subst (λ fs. Begins setup.plan.universe setup t s.feeds known
    (arrived_with t (choice setup.plan.universe (rows_in slice)) (heard (standing_of setup s before) fs))
    (selection setup.plan.universe t known.coarse s))
    (sym (heard-bars slice before known s.securities ties.bars))
    (begin-all setup t known s ties.numbered before setup.plan.universe (rows_in slice) known.coarse ties.rows ties.fresh)

-- the limit of securities
too-many-of : (s : State) (v : Standing) → actives_in v ≡ actives s → (universe : Option UniversePlan) (t : ℕ) (rows : List CoarseRow)
    → (selection universe t rows s).stop
    ≡ (if option_map_or (is_too_many v) (choice universe rows) false then Some too_many_securities else None)
too-many-of s v same None t rows = refl
too-many-of s v same (Some universe) t [] = refl
too-many-of s v same (Some universe) t (row ∷ rows) =
    let symbols = selected (row ∷ rows) universe.rule in
    ap (λ us. if nat_lt (room us) (length (additions symbols us)) then Some too_many_securities else None) (sym same)

too-many-rows : (s : State) (v : Standing) → actives_in v ≡ actives s → (universe : Option UniversePlan) (t : ℕ) (rows known_rows : List CoarseRow)
    → TiesRows universe rows known_rows
    → (selection universe t known_rows s).stop
    ≡ (if option_map_or (is_too_many v) (choice universe rows) false then Some too_many_securities else None)
too-many-rows s v same None t rows known_rows ties = refl
too-many-rows s v same (Some universe) t rows known_rows ties =
    too-many-of s v same (Some universe) t known_rows
    ∙ ap (λ rows. if option_map_or (is_too_many v) (choice (Some universe) rows) false then Some too_many_securities else None) (sym ties)

pub too-many : (setup : Setup) (t : ℕ) (before known : Known) (slice : List Arrival) (s : State) → Ties setup t before known slice s
    → (selection setup.plan.universe t known.coarse s).stop
    ≡ (if has_too_many (standing_of setup s before) slice then Some too_many_securities else None)
too-many setup t before known slice s ties =
    too-many-rows s (standing_of setup s before) (actives-map before s.securities) setup.plan.universe t (rows_in slice) known.coarse ties.rows
