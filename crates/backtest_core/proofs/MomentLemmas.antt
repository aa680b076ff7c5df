-- A whole moment of a core, and the moment of the definition in its parts.
use Rattle.std.proofs.Common.{◌≡◌, ℕ, ◌+◌, ◌-◌, List, [], ◌∷◌, ◌++◌, Bool, true, false, refl, ap, sym, subst, ◌∙◌}
use Rattle.std.specs.Prelude.{Option, Some, None, if◌then◌else◌, length, nat_lt}
use Rattle.std.proofs.lemmas.List.{append-nil, append_assoc}
use Rattle.lean_items.specs.declared.arrival.Arrival.{Arrival}
use Rattle.exchange_hours.specs.Entries.{Entries}
use Rattle.exchange_hours.specs.Grid.{is_closing}
use Rattle.exchange_hours.specs.Sessions.{moment}
use Rattle.lean_orders.specs.declared.desk.Command.TheVariants.{Account}
use Rattle.clock_steps.specs.Runs.{Ran, rests, behind, before}
use Rattle.clock_steps.proofs.RunLemmas.{before-rests}
use Rattle.clock_book.specs.Seen.{seen_of}
use Rattle.clock_run.specs.Lines.{Line, Halt, too_many_requests}
use Rattle.clock_run.specs.Known.{Known}
use Rattle.clock_run.specs.States.{Setup, State, active_keys}
use Rattle.clock_run.specs.Histories.{histories}
use Rattle.clock_run.specs.Requests.{requests}
use Rattle.clock_run.specs.Moments.{in_turn, selection, served, prices, most_requests, trading, closing, removals, first_refused, refusal, moment_of}
use Rattle.backtest_core.specs.declared.phase.Phase.{Phase}
use Rattle.backtest_core.specs.declared.phase.Phase.TheVariants.{Prices, Rules, Close}
use Rattle.backtest_core.specs.Standing.{standing_of, named_all}
use Rattle.backtest_core.specs.Inside.{Inside, begins, arrived, is_over_in, joining_all, closed, lines_closed}
use Rattle.backtest_core.specs.Whole.{through}
use Rattle.backtest_core.specs.Served.{Serves}
use Rattle.backtest_core.specs.Made.{Ties, priced, traded_on, closed_on, left_behind, lines_behind, core_behind}
use Rattle.backtest_core.proofs.PhaseLemmas.{IsBefore}
use Rattle.backtest_core.proofs.PartLemmas.{Joins, prices-pass, prices-served, trading-pass, trading-served, closing-pass, closing-served, over-is, closed-lines, closed-standing}
use Rattle.backtest_core.proofs.StartLemmas.{Begins, begins as begins_at}

five-parts : {A : Type 0} (a b c d e : List A) → (((a ++ b) ++ c) ++ d) ++ e ≡ a ++ (((b ++ c) ++ d) ++ e)
five-parts a b c d e =
    ap (λ x. ((x ++ c) ++ d) ++ e) refl
    ∙ (ap (λ x. (x ++ d) ++ e) (append_assoc a b c)
    ∙ (ap (λ x. x ++ e) (append_assoc a (b ++ c) d)
    ∙ append_assoc a ((b ++ c) ++ d) e))

is-before : (phase : Phase) (i : Inside) (other : Option Phase) → i.phase ≡ other → begins phase other ≡ true → IsBefore phase i
is-before phase i other is before = ap (begins phase) is ∙ before

-- what a core does over one moment
pub record Makes (setup : Setup) (t : ℕ) (known : Known) (n : ℕ) (i : Inside) (s : State) : Type 0 where
  pub lines : lines_closed (core_behind setup t known s i) ≡ i.lines ++ lines_behind setup t known s
  pub stands : named_all n (closed (core_behind setup t known s i)).waiting (closed (core_behind setup t known s i))
      ≡ standing_of setup (left_behind setup t known s) known
  pub over : is_over_in Rules (through Prices s.book i)
      ≡ nat_lt (most_requests - (priced t known s).requests)
      (length (requests setup.plan.rules (seen_of (priced t known s).book) t (histories known (priced t known s))))
  pub traded : (through Rules (priced t known s).book (through Prices s.book i)).lines
      ≡ i.lines ++ ((prices t known s).lines ++ (trading setup t known (priced t known s)).lines)
  pub serves : Serves setup t known s i
  pub feeds : n + length (closed (core_behind setup t known s i)).waiting ≡ (left_behind setup t known s).feeds

closing-feeds : (hours : Entries) (t : ℕ) (s : State) → (closing hours t s).state.feeds ≡ s.feeds
closing-feeds hours t s = by (is_closing hours t)
  where
    by : (b : Bool) → (if b then served t (Account (moment t) ∷ []) s else rests s).state.feeds ≡ s.feeds
    by true = refl
    by false = refl

pub makes : (setup : Setup) (t n : ℕ) (known : Known) (i : Inside) (one : Ran State Line Halt)
    → Begins setup.plan.universe setup t n known i one → Makes setup t known n i one.state
makes setup t n known i one b =
    let s = one.state in
    let p1 = prices-pass setup t known b.old b.new b.silent i s (is-before Prices i None b.phase refl) b.tracks in
    let i1 = through Prices s.book i in
    let s1 = priced t known s in
    let p2 = trading-pass setup t known b.old b.new b.silent i1 s1 (is-before Rules i1 (Some Prices) p1.phase_is refl) p1.tracks in
    let i2 = through Rules s1.book i1 in
    let s2 = traded_on setup t known s in
    let p3 = closing-pass setup t known b.old b.new b.silent i2 s2 (is-before Close i2 (Some Rules) p2.phase_is refl) p2.tracks in
    let i3 = through Close s2.book i2 in
    let s3 = closed_on setup t known s in
    let priced_lines = (prices t known s).lines in
    let traded_lines = (trading setup t known s1).lines in
    let closed_lines = (closing setup.hours t s2).lines in
    let removed_lines = (removals t s3).lines in
    let lines : i3.lines ≡ ((i.lines ++ priced_lines) ++ traded_lines) ++ closed_lines =
    p3.lines_are
    ∙ (ap (λ ls. ls ++ closed_lines) p2.lines_are
    ∙ ap (λ ls. (ls ++ traded_lines) ++ closed_lines) p1.lines_are) in
    let news : i3.news ≡ i.news = p3.news_are ∙ (p2.news_are ∙ p1.news_are) in
    let waiting : (closed i3).waiting ≡ joining_all setup.plan.universe t i.news =
    ap (λ setup. joining_all setup.plan.universe i3.at i3.news) p3.tracks.setup_is
    ∙ (ap (λ at. joining_all setup.plan.universe at i3.news) p3.tracks.at
    ∙ ap (joining_all setup.plan.universe t) news) in
    record {
      lines = closed-lines setup t known b.old b.new b.silent i3 s3 p3.tracks
          ∙ (ap (λ ls. ls ++ removed_lines) lines
          ∙ five-parts i.lines priced_lines traded_lines closed_lines removed_lines);
      stands = closed-standing setup t known b.old b.new b.silent i3 s3 n p3.tracks
          (subst (λ ws. Joins n ws b.new) (sym waiting) b.joins);
      feeds = ap (λ ws. n + length ws) waiting ∙ (b.feeds ∙ sym (closing-feeds setup.hours t s2));
      over = over-is setup t known b.old b.new b.silent i1 s1 p1.tracks;
      traded = p2.lines_are ∙ ap (λ ls. ls ++ traded_lines) p1.lines_are
          ∙ append_assoc i.lines priced_lines traded_lines;
      serves = record {
        prices = prices-served setup t known b.old b.new b.silent i s (is-before Prices i None b.phase refl) b.tracks;
        rules = trading-served setup t known b.old b.new b.silent i1 s1 (is-before Rules i1 (Some Prices) p1.phase_is refl) p1.tracks;
        close = closing-served setup t known b.old b.new b.silent i2 s2 (is-before Close i2 (Some Rules) p2.phase_is refl) p2.tracks;
      };
    }

pub makes-lines : (setup : Setup) (t : ℕ) (before known : Known) (slice : List Arrival) (s : State) → Ties setup t before known slice s
    → lines_closed (core_behind setup t known (selection setup.plan.universe t known.coarse s).state (arrived t slice (standing_of setup s before)))
    ≡ (selection setup.plan.universe t known.coarse s).lines ++ lines_behind setup t known (selection setup.plan.universe t known.coarse s).state
makes-lines setup t before known slice s ties =
    let b = begins_at setup t before known slice s ties in
    let one = selection setup.plan.universe t known.coarse s in
    (makes setup t s.feeds known (arrived t slice (standing_of setup s before)) one b).lines
    ∙ ap (λ ls. ls ++ lines_behind setup t known one.state) b.lines

pub makes-standing : (setup : Setup) (t : ℕ) (before known : Known) (slice : List Arrival) (s : State) → Ties setup t before known slice s
    → named_all s.feeds
    (closed (core_behind setup t known (selection setup.plan.universe t known.coarse s).state (arrived t slice (standing_of setup s before)))).waiting
    (closed (core_behind setup t known (selection setup.plan.universe t known.coarse s).state (arrived t slice (standing_of setup s before))))
    ≡ standing_of setup (left_behind setup t known (selection setup.plan.universe t known.coarse s).state) known
makes-standing setup t before known slice s ties =
    (makes setup t s.feeds known (arrived t slice (standing_of setup s before)) (selection setup.plan.universe t known.coarse s)
    (begins_at setup t before known slice s ties)).stands

pub limit-of-requests : (setup : Setup) (t : ℕ) (before known : Known) (slice : List Arrival) (s : State) → Ties setup t before known slice s
    → (trading setup t known (priced t known (selection setup.plan.universe t known.coarse s).state)).stop
    ≡ (if is_over_in Rules (through Prices (selection setup.plan.universe t known.coarse s).state.book (arrived t slice (standing_of setup s before)))
    then Some too_many_requests else None)
limit-of-requests setup t before known slice s ties =
    let one = selection setup.plan.universe t known.coarse s in
    ap (λ over. if over then Some too_many_requests else None)
    (sym (makes setup t s.feeds known (arrived t slice (standing_of setup s before)) one (begins_at setup t before known slice s ties)).over)

pub makes-traded : (setup : Setup) (t : ℕ) (before known : Known) (slice : List Arrival) (s : State) → Ties setup t before known slice s
    → (through Rules (priced t known (selection setup.plan.universe t known.coarse s).state).book
    (through Prices (selection setup.plan.universe t known.coarse s).state.book (arrived t slice (standing_of setup s before)))).lines
    ≡ (selection setup.plan.universe t known.coarse s).lines
    ++ ((prices t known (selection setup.plan.universe t known.coarse s).state).lines
    ++ (trading setup t known (priced t known (selection setup.plan.universe t known.coarse s).state)).lines)
makes-traded setup t before known slice s ties =
    let b = begins_at setup t before known slice s ties in
    let one = selection setup.plan.universe t known.coarse s in
    (makes setup t s.feeds known (arrived t slice (standing_of setup s before)) one b).traded
    ∙ ap (λ ls. ls ++ ((prices t known one.state).lines ++ (trading setup t known (priced t known one.state)).lines)) b.lines

pub makes-served : (setup : Setup) (t : ℕ) (before known : Known) (slice : List Arrival) (s : State) → Ties setup t before known slice s
    → Serves setup t known (selection setup.plan.universe t known.coarse s).state (arrived t slice (standing_of setup s before))
makes-served setup t before known slice s ties =
    (makes setup t s.feeds known (arrived t slice (standing_of setup s before)) (selection setup.plan.universe t known.coarse s)
    (begins_at setup t before known slice s ties)).serves

pub makes-feeds : (setup : Setup) (t : ℕ) (before known : Known) (slice : List Arrival) (s : State) → Ties setup t before known slice s
    → s.feeds + length (closed (core_behind setup t known (selection setup.plan.universe t known.coarse s).state (arrived t slice (standing_of setup s before)))).waiting
    ≡ (left_behind setup t known (selection setup.plan.universe t known.coarse s).state).feeds
makes-feeds setup t before known slice s ties =
    (makes setup t s.feeds known (arrived t slice (standing_of setup s before)) (selection setup.plan.universe t known.coarse s)
    (begins_at setup t before known slice s ties)).feeds

-- the definition in its parts
module _ {S L Z : Type 0} where
  before-none : (first : Ran S L Z) (later : S → Ran S L Z) → first.stop ≡ None → before first later ≡ behind first.lines (later first.state)
  before-none first later none = ap (λ z. before (record { lines = first.lines; state = first.state; stop = z }) later) none

  before-some : (first : Ran S L Z) (later : S → Ran S L Z) (z : Z) → first.stop ≡ Some z → before first later ≡ first
  before-some first later z some =
      ap (λ z. before (record { lines = first.lines; state = first.state; stop = z }) later) some
      ∙ (λ j. record { lines = first.lines; state = first.state; stop = sym some j })

closing-goes : (hours : Entries) (t : ℕ) (s : State) → (closing hours t s).stop ≡ None
closing-goes hours t s = by (is_closing hours t)
  where
    by : (b : Bool) → (if b then served t (Account (moment t) ∷ []) s else rests s).stop ≡ None
    by true = refl
    by false = refl

last-parts : {A : Type 0} (b c d e : List A) → b ++ (c ++ (d ++ (e ++ []))) ≡ ((b ++ c) ++ d) ++ e
last-parts b c d e =
    ap (λ x. b ++ (c ++ (d ++ x))) (append-nil e)
    ∙ (ap (λ x. b ++ x) (sym (append_assoc c d e))
    ∙ (sym (append_assoc b (c ++ d) e)
    ∙ ap (λ x. x ++ e) (sym (append_assoc b c d))))

pub in-parts : (setup : Setup) (t : ℕ) (known : Known) (s : State)
    → (selection setup.plan.universe t known.coarse s).stop ≡ None
    → (trading setup t known (priced t known (selection setup.plan.universe t known.coarse s).state)).stop ≡ None
    → moment_of setup t known s ≡ record {
      lines = (selection setup.plan.universe t known.coarse s).lines ++ lines_behind setup t known (selection setup.plan.universe t known.coarse s).state;
      state = left_behind setup t known (selection setup.plan.universe t known.coarse s).state;
      stop = first_refused known (active_keys setup.plan (left_behind setup t known (selection setup.plan.universe t known.coarse s).state));
    }
unfolding moment_of
in-parts setup t known s chosen traded =
    let one = selection setup.plan.universe t known.coarse s in
    let of_refusal = refusal setup known ∷ [] in
    let of_removals = removals t ∷ of_refusal in
    let of_closing = closing setup.hours t ∷ of_removals in
    let of_trading = trading setup t known ∷ of_closing in
    let of_prices = prices t known ∷ of_trading in
    let s0 = one.state in
    let s1 = priced t known s0 in
    let s2 = traded_on setup t known s0 in
    let s3 = closed_on setup t known s0 in
    let s4 = left_behind setup t known s0 in
    let e5 : in_turn of_refusal s4 ≡ refusal setup known s4 = before-rests (refusal setup known s4) in
    let e4 : in_turn of_removals s3 ≡ behind (removals t s3).lines (refusal setup known s4) =
    ap (behind (removals t s3).lines) e5 in
    let e3 : in_turn of_closing s2 ≡ behind (closing setup.hours t s2).lines (behind (removals t s3).lines (refusal setup known s4)) =
    before-none (closing setup.hours t s2) (in_turn of_removals) (closing-goes setup.hours t s2)
    ∙ ap (behind (closing setup.hours t s2).lines) e4 in
    let e2 : in_turn of_trading s1 ≡ behind (trading setup t known s1).lines (behind (closing setup.hours t s2).lines (behind (removals t s3).lines (refusal setup known s4))) =
    before-none (trading setup t known s1) (in_turn of_closing) traded
    ∙ ap (behind (trading setup t known s1).lines) e3 in
    let e1 : in_turn of_prices s0 ≡ behind (prices t known s0).lines (behind (trading setup t known s1).lines (behind (closing setup.hours t s2).lines (behind (removals t s3).lines (refusal setup known s4)))) =
    ap (behind (prices t known s0).lines) e2 in
    before-none one (in_turn of_prices) chosen
    ∙ (ap (behind one.lines) e1
    ∙ (λ j. record {
      lines = one.lines ++ last-parts (prices t known s0).lines (trading setup t known s1).lines (closing setup.hours t s2).lines (removals t s3).lines j;
      state = s4;
      stop = first_refused known (active_keys setup.plan s4);
    }))

pub halted-securities : (setup : Setup) (t : ℕ) (known : Known) (s : State) (halt : Halt)
    → (selection setup.plan.universe t known.coarse s).stop ≡ Some halt
    → moment_of setup t known s ≡ selection setup.plan.universe t known.coarse s
unfolding moment_of
halted-securities setup t known s halt stopped =
    before-some (selection setup.plan.universe t known.coarse s)
    (in_turn (prices t known ∷ trading setup t known ∷ closing setup.hours t ∷ removals t ∷ refusal setup known ∷ [])) halt stopped

pub halted-requests : (setup : Setup) (t : ℕ) (known : Known) (s : State) (halt : Halt)
    → (selection setup.plan.universe t known.coarse s).stop ≡ None
    → (trading setup t known (priced t known (selection setup.plan.universe t known.coarse s).state)).stop ≡ Some halt
    → moment_of setup t known s ≡ record {
      lines = (selection setup.plan.universe t known.coarse s).lines
          ++ ((prices t known (selection setup.plan.universe t known.coarse s).state).lines
          ++ (trading setup t known (priced t known (selection setup.plan.universe t known.coarse s).state)).lines);
      state = traded_on setup t known (selection setup.plan.universe t known.coarse s).state;
      stop = Some halt;
    }
unfolding moment_of
halted-requests setup t known s halt chosen stopped =
    let one = selection setup.plan.universe t known.coarse s in
    let of_closing = closing setup.hours t ∷ removals t ∷ refusal setup known ∷ [] in
    let of_trading = trading setup t known ∷ of_closing in
    let of_prices = prices t known ∷ of_trading in
    let s0 = one.state in
    let s1 = priced t known s0 in
    let e2 : in_turn of_trading s1 ≡ trading setup t known s1 =
    before-some (trading setup t known s1) (in_turn of_closing) halt stopped in
    let e1 : in_turn of_prices s0 ≡ behind (prices t known s0).lines (trading setup t known s1) =
    ap (behind (prices t known s0).lines) e2 in
    before-none one (in_turn of_prices) chosen
    ∙ (ap (behind one.lines) e1
    ∙ (λ j. record {
      lines = one.lines ++ ((prices t known s0).lines ++ (trading setup t known s1).lines);
      state = traded_on setup t known s0;
      stop = stopped j;
    }))
