-- A phase of an algorithm that was played whole: where its core stands, and what the next phase begins with.
use Rattle.std.proofs.Common.{◌≡◌, List, [], ◌++◌, true, refl, ap, sym, subst, ◌∙◌, arith, inl, inr}
use Rattle.std.specs.Prelude.{◌⊎◌, Option, Some, None, length, map, filter_map}
use Rattle.std.specs.List.{fold}
use Rattle.std.proofs.lemmas.List.{append-nil}
use Rattle.std.proofs.lemmas.List.Concat.{flat_map-append}
use Rattle.lean_orders.specs.declared.desk.Command.{Command}
use Rattle.lean_orders.specs.declared.desk.Reply.{Reply}
use Rattle.clock_book.specs.Handled.{replies}
use Rattle.clock_book.specs.Seen.{given_out, learnt}
use Rattle.clock_run.specs.Lines.{line_bytes}
use Rattle.clock_run.specs.Moments.{told, equity_told}
use Rattle.clock_run.specs.Orderly.{NumbersRise}
use Rattle.clock_run.specs.States.{Setup, coarse_keys}
use Rattle.report_stats.specs.Stands.{StandsFor as StatsStand}
use Rattle.backtest_core.specs.declared.phase.Phase as core
use Rattle.backtest_core.specs.declared.phase.Phase.TheVariants as core_phase
use Rattle.backtest_core.specs.declared.standing.Core.{Core}
use Rattle.backtest_core.specs.Standing.{Followed}
use Rattle.backtest_core.specs.Inside.{Inside, begins, commands_of, is_over_in}
use Rattle.backtest_core.specs.Core.{StandsIn}
use Rattle.backtest_core.specs.Text.{lines_bytes}
use Rattle.backtest_core.specs.Whole.{given_all}
use Rattle.backtest_core.proofs.PhaseLemmas.{entered-is}
use Rattle.backtest_engine.specs.declared.algorithm.Algorithm.{Algorithm}
use Rattle.backtest_engine.specs.declared.phase.Phase.{Phase}
use Rattle.backtest_engine.specs.declared.phase.Phase.TheVariants.{Prices, Rules, Close}
use Rattle.backtest_engine.specs.Algorithms.{Own, plan_of, core_phase_of, unphased, subscribed, begun, meaning_of}
use Rattle.backtest_engine.specs.Meaning.{Subscription, Meaning}
use Rattle.backtest_engine.specs.Playing.{Waits, Plays, Within, behind_all}
use Rattle.backtest_engine.specs.Turns.{Turn, HasNext, next_phase, numbered, IsFinished, text_after, turn_after}
use Rattle.backtest_engine.specs.BookLemmas.{few-after, ranged-after, seen-after}
use Rattle.backtest_engine.specs.InsideLemmas.{Frame, frame, given-frame, given-lines, given-seen, given-none, heard-frame, heard-seen, heard-lines, heard-none}

-- what is known behind some commands of a phase and some replies
pub record Behind (p : Phase) (own : Own) (cs : List Command) (rs : List Reply) : Type 0 where
  pub framed : frame (behind_all p own cs rs) ≡ frame (begun p own)
  pub at : (behind_all p own cs rs).at ≡ own.inside.at
  pub setup : (behind_all p own cs rs).standing.setup ≡ own.inside.standing.setup
  pub followed : (behind_all p own cs rs).standing.followed ≡ own.inside.standing.followed
  pub phase : (behind_all p own cs rs).phase ≡ Some (core_phase_of p)
  pub lines : (behind_all p own cs rs).lines ≡ own.inside.lines ++ filter_map (told own.inside.at) rs
  pub seen : (behind_all p own cs rs).standing.seen ≡ fold learnt (fold given_out own.inside.standing.seen cs) rs

abbrev pub entering : Phase → Own → Inside
entering p own = record own.inside {
  phase = Some (core_phase_of p);
  left = commands_of (core_phase_of p) own.inside;
  over = is_over_in (core_phase_of p) own.inside;
}

-- no phase has begun in an algorithm's own state
pub unbegun : (own : Own) → unphased own.inside ≡ own.inside → own.inside.phase ≡ None
unbegun own clean = sym (ap (λ (i : Inside). i.phase) clean)

pub begun-is : (p : Phase) (own : Own) → unphased own.inside ≡ own.inside → begun p own ≡ entering p own
begun-is p own clean =
    entered-is (core_phase_of p) own.inside (ap (λ phase. begins (core_phase_of p) phase) (unbegun own clean))

pub behind-is : (p : Phase) (own : Own) (cs more : List Command) (rs : List Reply) → unphased own.inside ≡ own.inside
    → (begun p own).left ≡ cs ++ more → Behind p own cs rs
behind-is p own cs more rs clean split =
    let i = begun p own in
    let e = begun-is p own clean in
    let framed : frame (behind_all p own cs rs) ≡ frame i = heard-frame rs (given_all cs i) ∙ given-frame cs i in
    let same : frame (behind_all p own cs rs) ≡ frame (entering p own) = framed ∙ ap frame e in
    let at : (given_all cs i).at ≡ own.inside.at = ap (λ (k : Frame). k.at) (given-frame cs i ∙ ap frame e) in
    record {
      framed = framed;
      at = ap (λ (k : Frame). k.at) same;
      setup = ap (λ (k : Frame). k.setup) same;
      followed = ap (λ (k : Frame). k.followed) same;
      phase = ap (λ (k : Frame). k.phase) same;
      lines = heard-lines rs (given_all cs i)
          ∙ (ap (λ ls. ls ++ filter_map (told (given_all cs i).at) rs) (given-lines cs i ∙ ap (λ (j : Inside). j.lines) e)
          ∙ ap (λ n. own.inside.lines ++ filter_map (told n) rs) at);
      seen = heard-seen rs (given_all cs i)
          ∙ ap (λ seen. fold learnt seen rs) (given-seen cs more i split ∙ ap (λ (j : Inside). fold given_out j.standing.seen cs) e);
    }

-- where the core stands behind a whole phase: nothing but the phase may be another
pub record Reached (core : Core) (p : Phase) (x : Inside) : Type 0 where
  pub inside : Inside
  pub stands : StandsIn core inside
  pub is : unphased inside ≡ unphased x
  pub next : HasNext p → begins (core_phase_of (next_phase p)) inside.phase ≡ true

begins-on : (p : Phase) (phase : Option core.Phase) → HasNext p → begins (core_phase_of p) phase ≡ true
    → begins (core_phase_of (next_phase p)) phase ≡ true
begins-on Prices None has before = refl
begins-on Prices (Some core_phase.Prices) has before = refl
begins-on Prices (Some core_phase.Rules) has before = before
begins-on Prices (Some core_phase.Close) has before = before
begins-on Rules None has before = refl
begins-on Rules (Some core_phase.Prices) has before = refl
begins-on Rules (Some core_phase.Rules) has before = refl
begins-on Rules (Some core_phase.Close) has before = before
begins-on Close phase has before = absurd has

begins-behind : (p : Phase) → HasNext p → begins (core_phase_of (next_phase p)) (Some (core_phase_of p)) ≡ true
begins-behind Prices has = refl
begins-behind Rules has = refl
begins-behind Close has = absurd has

waits-reach : (core : Core) (p : Phase) (own : Own) (cs : List Command) (rs : List Reply) → unphased own.inside ≡ own.inside
    → Waits core p own cs rs → Reached core p (behind_all p own cs rs)
waits-reach core p own cs rs clean w =
    let still : behind_all p own cs rs ≡ begun p own =
    ap (λ rs. behind_all p own cs rs) w.silent
    ∙ (ap (λ cs. behind_all p own cs []) w.none ∙ (heard-none (given_all [] (begun p own)) ∙ given-none (begun p own))) in
    record {
      inside = w.inside;
      stands = w.stands;
      is = w.is ∙ (sym clean ∙ sym (ap unphased (still ∙ begun-is p own clean)));
      next = λ has. begins-on p w.inside.phase has w.before;
    }

pub reached : (a : Algorithm) (turn : Turn Own) (cs : List Command) (rs : List Reply) (more : List Command)
    → unphased turn.state.own.inside ≡ turn.state.own.inside → (begun turn.phase turn.state.own).left ≡ cs ++ more
    → Waits a.core turn.phase turn.state.own cs rs ⊎ StandsIn a.core (behind_all turn.phase turn.state.own cs rs)
    → Reached a.core turn.phase (behind_all turn.phase turn.state.own cs rs)
reached a turn cs rs more clean split (inl waits) = waits-reach a.core turn.phase turn.state.own cs rs clean waits
reached a turn cs rs more clean split (inr stands) = record {
  inside = behind_all turn.phase turn.state.own cs rs;
  stands = stands;
  is = refl;
  next = λ has. ap (λ phase. begins (core_phase_of (next_phase turn.phase)) phase)
      (behind-is turn.phase turn.state.own cs more rs clean split).phase ∙ begins-behind turn.phase has;
}

-- a whole phase of an algorithm: all commands, and all replies to them
abbrev pub all_of : Turn Own → List Command
all_of turn = (begun turn.phase turn.state.own).left

abbrev pub heard_of : Turn Own → List Reply
heard_of turn = replies turn.state.book (all_of turn)

pub finished : (setup : Setup) (a : Algorithm) (turn : Turn Own) (cs : List Command) (rs : List Reply)
    → Within a (meaning_of setup) turn cs rs → IsFinished (meaning_of setup) turn cs rs
    → Within a (meaning_of setup) turn (all_of turn) (heard_of turn)
unfolding meaning_of
finished setup a turn cs rs w f =
    let all : Within a (meaning_of setup) turn cs (replies turn.state.book cs) = subst (λ rs. Within a (meaning_of setup) turn cs rs) f.heard w in
    subst (λ cs. Within a (meaning_of setup) turn cs (replies turn.state.book cs)) f.given all

pub plays-all : (m : Meaning Own) (a : Algorithm) (turn : Turn Own) → Within a m turn (all_of turn) (heard_of turn) → Plays a turn (all_of turn) (heard_of turn)
plays-all m a turn w = w.plays [] (sym (append-nil (heard_of turn)))

pub reached-all : (m : Meaning Own) (a : Algorithm) (turn : Turn Own) → Within a m turn (all_of turn) (heard_of turn)
    → Reached a.core turn.phase (behind_all turn.phase turn.state.own (all_of turn) (heard_of turn))
reached-all m a turn w =
    let p = plays-all m a turn w in
    reached a turn (all_of turn) (heard_of turn) _ w.clean p.split p.core

pub behind-whole : (m : Meaning Own) (a : Algorithm) (turn : Turn Own) → Within a m turn (all_of turn) (heard_of turn)
    → Behind turn.phase turn.state.own (all_of turn) (heard_of turn)
behind-whole m a turn w = behind-is turn.phase turn.state.own (all_of turn) _ (heard_of turn) w.clean (plays-all m a turn w).split

-- the subscriptions of a setup and of some securities
abbrev actives : Setup → List Followed → List Subscription
actives setup fs = numbered 0 (coarse_keys setup.plan) ++ map subscribed fs

-- the lines of the phases so far
pub lines-on : (m : Meaning Own) (a : Algorithm) (turn : Turn Own) → Within a m turn (all_of turn) (heard_of turn)
    → turn.text ++ lines_bytes (filter_map (told turn.state.own.inside.at) (heard_of turn))
    ≡ lines_bytes (behind_all turn.phase turn.state.own (all_of turn) (heard_of turn)).lines
lines-on m a turn w =
    ap (λ text. text ++ lines_bytes (filter_map (told turn.state.own.inside.at) (heard_of turn))) w.text
    ∙ (sym (flat_map-append line_bytes turn.state.own.inside.lines (filter_map (told turn.state.own.inside.at) (heard_of turn)))
    ∙ ap lines_bytes (sym (behind-whole m a turn w).lines))

-- behind a phase the next one is played
pub passed : (setup : Setup) (a : Algorithm) (turn : Turn Own) → Within a (meaning_of setup) turn (all_of turn) (heard_of turn)
    → HasNext turn.phase → Within a (meaning_of setup) (turn_after (meaning_of setup) turn) [] []
unfolding meaning_of
passed setup a turn w has =
    let m = meaning_of setup in
    let cs = all_of turn in
    let rs = heard_of turn in
    let own = turn.state.own in
    let x = behind_all turn.phase own cs rs in
    let b = behind-whole m a turn w in
    let r = reached-all m a turn w in
    let p = plays-all m a turn w in
    let few = few-after turn.state.book cs w.ranged w.fitting (omega (arith, w.room)) in
    let kept = λ (k : Frame). actives k.setup k.followed in
    record {
      setup = w.setup;
      means = w.means;
      its = b.setup ∙ w.its;
      hours = w.hours;
      at = b.at ∙ w.at;
      clean = refl;
      printed = w.printed;
      now = w.now;
      text = lines-on m a turn w;
      active = ap (λ setup. actives setup x.standing.followed) b.setup
          ∙ (ap (λ fs. actives own.inside.standing.setup fs) b.followed ∙ w.active);
      feeds = w.feeds;
      numbers = subst (λ (s : Setup). NumbersRise (length (coarse_keys s.plan)) own.feeds (map (λ f. f.security) x.standing.followed)) (sym b.setup)
          (subst (λ fs. NumbersRise (length (coarse_keys (plan_of own))) own.feeds (map (λ (f : Followed). f.security) fs)) (sym b.followed) w.numbers);
      seen = b.seen ∙ (ap (λ seen. fold learnt (fold given_out seen cs) rs) w.seen ∙ seen-after turn.state.book cs w.ranged);
      ranged = ranged-after turn.state.book cs w.ranged w.fitting (omega (arith, w.room));
      fitting = tt;
      time = tt;
      room = omega (arith, w.room, few);
      plays = λ rest is. record {
        core = inl (record {
          none = refl;
          silent = refl;
          inside = r.inside;
          stands = r.stands;
          is = r.is;
          before = r.next has;
        });
        split = ap (λ (i : Inside). i.left) (sym (given-none _));
        stats = subst (λ (s : Setup). StatsStand a.stats s.plan.cash.0 ((own.equities ++ filter_map equity_told rs) ++ [])) (sym b.setup)
            (subst (λ es. StatsStand a.stats (plan_of own).cash.0 es) (sym (append-nil (own.equities ++ filter_map equity_told rs))) p.stats);
      };
    }

-- behind a phase its lines are there
pub said : (setup : Setup) (a : Algorithm) (turn : Turn Own) → Within a (meaning_of setup) turn (all_of turn) (heard_of turn)
    → a.core.text.items ≡ text_after (meaning_of setup) turn
unfolding meaning_of
said setup a turn w =
    let r = reached-all (meaning_of setup) a turn w in
    r.stands.text ∙ (ap (λ (i : Inside). lines_bytes i.lines) r.is ∙ sym (lines-on (meaning_of setup) a turn w))
