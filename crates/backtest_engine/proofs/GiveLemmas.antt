-- An algorithm gives the commands of a phase, one after another.
use Rattle.std.proofs.Common.{◌≡◌, List, [], ◌∷◌, ◌++◌, true, false, refl, ap, sym, subst, ◌∙◌, arith, inl, inr}
use Rattle.std.specs.Prelude.{◌⊎◌, pos, Option, Some, None, Ok, Err, if◌then◌else◌, Bool, unwrap_or, is_some, IfSome}
use Rattle.std.proofs.lemmas.Bool.{false≢true}
use Rattle.std.proofs.lemmas.List.{append-nil, append_assoc}
use Rattle.lean_fixed.specs.declared.time.Moment.{Moment}
use Rattle.lean_orders.specs.declared.desk.Command.{Command}
use Rattle.clock_book.specs.Fitting.{IsFitting}
use Rattle.clock_book.specs.Handled.{replies}
use Rattle.clock_book.specs.InRange.{moment_of}
use Rattle.clock_run.proofs.EachLemmas.{each-append}
use Rattle.clock_run.specs.States.{Setup}
use Rattle.backtest_core.specs.declared.phase.Phase.{Phase as CorePhase}
use Rattle.backtest_core.specs.declared.standing.Core.{Core}
use Rattle.backtest_core.specs.declared.stop.Stop.{Stop as CoreStop}
use Rattle.backtest_core.specs.declared.stop.Stop.TheVariants as core_stop
use Rattle.backtest_core.specs.Calls.{StopsFor, Gives as GivesOne}
use Rattle.backtest_core.specs.Core.{StandsIn, GivesNoMore}
use Rattle.backtest_core.specs.Inside.{Inside, entered, behind_first, next, first_of}
use Rattle.backtest_core.specs.Whole.{given_all}
use Rattle.backtest_engine.specs.declared.algorithm.Algorithm.{Algorithm}
use Rattle.backtest_engine.specs.declared.limits.Limit.TheVariants.{Requests}
use Rattle.backtest_engine.specs.Algorithms.{Own, core_phase_of, unphased, begun, meaning_of}
use Rattle.backtest_engine.specs.BookLemmas.{time-moment, submits-few, submitted-append}
use Rattle.backtest_engine.specs.InsideLemmas.{Frame, given-frame, given-none, given-one, heard-none, entered-once}
use Rattle.backtest_engine.specs.Meaning.{Meaning}
use Rattle.backtest_engine.specs.Playing.{Waits, Within, behind_all}
use Rattle.backtest_engine.specs.PlayingLaws.{stop_of}
use Rattle.backtest_engine.specs.ReachLemmas.{behind-is}
use Rattle.backtest_engine.specs.Turns.{Turn, asked_of, Gives}
use Rattle.backtest_engine.proofs.RunsPhases.{entered-unphased}
use Rattle.backtest_engine.proofs.WithinLemmas.{within-next}

-- a phase of which some commands were given, and no reply heard
abbrev pub given_of : Turn Own → List Command → Inside
given_of turn cs = given_all cs (begun turn.phase turn.state.own)

-- where a core stands whose phase has begun is where all was given so far
pub record Enters (core : Core) (turn : Turn Own) (cs : List Command) : Type 0 where
  pub inside : Inside
  pub stands : StandsIn core inside
  pub is : entered (core_phase_of turn.phase) inside ≡ given_of turn cs

enters-by : (core : Core) (turn : Turn Own) (cs : List Command) (more : List Command)
    → unphased turn.state.own.inside ≡ turn.state.own.inside → (begun turn.phase turn.state.own).left ≡ cs ++ more
    → Waits core turn.phase turn.state.own cs [] ⊎ StandsIn core (behind_all turn.phase turn.state.own cs [])
    → Enters core turn cs
enters-by core turn cs more clean split (inl w) = record {
  inside = w.inside;
  stands = w.stands;
  is = sym (entered-unphased (core_phase_of turn.phase) w.inside w.before)
      ∙ (ap (λ i. entered (core_phase_of turn.phase) i) w.is
      ∙ (sym (given-none (begun turn.phase turn.state.own)) ∙ ap (λ cs. given_of turn cs) (sym w.none)));
}
enters-by core turn cs more clean split (inr stands) =
    let still = heard-none (given_of turn cs) in
    let begun = subst (λ (i : Inside). i.phase ≡ Some (core_phase_of turn.phase)) still (behind-is turn.phase turn.state.own cs more [] clean split).phase in
    record {
      inside = given_of turn cs;
      stands = subst (λ i. StandsIn core i) still stands;
      is = entered-once (core_phase_of turn.phase) (given_of turn cs) begun;
    }

pub enters : (m : Meaning Own) (a : Algorithm) (turn : Turn Own) (cs : List Command) → Within a m turn cs [] → Enters a.core turn cs
enters m a turn cs w =
    let p = w.plays (replies turn.state.book cs) refl in
    enters-by a.core turn cs (given_of turn cs).left w.clean p.split p.core

first-some : (left : List Command) (c : Command) → Some c ≡ first_of left → (rest : List Command) × (left ≡ c ∷ rest)
first-some [] c e = absurd (false≢true (sym (ap is_some e)))
first-some (x ∷ xs) c e = (xs, ap (λ o. unwrap_or o x ∷ xs) (sym e))

first-none : (left : List Command) → None ≡ first_of left → left ≡ []
first-none [] e = refl
first-none (x ∷ xs) e = absurd (false≢true (ap is_some e))

-- one command more was given
pub given-more : (m : Meaning Own) (a : Algorithm) (core : Core) (turn : Turn Own) (cs : List Command) (c : Command)
    → Within a m turn cs [] → GivesNoMore a.core core → GivesOne a.core core c
    → Some c ≡ first_of (given_of turn cs).left → StandsIn core (next (given_of turn cs))
    → Within (record a { core = core }) m turn (cs ++ c ∷ []) []
given-more m a core turn cs c w numbers gives first stands =
    let p = w.plays (replies turn.state.book cs) refl in
    let i = begun turn.phase turn.state.own in
    let y = given_of turn cs in
    let (rest, left) = first-some y.left c first in
    let one : (next y).left ≡ rest = ap (λ l. (behind_first l y).left) left in
    let few = submits-few c in
    let adds = submitted-append cs (c ∷ []) in
    within-next m a core a.stats turn cs (cs ++ c ∷ []) [] [] w numbers
    (each-append (λ x. IsFitting x) cs (c ∷ []) w.fitting (gives.fitting, tt))
    (each-append (λ x. moment_of x ≡ pos turn.at) cs (c ∷ []) w.time (sym (time-moment c) ∙ (gives.time ∙ w.now), tt))
    (omega (arith, w.room, few, adds, gives.requests))
    (λ later is. record {
      core = inr (subst (λ j. StandsIn core j) (sym (heard-none (given_all (cs ++ c ∷ []) i) ∙ given-one cs c i)) stands);
      split = p.split ∙ (ap (λ l. cs ++ l) left
          ∙ (sym (append_assoc cs (c ∷ []) rest)
          ∙ ap (λ l. (cs ++ c ∷ []) ++ l) (sym (ap (λ (j : Inside). j.left) (given-one cs c i) ∙ one))));
      stats = p.stats;
    })

-- the core has only begun the phase
pub given-same : (m : Meaning Own) (a : Algorithm) (core : Core) (turn : Turn Own) (cs : List Command)
    → Within a m turn cs [] → GivesNoMore a.core core → StandsIn core (given_of turn cs)
    → Within (record a { core = core }) m turn cs []
given-same m a core turn cs w numbers stands =
    let p = w.plays (replies turn.state.book cs) refl in
    within-next m a core a.stats turn cs cs [] [] w numbers w.fitting w.time (omega (arith, w.room, numbers.requests))
    (λ later is. record {
      core = inr (subst (λ j. StandsIn core j) (sym (heard-none (given_of turn cs))) stands);
      split = p.split;
      stats = p.stats;
    })

-- what a phase asks in all, where no command is left of it
asked-all : (m : Meaning Own) (a : Algorithm) (turn : Turn Own) (cs : List Command) (over : Bool) → Within a m turn cs []
    → (given_of turn cs).left ≡ [] → (given_of turn cs).over ≡ over
    → ((begun turn.phase turn.state.own).left ≡ cs) × ((begun turn.phase turn.state.own).over ≡ over)
asked-all m a turn cs over w left is =
    let p = w.plays (replies turn.state.book cs) refl in (
      p.split ∙ (ap (λ l. cs ++ l) left ∙ append-nil cs),
      sym (ap (λ (k : Frame). k.over) (given-frame cs (begun turn.phase turn.state.own))) ∙ is,
    )

-- ---- what the call says

abbrev pub GaveOne : Algorithm → Core → CorePhase → Option Command → Type 0
GaveOne a core q command = (i : Inside) → StandsIn a.core i
    → (command ≡ first_of (entered q i).left) × StandsIn core (next (entered q i)) × ((entered q i).left ≡ [] → (entered q i).over ≡ false)

abbrev pub MetLimit : Algorithm → Core → CorePhase → CoreStop → Type 0
MetLimit a core q stop = (i : Inside) → StandsIn a.core i
    → StopsFor stop core_stop.Requests (((entered q i).left ≡ []) × ((entered q i).over ≡ true) × StandsIn core (entered q i))

gave : (m : Meaning Own) (a : Algorithm) (core : Core) (turn : Turn Own) (cs : List Command) (q : CorePhase) (command : Option Command)
    → Within a m turn cs [] → q ≡ core_phase_of turn.phase → GaveOne a core q command
    → (command ≡ first_of (given_of turn cs).left) × StandsIn core (next (given_of turn cs)) × ((given_of turn cs).left ≡ [] → (given_of turn cs).over ≡ false)
gave m a core turn cs q command w same says =
    let e = enters m a turn cs w in
    let is : entered q e.inside ≡ given_of turn cs = ap (λ q. entered q e.inside) same ∙ e.is in
    subst (λ y. (command ≡ first_of y.left) × StandsIn core (next y) × (y.left ≡ [] → y.over ≡ false)) is (says e.inside e.stands)

asked-none : (setup : Setup) (turn : Turn Own) (cs : List Command)
    → (begun turn.phase turn.state.own).left ≡ cs → (begun turn.phase turn.state.own).over ≡ false
    → asked_of (meaning_of setup) turn ≡ record { commands = cs; stop = None }
unfolding meaning_of
asked-none setup turn cs left over = λ j. record { commands = left j; stop = if over j then Some Requests else None }

asked-over : (setup : Setup) (turn : Turn Own) (cs : List Command)
    → (begun turn.phase turn.state.own).left ≡ cs → (begun turn.phase turn.state.own).over ≡ true
    → asked_of (meaning_of setup) turn ≡ record { commands = cs; stop = Some Requests }
unfolding meaning_of
asked-over setup turn cs left over = λ j. record { commands = left j; stop = if over j then Some Requests else None }

pub gives-ok : (m : Meaning Own) (a : Algorithm) (core : Core) (turn : Turn Own) (cs : List Command) (q : CorePhase) (command : Option Command)
    → Within a m turn cs [] → q ≡ core_phase_of turn.phase → GivesNoMore a.core core → IfSome command (GivesOne a.core core) → GaveOne a core q command
    → Gives m (λ turn cs rs. Within (record a { core = core }) m turn cs rs) turn cs (Ok command)
gives-ok m a core turn cs q (Some c) w same numbers gives says =
    let (first, stands, none) = gave m a core turn cs q (Some c) w same says in
    given-more m a core turn cs c w numbers gives first stands
gives-ok m a core turn cs q None w same numbers gives says =
    let (first, stands, none) = gave m a core turn cs q None w same says in
    let left = first-none (given_of turn cs).left first in
    let still : next (given_of turn cs) ≡ given_of turn cs = ap (λ l. behind_first l (given_of turn cs)) left in
    let (all, over) = asked-all m a turn cs false w left (none left) in (
      given-same m a core turn cs w numbers (subst (λ j. StandsIn core j) still stands),
      subst (λ m. asked_of m turn ≡ record { commands = cs; stop = None }) (sym w.means) (asked-none w.setup turn cs all over),
    )

abbrev is-requests : CoreStop → Bool
is-requests core_stop.NoMemory = false
is-requests core_stop.Requests = true
is-requests core_stop.Securities = false

pub gives-err : (m : Meaning Own) (a : Algorithm) (core : Core) (turn : Turn Own) (cs : List Command) (q : CorePhase) (stop : CoreStop)
    → Within a m turn cs [] → q ≡ core_phase_of turn.phase → GivesNoMore a.core core → MetLimit a core q stop
    → Gives m (λ turn cs rs. Within (record a { core = core }) m turn cs rs) turn cs (Err (stop_of stop))
gives-err m a core turn cs q core_stop.NoMemory w same numbers says = tt
gives-err m a core turn cs q core_stop.Securities w same numbers says =
    let e = enters m a turn cs w in
    absurd (false≢true (sym (ap is-requests (says e.inside e.stands).0)))
gives-err m a core turn cs q core_stop.Requests w same numbers says =
    let e = enters m a turn cs w in
    let is : entered q e.inside ≡ given_of turn cs = ap (λ q. entered q e.inside) same ∙ e.is in
    let (left, full, stands) = subst (λ (y : Inside). (y.left ≡ []) × (y.over ≡ true) × StandsIn core y) is (says e.inside e.stands).1 in
    let (all, over) = asked-all m a turn cs true w left full in (
      given-same m a core turn cs w numbers stands,
      subst (λ m. asked_of m turn ≡ record { commands = cs; stop = Some Requests }) (sym w.means) (asked-over w.setup turn cs all over),
    )
