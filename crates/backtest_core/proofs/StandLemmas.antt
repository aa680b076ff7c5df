-- What a core stands for behind each call.
use Rattle.std.proofs.Common.{◌≡◌, ℕ, List, [], ◌∷◌, ◌++◌, refl, ap, sym, subst}
use Rattle.std.specs.Prelude.{Some, find, map}
use Rattle.std.specs.List.{AllZip}
use Rattle.std.specs.Option.{option_to_list}
use Rattle.lean_fixed.specs.declared.time.Moment.{Moment}
use Rattle.exchange_hours.specs.Sessions.{moment}
use Rattle.universe_state.specs.Active.{Active}
use Rattle.clock_run.specs.Moments.{mark_of, marks}
use Rattle.backtest_core.specs.declared.watched.Watched.{Watched}
use Rattle.backtest_core.specs.Watching.{WatchesAt, mark_with, mark_in, marks_in}
use Rattle.clock_run.specs.Lines.{Line}
use Rattle.clock_run.specs.States.{Subscription, symbol_of}
use Rattle.backtest_core.specs.declared.standing.Core.{Core}
use Rattle.backtest_core.specs.Standing.{Followed, history, Standing, waits_as, without_first, named_as, named}
use Rattle.backtest_core.specs.Core.{StandsFor}

pub named-is : (core : Core) (v : Standing) (lines : List Line) (symbol : List ℕ) (n : ℕ) (s : Subscription)
    → find (waits_as symbol) v.waiting ≡ Some s → StandsFor core (named_as n (without_first symbol v.waiting) (Some s) v) lines
    → StandsFor core (named symbol n v) lines
named-is core v lines symbol n s found stands =
    subst (λ o. StandsFor core (named_as n (without_first symbol v.waiting) o v) lines) (sym found) stands

-- the marks of a moment
pub marks-watched : (at : Moment) (t : ℕ) (ws : List Watched) (fs : List Followed) → at ≡ moment t → AllZip (WatchesAt t) ws fs
    → marks_in at ws ≡ marks t (map history fs)
marks-watched at t [] [] is zip = refl
marks-watched at t [] (f ∷ fs) is zip = elim zip [ ]
marks-watched at t (w ∷ ws) [] is zip = elim zip [ ]
marks-watched at t (w ∷ ws) (f ∷ fs) is zip =
    let symbol : w.symbol ≡ symbol_of f.security = ap (λ (a : Active). a.symbol) zip.0.watches.active in
    let one : mark_in at w ≡ mark_of t (history f) =
    λ j. mark_with (is j) (symbol j) (zip.0.ended j) in
    λ j. option_to_list (one j) ++ marks-watched at t ws fs is zip.1 j
