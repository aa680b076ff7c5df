-- What an algorithm tells between two moments: the next close of a session, and its summary.
use Rattle.std.proofs.Common.{◌≡◌, ℕ, ◌<◌, ◌≤◌, ◌<ℤ◌, ◌≤ℤ◌, List, [], ◌++◌, false, ap, sym, subst, ◌∙◌, arith}
use Rattle.std.proofs.lemmas.Int.{ints}
use Rattle.std.specs.Prelude.{pos, Option, Some, None}
use Rattle.lean_fixed.specs.declared.time.Moment.{Moment}
use Rattle.exchange_hours.specs.Entries.{Entries}
use Rattle.exchange_hours.specs.Grid.{IsClosing, is_closing}
use Rattle.exchange_hours.specs.Next.{IsNext}
use Rattle.clock_run.specs.States.{Setup}
use Rattle.clock_run.specs.Summary.{summary}
use Rattle.backtest_engine.specs.declared.algorithm.Algorithm.{Algorithm}
use Rattle.backtest_engine.specs.Algorithms.{Own, meaning_of}
use Rattle.backtest_engine.specs.Meaning.{Meaning, State}
use Rattle.backtest_engine.specs.Playing.{Between}
use Rattle.backtest_engine.specs.RestLemmas.{rested}
use Rattle.backtest_engine.specs.Turns.{IsNextClose}

past : (t u : ℕ) → t < u → pos t <ℤ pos u
past t u less = omega (arith, ints, less)

up-to : (t u : ℕ) → t ≤ u → pos t ≤ℤ pos u
up-to t u less = omega (arith, ints, less)

less : (t u : ℕ) → pos t <ℤ pos u → t < u
less t u past = omega (arith, ints, past)

most : (t u : ℕ) → pos t ≤ℤ pos u → t ≤ u
most t u past = omega (arith, ints, past)

next-close : (hours : Entries) (t last : ℕ) (result : Option Moment) → ((u : ℕ) → ¬ IsClosing hours u → is_closing hours u ≡ false)
    → IsNext (IsClosing hours) (pos t) (pos last) result → IsNextClose (λ u. is_closing hours u) t last result
next-close hours t last None not_told next = λ u later within. not_told u (λ closes. next u closes (past t u later) (up-to u last within))
next-close hours t last (Some at) not_told next =
    let (n, is, closes, later, within, least) = next in
    (n, is, less t n later, most n last within, λ u after before. not_told u (λ closes. n-least n u before (least u closes (past t u after))))
  where
    n-least : (n u : ℕ) → u < n → n ≤ u → ⊥
    n-least n u before least = omega (arith, before, least)

closes-in : (setup : Setup) (hours : Entries) (t last : ℕ) (result : Option Moment) → hours ≡ setup.hours
    → IsNextClose (λ u. is_closing hours u) t last result → IsNextClose (meaning_of setup).is_close t last result
unfolding meaning_of
closes-in setup hours t last result same next = subst (λ hours. IsNextClose (λ u. is_closing hours u) t last result) same next

pub closes-next : (m : Meaning Own) (a : Algorithm) (s : State Own) (hours : Entries) (after until : Moment) (t last : ℕ) (result : Option Moment)
    → (b : Between a m s []) → hours ≡ b.setup.hours → after.0 ≡ pos t → until.0 ≡ pos last
    → ((u : ℕ) → ¬ IsClosing hours u → is_closing hours u ≡ false)
    → IsNext (IsClosing hours) after.0 until.0 result → IsNextClose m.is_close t last result
closes-next m a s hours after until t last result b same from to not_told next =
    subst (λ m. IsNextClose m.is_close t last result) (sym b.means)
    (closes-in b.setup hours t last result same
    (next-close hours t last result not_told
    (subst (λ z. IsNext (IsClosing hours) z (pos last) result) from (subst (λ z. IsNext (IsClosing hours) after.0 z result) to next))))

summary-of : (setup : Setup) (s : State Own) → s.own.inside.standing.setup ≡ setup
    → summary setup.plan.cash.0 s.book s.own.equities ≡ (meaning_of setup).summary s
unfolding meaning_of
summary-of setup s its = ap (λ (x : Setup). summary x.plan.cash.0 s.book s.own.equities) (sym its)

pub summary-is : (m : Meaning Own) (a : Algorithm) (s : State Own) (old new : List ℕ) → (b : Between a m s [])
    → new ≡ old ++ summary b.setup.plan.cash.0 s.book s.own.equities → new ≡ old ++ m.summary s
summary-is m a s old new b is =
    is ∙ ap (λ text. old ++ text) (summary-of b.setup s (rested m a s b).its ∙ ap (λ (m : Meaning Own). m.summary s) (sym b.means))
