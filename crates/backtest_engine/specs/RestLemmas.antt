-- An algorithm between two moments, none of whose securities waits.
use Rattle.std.proofs.Common.{◌≡◌, ℕ, List, [], ◌∷◌, ◌++◌, false, refl, ap, sym, subst, ◌∙◌}
use Rattle.std.specs.Prelude.{map, Bool, true}
use Rattle.std.proofs.lemmas.Bool.{false≢true}
use Rattle.lean_items.specs.declared.feed_key.FeedKey.{FeedKey}
use Rattle.clock_run.specs.Lines.{Line}
use Rattle.clock_run.specs.States.{Setup, Subscription}
use Rattle.clock_steps.specs.Runs.{rests}
use Rattle.backtest_core.specs.Standing.{Standing, named_all}
use Rattle.backtest_core.specs.Inside.{Inside, inside}
use Rattle.backtest_core.specs.Core.{StandsFor}
use Rattle.backtest_engine.specs.declared.algorithm.Algorithm.{Algorithm}
use Rattle.backtest_engine.specs.Algorithms.{Own, rest_of, meaning_of}
use Rattle.backtest_engine.specs.Meaning.{State, Meaning, moment_of}
use Rattle.backtest_engine.specs.Meets.{IsMet}
use Rattle.backtest_engine.specs.Playing.{Between}
use Rattle.backtest_engine.specs.IdleLemmas.{idle}

abbrev is_empty : {A : Type 0} → List A → Bool
is_empty [] = true
is_empty (x ∷ xs) = false

pub no-keys : (front : List FeedKey) (xs : List Subscription) → [] ≡ front ++ map (λ x. x.key) xs → xs ≡ []
no-keys [] [] e = refl
no-keys [] (x ∷ xs) e = absurd (false≢true (sym (ap is_empty e)))
no-keys (key ∷ front) xs e = absurd (false≢true (sym (ap is_empty e)))

named-none : (from : ℕ) (v : Standing) → v.waiting ≡ [] → rest_of from v ≡ inside 0 [] v
unfolding named_all
named-none from v none = ap (λ ws. inside 0 [] (named_all from ws v)) none

-- the core stands for the own state
pub record Rested (a : Algorithm) (setup : Setup) (s : State Own) : Type 0 where
  pub lines : List Line
  pub core : StandsFor a.core s.own.inside.standing lines
  pub waiting : s.own.inside.standing.waiting ≡ []
  pub its : s.own.inside.standing.setup ≡ setup
  pub is : s.own.inside ≡ inside 0 [] s.own.inside.standing

pub rested : (m : Meaning Own) (a : Algorithm) (s : State Own) → (b : Between a m s []) → Rested a b.setup s
rested m a s b =
    let none = no-keys b.front b.standing.waiting b.waits in
    let e : s.own.inside ≡ inside 0 [] b.standing = b.is ∙ named-none b.from b.standing none in
    let same : s.own.inside.standing ≡ b.standing = ap (λ (i : Inside). i.standing) e in
    record {
      lines = b.lines;
      core = subst (λ v. StandsFor a.core v b.lines) (sym same) b.core;
      waiting = ap (λ (v : Standing). v.waiting) same ∙ none;
      its = ap (λ (v : Standing). v.setup) same ∙ b.its;
      is = e ∙ sym (ap (λ v. inside 0 [] v) same);
    }

pub rests-between : (setup : Setup) (a : Algorithm) (s : State Own) (t : ℕ) → (b : Between a (meaning_of setup) s []) → IsMet t [] s
    → (meaning_of setup).is_close t ≡ false → moment_of (meaning_of setup) t [] s ≡ rests s
unfolding meaning_of
rests-between setup a s t b met none =
    let r = rested (meaning_of setup) a s b in
    subst (λ m. moment_of m t [] s ≡ rests s) (sym b.means)
    (idle b.setup t s s.own.inside.standing r.is r.waiting r.its met (subst (λ m. m.is_close t ≡ false) b.means none))
