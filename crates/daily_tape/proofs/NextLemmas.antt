-- The least step of some heads.
use Rattle.std.proofs.Common.{◌≡◌, ℕ, suc, ◌+◌, ◌<◌, ◌≤◌, List, [], ◌∷◌, ◌++◌, sym, ap, ◌∙◌, arith, length, get_or}
use Rattle.std.proofs.Math.Nat.{min-le_left, min-le_right, le-min}
use Rattle.std.proofs.Math.Seq.{drop-cons}
use Rattle.std.proofs.lemmas.List.{take-append-drop, take_more, length-take-le}
use Rattle.std.specs.Prelude.{min, take, drop}
use Rattle.std.specs.List.{AllByRecursion}
use Rattle.lean_fixed.specs.Calendar.{last_day}
use Rattle.daily_tape.specs.declared.source.Source.{Source}
use Rattle.daily_tape.specs.Head.{StandsPast}
use Rattle.daily_tape.specs.Steps.{IsAhead, AllAhead, AllPast, Stops, IsFirstStop}
use Rattle.daily_tape.proofs.StepLemmas.{weaker}

-- all of them stand at this step or later, and each step that all of them are past is an earlier one
pub record Seen {H : Type 0} (sources : List (Source H)) (least : ℕ) : Type 0 where
  pub ahead : AllAhead least sources
  pub small : least ≤ last_day + 2
  pub later : (k : ℕ) → k ≤ last_day + 1 → AllPast k sources → k < least

module _ {X : Type 0} (P : X → Type 0) where
  pub all-append : (xs ys : List X) → AllByRecursion P xs → AllByRecursion P ys → AllByRecursion P (xs ++ ys)
  all-append [] ys all more = more
  all-append (x ∷ xs) ys all more = (all.0, all-append xs ys all.1 more)

  pub all-front : (xs ys : List X) → AllByRecursion P (xs ++ ys) → AllByRecursion P xs
  all-front [] ys all = tt
  all-front (x ∷ xs) ys all = (all.0, all-front xs ys all.1)

  pub all-back : (xs ys : List X) → AllByRecursion P (xs ++ ys) → AllByRecursion P ys
  all-back [] ys all = all
  all-back (x ∷ xs) ys all = all-back xs ys all.1

module _ {H : Type 0} where
  all_weaker : (j s : ℕ) (sources : List (Source H)) → AllAhead s sources → j ≤ s → AllAhead j sources
  all_weaker j s [] ahead le = tt
  all_weaker j s (source ∷ sources) ahead le = (weaker j s source.head ahead.0 le, all_weaker j s sources ahead.1 le)

  -- the first of the heads that ends the tape
  pub first_stop : (sources : List (Source H)) (i least : ℕ) (x : Source H) → i < length sources → x ≡ get_or sources i x
      → AllAhead least (take i sources) → Stops x.head → IsFirstStop sources i
  first_stop sources i least x within is ahead stops =
      let e : i + 1 ≡ suc i = omega arith in
      record {
        before = take i sources;
        source = x;
        after = drop (suc i) sources;
        is = sym (take-append-drop i sources) ∙ ap (λ ys. take i sources ++ ys) (drop-cons sources i x within ∙ ap (λ y. y ∷ drop (suc i) sources) (sym is));
        counted = length-take-le i sources (omega arith);
        ahead = all_weaker 0 least (take i sources) ahead (omega arith);
        stops = stops;
      }

  -- one more head
  pub seen-more : (sources : List (Source H)) (i least step : ℕ) (x : Source H) → i < length sources → x ≡ get_or sources i x
      → Seen (take i sources) least → IsAhead step x.head × (step ≤ last_day + 2)
      → ((k : ℕ) → k ≤ last_day + 1 → StandsPast k x.head → k < step) → Seen (take (i + 1) sources) (min least step)
  seen-more sources i least step x within is seen stands later =
      let more : take (i + 1) sources ≡ take i sources ++ x ∷ [] = take_more sources i x within ∙ ap (λ y. take i sources ++ y ∷ []) (sym is) in
      let left = min-le_left least step in
      let right = min-le_right least step in
      record {
        ahead = rw more (all-append (λ s. IsAhead (min least step) s.head) (take i sources) (x ∷ [])
            (all_weaker (min least step) least (take i sources) seen.ahead left)
            (weaker (min least step) step x.head stands.0 right, tt));
        small = omega (arith, left, seen.small);
        later = λ k le past.
            (let all : AllPast k (take i sources ++ x ∷ []) = rw more at past in
            let a : suc k ≤ least = seen.later k le (all-front (λ s. StandsPast k s.head) (take i sources) (x ∷ []) all) in
            let b : suc k ≤ step = later k le (all-back (λ s. StandsPast k s.head) (take i sources) (x ∷ []) all).0 in
            let c : suc k ≤ min least step = le-min a b in
            omega (arith, c));
      }
