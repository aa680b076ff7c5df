-- Whatever a core gives out is sound: its numbers are in their ranges, and it is of its phase.
use Rattle.std.proofs.Common.{◌≡◌, ℕ, ◌+◌, ◌≤◌, ℤ, List, [], ◌∷◌, ◌++◌, Bool, true, false, refl, sym, subst, arith, length, length-append}
use Rattle.std.specs.Prelude.{Option, Some, None, cond, map}
use Rattle.std.specs.Option.{option_to_list, ForSome}
use Rattle.std.proofs.lemmas.Int.{ints}
use Rattle.lean_fixed.specs.Ranges.{IsMoment, IsPrintedMoment}
use Rattle.lean_fixed.specs.declared.money.Price.{Price}
use Rattle.lean_fixed.specs.declared.time.Moment.{Moment}
use Rattle.lean_items.specs.declared.bar.Bar.{Bar}
use Rattle.lean_items.specs.Fits.{is_bar_in_range}
use Rattle.lean_orders.specs.declared.desk.Command.{Command}
use Rattle.lean_orders.specs.declared.desk.Command.TheVariants.{Match, Update}
use Rattle.lean_orders.specs.declared.order.Kind.{Kind}
use Rattle.lean_orders.specs.declared.order.Resting.{Resting}
use Rattle.clock_book.specs.Fitting.{IsPriceBar}
use Rattle.clock_run.specs.Moments.{price_bar}
use Rattle.consolidators.proofs.InRange.{numbers_told}
use Rattle.rule_lang.specs.Values.{truth_in}
use Rattle.rule_strategy.specs.declared.asking.RuleView.{RuleView}
use Rattle.rule_strategy.specs.declared.rule.Rule.{Rule}
use Rattle.rule_strategy.specs.declared.rule.Action.{Action}
use Rattle.rule_strategy.specs.declared.rule.Action.TheVariants as act
use Rattle.rule_strategy.specs.Asked.{asked, asked_if, submits, updates, cancels, asked_by, requests_of}
use Rattle.backtest_core.specs.declared.watched.Watched.{Watched}
use Rattle.backtest_core.specs.Phases.{AreOf}
use Rattle.backtest_core.specs.Watching.{mark_with, mark_in, marks_in}

printed-moment : (z : ℤ) → IsPrintedMoment z → IsMoment z
printed-moment z printed = (grind (arith, ints), grind (arith, ints))

pub are_more : (at : ℤ) (asks : Bool) (xs ys : List Command) → AreOf at asks xs → AreOf at asks ys → AreOf at asks (xs ++ ys)
are_more at asks [] ys all more = more
are_more at asks (x ∷ xs) ys all more = (all.0, are_more at asks xs ys all.1 more)

-- the commands of a rule
module _ (at : Moment) (moment : IsMoment at.0) where
  submits-sound : (symbol : List ℕ) (kind : Kind) (quantity : Option ℤ) (price limit : Option (Option Price))
      → AreOf at.0 true (submits at symbol kind quantity price limit)
  submits-sound symbol kind None price limit = tt
  submits-sound symbol kind (Some quantity) None limit = tt
  submits-sound symbol kind (Some quantity) (Some price) None = tt
  submits-sound symbol kind (Some quantity) (Some price) (Some limit) = (record { fitting = moment; time = refl; kind = refl }, tt)

  updates-map : (live : List Resting) (price : Price) → AreOf at.0 true (map (λ order. Update at order.id price) live)
  updates-map [] price = tt
  updates-map (order ∷ live) price = (record { fitting = moment; time = refl; kind = refl }, updates-map live price)

  updates-sound : (price : Option ℤ) (live : List Resting) → AreOf at.0 true (updates at price live)
  updates-sound None live = tt
  updates-sound (Some price) live = updates-map _ _

  cancels-sound : (live : List Resting) → AreOf at.0 true (cancels at live)
  cancels-sound [] = tt
  cancels-sound (order ∷ live) = (record { fitting = moment; time = refl; kind = refl }, cancels-sound live)

asked-sound : (action : Action) (symbol : List ℕ) (view : RuleView) (live : List Resting) → IsMoment view.when.at.0
    → AreOf view.when.at.0 true (asked_by action symbol view live)
asked-sound (act.Order kind quantity price limit) symbol view live moment =
    submits-sound view.when.at moment symbol kind (asked view.quantity quantity) (asked_if view.price price) (asked_if view.limit limit)
asked-sound (act.Update price) symbol view live moment = updates-sound view.when.at moment (asked view.price price) live
asked-sound act.Cancel symbol view live moment = cancels-sound view.when.at moment live

pub requests_sound : (rule : Rule) (symbol : List ℕ) (view : RuleView) (live : List Resting) → IsMoment view.when.at.0
    → AreOf view.when.at.0 true (requests_of rule symbol view live)
unfolding requests_of
requests_sound rule symbol view live moment = by (truth_in view.when rule.when)
  where
    by : (b : Bool) → AreOf view.when.at.0 true (cond b (asked_by rule.action symbol view live) [])
    by true = asked-sound rule.action symbol view live moment
    by false = tt

-- the prices of a moment
mark-sound : (at : Moment) (symbol : List ℕ) (ended : Option Bar) → ForSome ended (λ bar. is_bar_in_range bar ≡ true) → IsMoment at.0
    → AreOf at.0 false (option_to_list (mark_with at symbol ended))
mark-sound at symbol None sound moment = tt
mark-sound at symbol (Some bar) sound moment =
    let numbers = numbers_told bar (sound bar refl) in
    let fitting : IsPriceBar (price_bar bar) = record {
      start = numbers.start;
      end = numbers.end;
      opening = numbers.prices.opening;
      high = numbers.prices.high;
      low = numbers.prices.low;
      closing = numbers.prices.closing;
      volume = numbers.volume;
    } in
    (record { fitting = (moment, fitting); time = refl; kind = refl }, tt)

pub marks-sound : (at : Moment) (ws : List Watched) → IsMoment at.0 → AreOf at.0 false (marks_in at ws)
marks-sound at [] moment = tt
marks-sound at (w ∷ ws) moment =
    are_more at.0 false (option_to_list (mark_in at w)) (marks_in at ws) (mark-sound at w.symbol w.ended w.sound moment) (marks-sound at ws moment)

mark-few : (at : Moment) (symbol : List ℕ) (ended : Option Bar) → length (option_to_list (mark_with at symbol ended)) ≤ 1
mark-few at symbol None = omega arith
mark-few at symbol (Some bar) = omega arith

pub marks-few : (at : Moment) (ws : List Watched) → length (marks_in at ws) ≤ length ws
marks-few at [] = omega arith
marks-few at (w ∷ ws) =
    rw (length-append (option_to_list (mark_in at w)) (marks_in at ws)) (omega (arith, mark-few at w.symbol w.ended, marks-few at ws))

-- all commands of the prices
pub prices-sound : (at : Moment) (ws : List Watched) → IsMoment at.0 → AreOf at.0 false (marks_in at ws ++ Match at ∷ [])
prices-sound at ws moment =
    are_more at.0 false (marks_in at ws) (Match at ∷ []) (marks-sound at ws moment) (record { fitting = moment; time = refl; kind = refl }, tt)

pub prices-few : (at : Moment) (ws : List Watched) → length (marks_in at ws ++ Match at ∷ []) ≤ length ws + 1
prices-few at ws = rw (length-append (marks_in at ws) (Match at ∷ [])) (omega (arith, marks-few at ws))

pub told_sound : (at : Moment) (ws : List Watched) (old new : List Command) → IsPrintedMoment at.0 → new ≡ old ++ (marks_in at ws ++ Match at ∷ [])
    → AreOf at.0 false old → AreOf at.0 false new
told_sound at ws old new printed is all =
    subst (AreOf at.0 false) (sym is)
    (are_more at.0 false old (marks_in at ws ++ Match at ∷ []) all (prices-sound at ws (printed-moment at.0 printed)))

pub told_few : (at : Moment) (ws : List Watched) (old new : List Command) → new ≡ old ++ (marks_in at ws ++ Match at ∷ [])
    → length new ≤ length old + length ws + 1
told_few at ws old new is =
    rw (is, length-append old (marks_in at ws ++ Match at ∷ [])) (omega (arith, prices-few at ws))
