-- One turn more sent nothing, or the first one did.
use Rattle.std.proofs.Common.{◌≡◌, ◌<◌, length, refl, ◌∙◌, arith}
use Rattle.std.proofs.lemmas.List.Elements.{All-same, length_all_zip}
use Rattle.work_scheduler.specs.Placings.{PlacedOn, IsStuck}
use Rattle.work_scheduler.proofs.PlacingLemmas.{zip-still, zip-then, grew-none, all-more, all-whole}
use Rattle.work_scheduler.proofs.rounds.pump_first.Goals as goal

pub loop-place-init : goal.loop-place-init
loop-place-init g c = record {
  ran = zip-still c.args.turns.now;
  sent = refl;
  stuck = λ k d none. absurd (omega (arith, none));
}

pub returns-then-pumped-gt0-clause-ran : goal.returns-then-pumped-gt0-clause-ran
returns-then-pumped-gt0-clause-ran g c = zip-then _ _ _ c.loop-place.invariant.ran c.pump_at-pumped.ensures.ran

pub loop-place-preserved : goal.loop-place-preserved
loop-place-preserved g c =
    let turns = c.loop-place.turns in
    let pumped = c.pump_at-pumped.new.turns in
    let place = c.loop-place.place in
    let none : c.pump_at-pumped.result.sent ≡ 0 = omega (arith, c.if-pumped-gt0.false) in
    let long : length turns ≡ length pumped = length_all_zip PlacedOn turns pumped c.pump_at-pumped.ensures.ran in
    let within : place < length pumped = omega (arith, c.loop-place-test.true, c.loop-place.auto.turns, long) in
    record {
      ran = zip-then _ _ _ c.loop-place.invariant.ran c.pump_at-pumped.ensures.ran;
      sent = grew-none place _ _ _ none c.pump_at-pumped.ensures.sent ∙ c.loop-place.invariant.sent;
      stuck = all-more IsStuck pumped place within (All-same IsStuck _ _ c.pump_at-pumped.ensures.before c.loop-place.invariant.stuck)
          (c.pump_at-pumped.ensures.stuck none);
    }

pub returns-clause-pumped : goal.returns-clause-pumped
returns-clause-pumped g c =
    let whole : c.loop-place.place ≡ length c.loop-place.turns = omega (arith, c.loop-place-test.false, c.loop-place.auto.turns, c.loop-place.auto.place-end) in
    (c.loop-place.invariant.sent, all-whole IsStuck c.loop-place.turns c.loop-place.place whole c.loop-place.invariant.stuck)
