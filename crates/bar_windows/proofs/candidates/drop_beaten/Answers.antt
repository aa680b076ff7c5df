use Rattle.std.proofs.Common.{sym, ◌∙◌, ap}
use Rattle.circular_buffer.specs.Buffer.{Buffer}
use Rattle.std.specs.List.{filter}
use Rattle.bar_windows.specs.Kept.{reaches}
use Rattle.lean_fixed.specs.declared.money.Price.{Price}
use Rattle.bar_windows.proofs.Ranks.{same_buffer, beaten_none, beaten_last, ranked_without_last, last_none}
use Rattle.bar_windows.proofs.candidates.drop_beaten.Goals as goal

-- the last close remains, and so do all before it
pub returns-then-reaches : goal.returns-then-reaches
returns-then-reaches c = λ ranked.
    let kept = c.loop-earlier.invariant.1 ranked in
    same_buffer c.loop-earlier.kept _ _
    (sym (kept.0 ∙ beaten_none c.args.func c.loop-earlier.kept.items c.in-Some.earlier c.args.close kept.1 (sym c.in-Some.ensures) (sym c.if-reaches.ensures)))
    c.loop-earlier.invariant.0

-- the last close is dropped
pub loop-earlier-preserved : goal.loop-earlier-preserved
loop-earlier-preserved c =
    let items = ap (λ (b : Buffer Price). b.items) c.pop_back.ensures.items in (
      ap (λ (b : Buffer Price). b.capacity) c.pop_back.ensures.items ∙ c.loop-earlier.invariant.0,
      λ ranked.
          let kept = c.loop-earlier.invariant.1 ranked in
          rw items (
            kept.0 ∙ beaten_last c.args.func c.loop-earlier.kept.items c.in-Some.earlier c.args.close (sym c.in-Some.ensures) (sym c.if-reaches.ensures),
            ranked_without_last c.args.func c.loop-earlier.kept.items c.in-Some.earlier kept.1 (sym c.in-Some.ensures),
          ),
    )

-- no close is left
pub returns : goal.returns
returns c = λ ranked.
    let kept = c.loop-earlier.invariant.1 ranked in
    let none = last_none c.loop-earlier.kept.items c.in_default.ensures in
    same_buffer c.loop-earlier.kept _ _ (none ∙ sym (kept.0 ∙ ap (filter (λ x. reaches c.args.func x c.args.close)) none)) c.loop-earlier.invariant.0
