-- What a consolidator that stands for some bars does with the next one.
use Rattle.std.proofs.Common.{◌≤ℤ◌, ◌≡◌, List, [], ◌∷◌, ◌++◌, All, Option, Some, None, arith, ap, ◌<ℤ◌, ◌∙◌, sym, subst, map, get_or}
use Rattle.std.specs.Option.{option_to_list}
use Rattle.std.proofs.lemmas.Int.{ints}
use Rattle.std.proofs.lemmas.List.Elements.{All-push, All-weaker, All-nil, All-cons, All-get_or}
use Rattle.std.proofs.lemmas.List.Quantifiers.{all_pairs_push}
use Rattle.lean_fixed.specs.declared.time.Moment.{Moment}
use Rattle.lean_items.specs.declared.bar.Bar.{Bar}
use Rattle.consolidators.specs.declared.consolidator.Consolidator.{Consolidator}
use Rattle.consolidators.specs.Buckets.{bucket, open_buckets, not_given}
use Rattle.consolidators.specs.Left.{Leaves, Turns}
use Rattle.consolidators.specs.Pushed.{IsPushed, ArePushed, IsGiven}
use Rattle.consolidators.specs.Stands.{StandsFor, EndsBy}
use Rattle.consolidators.proofs.SoFar.{so_far_given}
use Rattle.consolidators.proofs.Turns.{Follows, filter_map-all}

pub follows : (c : Consolidator) (bars : List Bar) (bar : Bar) → StandsFor c bars → IsPushed c.period bar → EndsBy bar.start.0 c → Follows c.period bars bar
follows c bars bar stands pushed ends = record {
  positive = c.lasts.0;
  pushed = stands.pushed.each;
  ended = All-weaker (λ (b : Bar). b.end.0 ≤ℤ c.ended.0) (λ (b : Bar). b.end.0 ≤ℤ bar.start.0) (λ b le. omega (arith, ints)) bars stands.ended;
  after = pushed.after;
}

-- what is held, as a list
pub leaves_none : (c : Consolidator) (bars : List Bar) → StandsFor c bars → c.held ≡ None → Leaves c.period bars []
leaves_none c bars stands is = stands.left ∙ ap (λ h. map Some (option_to_list h)) is

pub leaves_one : (c : Consolidator) (bars : List Bar) (h : Bar) → StandsFor c bars → c.held ≡ Some h → Leaves c.period bars (h ∷ [])
leaves_one c bars h stands is = stands.left ∙ ap (λ o. map Some (option_to_list o)) is

pub is_rest : (c : Consolidator) (bars : List Bar) → StandsFor c bars → option_to_list c.held ≡ not_given c.period bars
is_rest c bars stands = sym (filter_map-all (bucket c.period bars) (open_buckets c.period bars) (option_to_list c.held) stands.left)

pub ranges_of_rest : (c : Consolidator) (held : Option Bar) → c.held ≡ held → All (IsGiven c.period) (option_to_list held)
ranges_of_rest c None is = All-nil (IsGiven c.period)
ranges_of_rest c (Some h) is = All-cons (IsGiven c.period) h [] (so_far_given c.period c.ended.0 h c.lasts (c.sound h is)) (All-nil (IsGiven c.period))

-- it stands for them and the next one, with what is held then
pub stands_push : (c d : Consolidator) (bars : List Bar) (bar : Bar) (gives : List Bar) → StandsFor c bars → IsPushed c.period bar → EndsBy bar.start.0 c
    → d.period ≡ c.period → d.ended ≡ bar.end → Turns c.period bars bar gives (option_to_list d.held) → StandsFor d (bars ++ bar ∷ [])
stands_push c d bars bar gives stands pushed ends period ended turns = record {
  pushed = subst (λ p. ArePushed p (bars ++ bar ∷ [])) (sym period) (record {
    each = All-push (IsPushed c.period) bars bar stands.pushed.each pushed;
    order = all_pairs_push (λ (earlier later : Bar). earlier.end.0 ≤ℤ later.start.0) bars bar stands.pushed.order
        (λ k d within.
        let by : (get_or bars k d).end.0 ≤ℤ c.ended.0 = All-get_or (λ (b : Bar). b.end.0 ≤ℤ c.ended.0) bars k d within stands.ended in
        omega (arith, ints));
  });
  ended =
      let last : bar.end.0 ≡ d.ended.0 = ap (λ (m : Moment). m.0) (sym ended) in
      All-push (λ (b : Bar). b.end.0 ≤ℤ d.ended.0) bars bar
      (All-weaker (λ (b : Bar). b.end.0 ≤ℤ c.ended.0) (λ (b : Bar). b.end.0 ≤ℤ d.ended.0)
      (λ b le. let after : bar.start.0 <ℤ bar.end.0 = pushed.after in omega (arith, ints)) bars stands.ended)
      (omega (arith, ints));
  left = subst (λ p. Leaves p (bars ++ bar ∷ []) (option_to_list d.held)) (sym period) turns.left;
}
