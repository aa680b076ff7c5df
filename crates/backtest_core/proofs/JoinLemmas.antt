-- The feeds of securities that join start at the moment of their choice.
use Rattle.std.proofs.Common.{◌≡◌, ℕ, ℤ, ◌≤ℤ◌, List, [], ◌∷◌, refl, ap, sym, subst, ◌∙◌, arith}
use Rattle.std.proofs.lemmas.Int.{ints}
use Rattle.std.specs.Prelude.{pos, negsuc, Option, Some, None, map, unsigned_abs}
use Rattle.std.specs.List.{All}
use Rattle.std.proofs.lemmas.List.Elements.{All-nil, All-cons}
use Rattle.lean_fixed.specs.Ranges.{IsMoment, IsPrintedMoment, last_printed_moment}
use Rattle.lean_fixed.specs.declared.time.Moment.{Moment}
use Rattle.lean_items.specs.declared.feed_key.FeedKey.{FeedKey}
use Rattle.exchange_hours.specs.Sessions.{moment}
use Rattle.rule_strategy.specs.declared.universe.UniversePlan.{UniversePlan}
use Rattle.clock_run.specs.States.{Subscription, joining}
use Rattle.backtest_core.specs.declared.waiting.Waiting.{Waiting}
use Rattle.backtest_core.specs.Inside.{joining_all}
use Rattle.backtest_core.specs.Waiting.{key_in, subscriptions_in}

abbrev StartsInTime : FeedKey → Type 0
StartsInTime key = IsMoment key.start.0

abbrev key_of : Subscription → FeedKey
key_of security = security.key

keys-same : (ws : List Waiting) → map key_in ws ≡ map key_of (subscriptions_in ws)
keys-same [] = refl
keys-same (w ∷ ws) = ap (λ keys. key_in w ∷ keys) (keys-same ws)

join-starts : (universe : UniversePlan) (t : ℕ) (news : List (List ℕ)) → IsMoment (pos t)
    → All StartsInTime (map key_of (map (joining universe t 0) news))
join-starts universe t [] in_time = All-nil StartsInTime
join-starts universe t (symbol ∷ news) in_time =
    All-cons StartsInTime (joining universe t 0 symbol).key (map key_of (map (joining universe t 0) news)) in_time (join-starts universe t news in_time)

all-start : (universe : Option UniversePlan) (t : ℕ) (news : List (List ℕ)) → IsMoment (pos t)
    → All StartsInTime (map key_of (joining_all universe t news))
all-start None t news in_time = All-nil StartsInTime
all-start (Some universe) t news in_time = join-starts universe t news in_time

in-time : (z : ℤ) → pos 0 ≤ℤ z → z ≤ℤ pos last_printed_moment → IsMoment z
in-time z low high = (omega (arith, ints, low), omega (arith, ints, high))

no-low : (n : ℕ) → pos 0 ≤ℤ negsuc n → ⊥
no-low n low = omega (arith, ints, low)

of-moment : (z : ℤ) → IsPrintedMoment z → (z ≡ pos (unsigned_abs z)) × IsMoment (pos (unsigned_abs z))
of-moment (pos n) printed = (refl, in-time (pos n) printed.0 printed.1)
of-moment (negsuc n) printed = absurd (no-low n printed.0)

-- the keys of those that wait since a moment
pub keys-start : (universe : Option UniversePlan) (at : Moment) (news : List (List ℕ)) (ws : List Waiting) (keys : List FeedKey) → IsPrintedMoment at.0
    → ((t : ℕ) → at ≡ moment t → subscriptions_in ws ≡ joining_all universe t news) → keys ≡ map key_in ws
    → All (λ key. IsMoment key.start.0) keys
keys-start universe at news ws keys printed waits is =
    let (same, in_time) = of-moment at.0 printed in
    subst (λ keys. All StartsInTime keys) (sym (is ∙ (keys-same ws ∙ ap (map key_of) (waits (unsigned_abs at.0) (ap (λ z. record { 0 = z }) same)))))
    (all-start universe (unsigned_abs at.0) news in_time)
