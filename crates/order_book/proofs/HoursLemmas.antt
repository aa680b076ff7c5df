-- The openings of sessions.
use Rattle.std.proofs.Common.{◌≡◌, ℕ, ◌<◌, ◌||◌, ◌==◌, true, None, ℤ, pos, negsuc, refl, ap, arith}
use Rattle.std.specs.Prelude.{option_map, if◌then◌else◌, nat_lt}
use Rattle.std.specs.List.{list_any}
use Rattle.std.proofs.lemmas.Int.{ints}
use Rattle.std.proofs.lemmas.Bool.Decides.{nat_tests}
use Rattle.exchange_hours.specs.Entries.{Entries}
use Rattle.exchange_hours.specs.Sessions.{session, interval_from, shortened, usual_span, early_close}
use Rattle.lean_fixed.specs.Calendar.{last_day, weekday}
use Rattle.lean_fixed.specs.Moments.{midnight, day_of}
use Rattle.lean_fixed.specs.Ranges.{IsDatedMoment}
use Rattle.clock_book.specs.Books.{opening_of}

past_days : (t : ℕ) → (IsDatedMoment (pos t) → ⊥) → last_day < day_of t
past_days t h = grind (arith, ints, h)

past_session : (hours : Entries) (day : ℕ) → last_day < day → session hours day ≡ None
unfolding session
past_session hours day h =
    ap (λ b. option_map (interval_from (midnight day)) (if b || list_any (λ h. h == day) hours.holidays then None
    else shortened (usual_span hours.segments (weekday day)) (early_close hours.early_closes day))) (past_test h)
  where
    past_test : last_day < day → nat_lt last_day day ≡ true
    past_test h = grind (arith, nat_tests)

pub undated : (hours : Entries) (at : ℤ) → (IsDatedMoment at → ⊥) → opening_of hours at ≡ None
undated hours (pos t) h = ap (option_map (λ s. pos s.opens)) (past_session hours (day_of t) (past_days t h))
undated hours (negsuc n) h = refl
