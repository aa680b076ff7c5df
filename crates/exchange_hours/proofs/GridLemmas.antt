-- Bars of the grid against the hours of the day in which they start.
use Rattle.std.proofs.Common.{ℕ, ◌+◌, ◌-◌, ◌%◌, ◌==◌, ◌<◌, ◌≤◌, ◌≡◌, Bool, true, false, nat_lt, true≢false, Option, Some, None, option_map, max, IfSome, inl, inr, refl, sym, subst, ◌∙◌, ap, arith}
use Rattle.std.specs.Option.{option_map_or}
use Rattle.std.proofs.lemmas.Bool.{cases_lt, and_parts, and_from}
use Rattle.std.proofs.lemmas.Bool.Decides.{nat_tests}
use Rattle.lean_fixed.specs.declared.resolution.Resolution.{Resolution}
use Rattle.lean_fixed.specs.declared.resolution.Resolution.TheVariants.{Minute, Hour, Daily}
use Rattle.lean_fixed.specs.Calendar.{last_day}
use Rattle.lean_fixed.specs.Moments.{midnight, day_of, minute_of_day, minutes_per_day}
use Rattle.exchange_hours.specs.declared.spans.Span.{Span}
use Rattle.exchange_hours.specs.Entries.{Entries}
use Rattle.exchange_hours.specs.Sessions.{end_of_days, span_on, session, interval_from, LiesInDay, LieInDays}
use Rattle.exchange_hours.specs.Grid.{closing, close_of, IsClosing, closes_at, is_closing, is_bar, meets, in_session, IsGridEnd, bar_start, is_grid_bar, is_grid_end, HasOneBarAtEnd}
use Rattle.exchange_hours.specs.Spans.{IsSpan, IsEnd, IsNextEnd}
use Rattle.exchange_hours.specs.Next.{IsNextFrom}

-- a bar as facts
abbrev pub IsBar : Entries → Resolution → ℕ → ℕ → Type 0
IsBar hours Minute start end = end ≡ start + 1
IsBar hours Hour start end = (start % 60 ≡ 0) × (end ≡ start + 60)
IsBar hours Daily start end = (minute_of_day start ≡ 0) × (close_of hours (day_of start) ≡ Some end)

close_told : (found : Option ℕ) (t : ℕ) → option_map_or (λ closes. closes == t) found false ≡ true → found ≡ Some t
close_told None t h = absurd (true≢false (sym h))
close_told (Some closes) t h = ap Some (grind (arith, nat_tests))

close_tested : (found : Option ℕ) (t : ℕ) → found ≡ Some t → option_map_or (λ closes. closes == t) found false ≡ true
close_tested found t is = rw is (grind (arith, nat_tests))

pub bar_told : (hours : Entries) (resolution : Resolution) (start end : ℕ) → is_bar hours resolution start end ≡ true → IsBar hours resolution start end
bar_told hours Minute start end h = grind (arith, nat_tests)
bar_told hours Hour start end h =
    let parts = and_parts (start % 60 == 0) (end == start + 60) h in (grind (arith, nat_tests), grind (arith, nat_tests))
bar_told hours Daily start end h =
    let parts = and_parts (minute_of_day start == 0) _ h in (grind (arith, nat_tests), close_told (close_of hours (day_of start)) end parts.1)

pub bar_tested : (hours : Entries) (resolution : Resolution) (start end : ℕ) → IsBar hours resolution start end → is_bar hours resolution start end ≡ true
bar_tested hours Minute start end h = grind (arith, nat_tests)
bar_tested hours Hour start end h =
    and_from (start % 60 == 0) (end == start + 60) (grind (arith, nat_tests)) (grind (arith, nat_tests))
bar_tested hours Daily start end h =
    and_from (minute_of_day start == 0) _ (grind (arith, nat_tests)) (close_tested (close_of hours (day_of start)) end h.1)

-- a bar of the grid that ends here, as facts
abbrev EndsBar : Entries → Resolution → ℕ → Type 0
EndsBar hours resolution end =
    (start : ℕ) × IsBar hours resolution start end × (in_session hours start end ≡ true)

bar_at_end : (hours : Entries) (resolution : Resolution) (end : ℕ) → IsGridEnd hours resolution end → EndsBar hours resolution end
bar_at_end hours resolution end g =
    let parts = and_parts (is_bar hours resolution g.0 end) (in_session hours g.0 end) g.1 in
    (g.0, bar_told hours resolution g.0 end parts.0, parts.1)

end_of_bar : (hours : Entries) (resolution : Resolution) (end : ℕ) → EndsBar hours resolution end → IsGridEnd hours resolution end
end_of_bar hours resolution end b =
    (b.0, and_from (is_bar hours resolution b.0 end) (in_session hours b.0 end) (bar_tested hours resolution b.0 end b.1) b.2)

in_session-at : (hours : Entries) (day : ℕ) (span : Span) (start end : ℕ) → day_of start ≡ day → span_on hours day ≡ Some span
    → midnight day + span.opens < end → start < midnight day + span.closes → in_session hours start end ≡ true
unfolding session
in_session-at hours day span start end is_day is_span after before = rw (is_day, is_span) (grind (arith, nat_tests))

end_is_bar : (hours : Entries) (resolution : Resolution) (day : ℕ) (span : Span) (end : ℕ) → span_on hours day ≡ Some span → IsSpan span → IsEnd span resolution end
    → EndsBar hours resolution (midnight day + end)
unfolding session
end_is_bar hours Minute day span end is_span ok is_end =
    (midnight day + (end - 1), omega arith, in_session-at hours day span _ _ (omega arith) is_span (omega arith) (omega arith))
end_is_bar hours Hour day span end is_span ok is_end =
    (midnight day + (end - 60), (omega arith, omega arith), in_session-at hours day span _ _ (omega arith) is_span (omega arith) (omega arith))
end_is_bar hours Daily day span end is_span ok is_end =
    let is_day : day_of (midnight day) ≡ day = omega arith in
    (midnight day, (omega arith, rw (is_day, is_span) (ap (λ e. Some (midnight day + e)) (sym is_end))), in_session-at hours day span _ _ is_day is_span (omega arith) (omega arith))

-- the end of a bar that is in session on a day is a grid end
end_is_grid : (hours : Entries) (resolution : Resolution) (day : ℕ) (span : Span) (end : ℕ) → span_on hours day ≡ Some span → IsSpan span → IsEnd span resolution end
    → IsGridEnd hours resolution (midnight day + end)
end_is_grid hours resolution day span end is_span ok is_end =
    end_of_bar hours resolution _ (end_is_bar hours resolution day span end is_span ok is_end)

span_met : (found : Option Span) (midnight start end : ℕ) → option_map_or (meets start end) (option_map (interval_from midnight) found) false ≡ true
    → (span : Span) × (found ≡ Some span) × (midnight + span.opens < end) × (start < midnight + span.closes)
span_met None midnight start end h = absurd (true≢false (sym h))
span_met (Some span) midnight start end h = (span, refl, grind (arith, nat_tests), grind (arith, nat_tests))

span_closing : (found : Option Span) (midnight end : ℕ) → option_map closing (option_map (interval_from midnight) found) ≡ Some end
    → (span : Span) × (found ≡ Some span) × (midnight + span.closes ≡ end)
span_closing None midnight end h = cc
span_closing (Some span) midnight end h = (span, refl, cc)

pub spans_at : (hours : Entries) (day : ℕ) (span : Span) → LieInDays hours → span_on hours day ≡ Some span → IsSpan span
unfolding session
spans_at hours day span every is =
    let Q : Option Span → Type 0 = λ o. IfSome (option_map (interval_from (midnight day)) o) (LiesInDay day) in
    let lies : LiesInDay day (interval_from (midnight day) span) = subst Q is (every day) in
    (omega arith, omega arith)

on_day : (hours : Entries) (start day : ℕ) (span : Span) → start ≡ day → span_on hours start ≡ Some span → span_on hours day ≡ Some span
on_day hours start day span is h = let P : ℕ → Type 0 = λ d. span_on hours d ≡ Some span in subst P is h

bar_is_end : (hours : Entries) (resolution : Resolution) (day end : ℕ) → LieInDays hours → EndsBar hours resolution end → midnight day < end → end ≤ midnight day + minutes_per_day
    → (span : Span) × (span_on hours day ≡ Some span) × IsEnd span resolution (end - midnight day)
unfolding session
bar_is_end hours Minute day end every g after until =
    let is_day : day_of g.0 ≡ day = omega arith in
    let met = span_met (span_on hours (day_of g.0)) (midnight (day_of g.0)) g.0 end g.2 in
    (met.0, on_day hours _ day met.0 is_day met.1, (omega arith, omega arith))
bar_is_end hours Hour day end every g after until =
    let is_day : day_of g.0 ≡ day = omega arith in
    let met = span_met (span_on hours (day_of g.0)) (midnight (day_of g.0)) g.0 end g.2 in
    (met.0, on_day hours _ day met.0 is_day met.1, (omega arith, omega arith, omega arith))
bar_is_end hours Daily day end every g after until =
    let closes = span_closing (span_on hours (day_of g.0)) (midnight (day_of g.0)) end g.1.1 in
    let lies = spans_at hours (day_of g.0) closes.0 every closes.1 in
    let is_day : day_of g.0 ≡ day = omega arith in
    (closes.0, on_day hours _ day closes.0 is_day closes.1, omega arith)

-- a grid end past 00:00 of a day and up to its 24:00 is the end of a bar of that day
grid_is_end : (hours : Entries) (resolution : Resolution) (day end : ℕ) → LieInDays hours → IsGridEnd hours resolution end → midnight day < end → end ≤ midnight day + minutes_per_day
    → (span : Span) × (span_on hours day ≡ Some span) × IsEnd span resolution (end - midnight day)
grid_is_end hours resolution day end every g after until =
    bar_is_end hours resolution day end every (bar_at_end hours resolution end g) after until

-- no end of the day's bars is left: no grid end lies in the day past `after`
pub next_on-none : (hours : Entries) (resolution : Resolution) (day after from : ℕ) (span : Span) → from ≡ after - midnight day → LieInDays hours → span_on hours day ≡ Some span → IsNextEnd span resolution from None
    → IsNextFrom (IsGridEnd hours resolution) (max after (midnight day)) (midnight day + minutes_per_day) None
next_on-none hours resolution day after from span begins every is none end g past within =
    let e = grid_is_end hours resolution day end every g (omega arith) within in
    let same : e.0 ≡ span = cc in
    omega (arith, none (end - midnight day) (let P : Span → Type 0 = λ s. IsEnd s resolution (end - midnight day) in subst P same e.2))

pub next_on-no_span : (hours : Entries) (resolution : Resolution) (day after : ℕ) → LieInDays hours → span_on hours day ≡ None
    → IsNextFrom (IsGridEnd hours resolution) (max after (midnight day)) (midnight day + minutes_per_day) None
next_on-no_span hours resolution day after every is end g past within =
    let e = grid_is_end hours resolution day end every g (omega arith) within in cc

end_lies : (resolution : Resolution) (span : Span) (end : ℕ) → IsSpan span → IsEnd span resolution end → (0 < end) × (end ≤ minutes_per_day)
end_lies Minute span end ok e = (omega arith, omega arith)
end_lies Hour span end ok e = (omega arith, omega arith)
end_lies Daily span end ok e = (omega arith, omega arith)

within_day : (hours : Entries) (resolution : Resolution) (day after from : ℕ) (span : Span) (minute end : ℕ) → from ≡ after - midnight day → LieInDays hours → span_on hours day ≡ Some span → IsNextEnd span resolution from (Some minute)
    → IsGridEnd hours resolution end → after < end → midnight day < end → end ≤ midnight day + minutes_per_day → midnight day + minute ≤ end
within_day hours resolution day after from span minute end begins every is some g past above within =
    let e = grid_is_end hours resolution day end every g above within in
    let same : e.0 ≡ span = cc in
    let is_end : IsEnd span resolution (end - midnight day) = let P : Span → Type 0 = λ s. IsEnd s resolution (end - midnight day) in subst P same e.2 in
    omega (arith, some.2 (end - midnight day) is_end (omega arith))

at_least : (hours : Entries) (resolution : Resolution) (day after from : ℕ) (span : Span) (minute end : ℕ) → from ≡ after - midnight day → LieInDays hours → span_on hours day ≡ Some span → IsNextEnd span resolution from (Some minute)
    → (0 < minute) × (minute ≤ minutes_per_day) → IsGridEnd hours resolution end → after < end → midnight day < end → midnight day + minute ≤ end
at_least hours resolution day after from span minute end begins every is some lies g past above =
    elim (cases_lt (midnight day + minutes_per_day) end) [ inl later ↦ omega arith | inr within ↦ within_day hours resolution day after from span minute end begins every is some g past above within ]

-- the least end of the day's bars is the least grid end that lies in the day past `after`
pub next_on-some : (hours : Entries) (resolution : Resolution) (day after from : ℕ) (span : Span) (minute : ℕ) → from ≡ after - midnight day → LieInDays hours → span_on hours day ≡ Some span → IsNextEnd span resolution from (Some minute)
    → IsNextFrom (IsGridEnd hours resolution) (max after (midnight day)) (midnight day + minutes_per_day) (Some (midnight day + minute))
next_on-some hours resolution day after from span minute begins every is some =
    let lies = end_lies resolution span minute (spans_at hours day span every is) some.0 in
    (end_is_grid hours resolution day span minute is (spans_at hours day span every is) some.0, omega arith, omega arith, λ end g past. at_least hours resolution day after from span minute end begins every is some lies g (omega arith) (omega arith))

late_day : (hours : Entries) (day : ℕ) → last_day < day → span_on hours day ≡ None
late_day hours day late = let is_late : nat_lt last_day day ≡ true = grind (arith, nat_tests) in rw is_late

none_is_some : {A : Type 0} {x : A} → None ≡ Some x → ⊥
none_is_some h = cc

day_exists : (hours : Entries) (day : ℕ) (span : Span) → span_on hours day ≡ Some span → day ≤ last_day
day_exists hours day span is = elim (cases_lt last_day day) [ inl late ↦ absurd (none_is_some (sym (late_day hours day late) ∙ is)) | inr early ↦ early ]

bar_lies : (hours : Entries) (resolution : Resolution) (end : ℕ) → LieInDays hours → EndsBar hours resolution end → (0 < end) × (end ≤ end_of_days)
unfolding session
bar_lies hours Minute end every g =
    let met = span_met (span_on hours (day_of g.0)) (midnight (day_of g.0)) g.0 end g.2 in
    let exists = day_exists hours (day_of g.0) met.0 met.1 in
    (omega arith, omega arith)
bar_lies hours Hour end every g =
    let met = span_met (span_on hours (day_of g.0)) (midnight (day_of g.0)) g.0 end g.2 in
    let exists = day_exists hours (day_of g.0) met.0 met.1 in
    (omega arith, omega arith)
bar_lies hours Daily end every g =
    let closes = span_closing (span_on hours (day_of g.0)) (midnight (day_of g.0)) end g.1.1 in
    let lies = spans_at hours (day_of g.0) closes.0 every closes.1 in
    let exists = day_exists hours (day_of g.0) closes.0 closes.1 in
    (omega arith, omega arith)

-- every grid end lies between 1970 and 24:00 of the last day
pub grid_lies : (hours : Entries) (resolution : Resolution) (end : ℕ) → LieInDays hours → IsGridEnd hours resolution end → (0 < end) × (end ≤ end_of_days)
grid_lies hours resolution end every g = bar_lies hours resolution end every (bar_at_end hours resolution end g)

starts : (hours : Entries) (resolution : Resolution) (start end : ℕ) → LieInDays hours → IsBar hours resolution start end → start ≡ bar_start resolution end
unfolding session
starts hours Minute start end every b = omega arith
starts hours Hour start end every b = omega arith
starts hours Daily start end every b =
    let closes = span_closing (span_on hours (day_of start)) (midnight (day_of start)) end b.1 in
    let lies = spans_at hours (day_of start) closes.0 every closes.1 in
    omega arith

pub has_one_bar : (hours : Entries) (resolution : Resolution) → LieInDays hours → HasOneBarAtEnd hours resolution
has_one_bar hours resolution every start end h =
    let parts = and_parts (is_bar hours resolution start end) (in_session hours start end) h in
    starts hours resolution start end every (bar_told hours resolution start end parts.0)

-- the daily bars in session end at the closings of the sessions
pub daily_end_is_close : (hours : Entries) (t : ℕ) → IsGridEnd hours Daily t → IsClosing hours t
daily_end_is_close hours t g = let b = bar_at_end hours Daily t g in (day_of b.0, b.1.1)

close_is_end : (hours : Entries) (day t : ℕ) → LieInDays hours → close_of hours day ≡ Some t → IsGridEnd hours Daily t
unfolding session
close_is_end hours day t every is =
    let closes = span_closing (span_on hours day) (midnight day) t is in
    let lies = spans_at hours day closes.0 every closes.1 in
    let is_day : day_of (midnight day) ≡ day = omega arith in
    end_of_bar hours Daily t (midnight day, (omega arith, rw is_day is), in_session-at hours day closes.0 _ _ is_day closes.1 (omega arith) (omega arith))

pub close_is_daily_end : (hours : Entries) (t : ℕ) → LieInDays hours → IsClosing hours t → IsGridEnd hours Daily t
close_is_daily_end hours t every c = close_is_end hours c.0 t every c.1

-- ---- the tests

-- a bar of the grid that ends here is the one that the test looks at
pub grid_tested : (hours : Entries) (resolution : Resolution) → LieInDays hours → (t : ℕ) → IsGridEnd hours resolution t → is_grid_end hours resolution t ≡ true
unfolding is_grid_end
grid_tested hours resolution every t g =
    let P : ℕ → Type 0 = λ start. is_grid_bar hours resolution start t ≡ true in
    subst P (has_one_bar hours resolution every g.0 t g.1) g.1

pub grid_told : (hours : Entries) (resolution : Resolution) (t : ℕ) → is_grid_end hours resolution t ≡ true → IsGridEnd hours resolution t
unfolding is_grid_end
grid_told hours resolution t h = (bar_start resolution t, h)

refuted : (b : Bool) {P : Type 0} → (b ≡ true → P) → ¬ P → b ≡ false
refuted true told no_p = absurd (no_p (told refl))
refuted false told no_p = refl

pub grid_not_told : (hours : Entries) (resolution : Resolution) (t : ℕ) → ¬ IsGridEnd hours resolution t → is_grid_end hours resolution t ≡ false
grid_not_told hours resolution t h = refuted (is_grid_end hours resolution t) (grid_told hours resolution t) h

-- a closing lies in its day
pub close_lies : (hours : Entries) → LieInDays hours → (day t : ℕ) → close_of hours day ≡ Some t → (midnight day < t) × (t ≤ midnight (day + 1))
unfolding session
close_lies hours every day t is =
    let closes = span_closing (span_on hours day) (midnight day) t is in
    let lies = spans_at hours day closes.0 every closes.1 in
    (omega arith, omega arith)

pub closings_rise : (hours : Entries) → LieInDays hours → (day later s t : ℕ) → day < later → close_of hours day ≡ Some s → close_of hours later ≡ Some t → s < t
closings_rise hours every day later s t after is then =
    let first = close_lies hours every day s is in
    let second = close_lies hours every later t then in
    omega arith

pub close_told_by : (hours : Entries) (t : ℕ) → is_closing hours t ≡ true → IsClosing hours t
unfolding is_closing
close_told_by hours t h = (day_of (t - 1), close_told (close_of hours (day_of (t - 1))) t h)

pub close_tested_by : (hours : Entries) → LieInDays hours → (t : ℕ) → IsClosing hours t → is_closing hours t ≡ true
unfolding is_closing
close_tested_by hours every t c =
    let lies = close_lies hours every c.0 t c.1 in
    let day : c.0 ≡ day_of (t - 1) = omega arith in
    let P : ℕ → Type 0 = λ d. closes_at hours d t ≡ true in
    subst P day (close_tested (close_of hours c.0) t c.1)

pub close_not_told : (hours : Entries) (t : ℕ) → ¬ IsClosing hours t → is_closing hours t ≡ false
close_not_told hours t h = refuted (is_closing hours t) (close_told_by hours t) h

same_tests : (a b : Bool) → (a ≡ true → b ≡ true) → (b ≡ true → a ≡ true) → a ≡ b
same_tests true b to from = sym (to refl)
same_tests false true to from = from refl
same_tests false false to from = refl

pub close_daily : (hours : Entries) → LieInDays hours → (t : ℕ) → is_closing hours t ≡ is_grid_end hours Daily t
close_daily hours every t =
    same_tests (is_closing hours t) (is_grid_end hours Daily t)
    (λ h. grid_tested hours Daily every t (close_is_daily_end hours t every (close_told_by hours t h)))
    (λ h. close_tested_by hours every t (daily_end_is_close hours t (grid_told hours Daily t h)))

pub grid_end_lies : (hours : Entries) (resolution : Resolution) → LieInDays hours → (t : ℕ) → is_grid_end hours resolution t ≡ true → (0 < t) × (t ≤ end_of_days)
grid_end_lies hours resolution every t h = grid_lies hours resolution t every (grid_told hours resolution t h)

pub daily_in_session : (hours : Entries) → LieInDays hours → (start end : ℕ) → is_bar hours Daily start end ≡ true → in_session hours start end ≡ true
unfolding session
daily_in_session hours every start end h =
    let b = bar_told hours Daily start end h in
    let closes = span_closing (span_on hours (day_of start)) (midnight (day_of start)) end b.1 in
    let lies = spans_at hours (day_of start) closes.0 every closes.1 in
    in_session-at hours (day_of start) closes.0 start end refl closes.1 (omega arith) (omega arith)

pub no_late_session : (hours : Entries) (day : ℕ) → last_day < day → session hours day ≡ None
unfolding session
no_late_session hours day late = ap (option_map (interval_from (midnight day))) (late_day hours day late)
