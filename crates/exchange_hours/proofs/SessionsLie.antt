-- Sessions lie in their days, since the segments that a file has do.
use Rattle.std.proofs.Common.{◌≡◌, ℕ, ◌+◌, ◌*◌, ◌≤◌, ◌&&◌, ◌||◌, ◌==◌, min, Bool, true, false, cond, nat_lt, nat_le, List, [], ◌∷◌, length, take, drop, slice_index, codes, bytes_eq, fold, filter, All, Option, Some, None, option_map, IfSome, Result, Ok, Err, refl, sym, subst, arith}
use Rattle.std.proofs.lemmas.Bool.Decides.{nat_tests}
use Rattle.std.proofs.lemmas.List.Elements.{All-nil, All-cons, All-head, All-tail, All-append, All-filter}
use Rattle.std.specs.List.{enumerate_from}
use Rattle.serde_json.specs.Data.{Data}
use Rattle.serde_json.specs.Find.{get}
use Rattle.lean_fixed.specs.Calendar.{weekday as day_of_week}
use Rattle.lean_fixed.specs.Digits.{digits}
use Rattle.lean_fixed.specs.Moments.{midnight, minutes_per_day}
use Rattle.exchange_hours.specs.declared.entries.Segment.{Segment}
use Rattle.exchange_hours.specs.declared.spans.Span.{Span}
use Rattle.exchange_hours.specs.declared.fault.HoursFault.{HoursFault}
use Rattle.exchange_hours.specs.declared.fault.HoursFault.TheVariants.{DayForm}
use Rattle.exchange_hours.specs.Entries.{Entries}
use Rattle.exchange_hours.specs.Times.{clock, hour_minute, without_seconds, time_of}
use Rattle.exchange_hours.specs.HoursFile.{both, each, each_or, list_of, timed, segment_of, text_at, segment, segments, weekday_names, week}
use Rattle.exchange_hours.specs.Sessions.{widened, usual_span, early_close, shortened, span_on, session, interval_from, LiesInDay, LieInDays}
use Rattle.exchange_hours.specs.Spans.{IsSpan, IsInOrder}

-- ---- times

abbrev IsMinute : Option ℕ → Type 0
IsMinute found = IfSome found (λ minute. minute ≤ minutes_per_day)

guarded : (b : Bool) (minute : ℕ) → (b ≡ true → minute ≤ minutes_per_day) → IsMinute (cond b (Some minute) None)
guarded true minute h = h refl
guarded false minute h = tt

chosen : (b : Bool) (one other : Option ℕ) → IsMinute one → IsMinute other → IsMinute (cond b one other)
chosen true one other h k = h
chosen false one other h k = k

clock_is_minute : (hour minute : Option ℕ) → IsMinute (clock hour minute)
clock_is_minute None minute = tt
clock_is_minute (Some hour) None = tt
clock_is_minute (Some hour) (Some minute) =
    guarded (nat_lt hour 24 && nat_lt minute 60) (60 * hour + minute) (λ e. grind (arith, nat_tests))

hour_minute_is_minute : (text : List ℕ) → IsMinute (hour_minute text)
hour_minute_is_minute text =
    chosen ((length text == 5) && (slice_index text 2 == 58)) _ None (clock_is_minute (digits (take 2 text)) (digits (drop 3 text))) tt

time_is_minute : (text : List ℕ) → IsMinute (time_of text)
time_is_minute text =
    chosen (bytes_eq text (codes "1.00:00:00") || bytes_eq (without_seconds text) (codes "24:00")) (Some minutes_per_day) _ (omega arith) (hour_minute_is_minute (without_seconds text))

-- ---- segments

abbrev pub InOrder : Result (List Segment) HoursFault → Type 0
InOrder (Ok segments) = All IsInOrder segments
InOrder (Err fault) = Unit {0}

both_in_order : (first second : Result (List Segment) HoursFault) → InOrder first → InOrder second → InOrder (both first second)
both_in_order (Err fault) second h k = tt
both_in_order (Ok xs) (Err fault) h k = tt
both_in_order (Ok xs) (Ok ys) h k = All-append IsInOrder xs ys h k

one_in_order : (b : Bool) (s : Segment) (fault : HoursFault) → (b ≡ true → IsInOrder s) → InOrder (cond b (Ok (s ∷ [])) (Err fault))
one_in_order true s fault h = All-cons IsInOrder s [] (h refl) (All-nil IsInOrder)
one_in_order false s fault h = tt

timed_in_order : (weekday : ℕ) (state : List ℕ) (start end : Option ℕ) → IsMinute end → InOrder (timed weekday state start end)
timed_in_order weekday state None end h = tt
timed_in_order weekday state (Some start) None h = tt
timed_in_order weekday state (Some start) (Some end) h =
    one_in_order (nat_lt start end) _ _ (λ e. (grind (arith, nat_tests), h))

segment_in_order : (weekday : ℕ) (start end state : Option (List ℕ)) → InOrder (segment_of weekday start end state)
segment_in_order weekday None end state = tt
segment_in_order weekday (Some start) None state = tt
segment_in_order weekday (Some start) (Some end) None = tt
segment_in_order weekday (Some start) (Some end) (Some state) = timed_in_order weekday state (time_of start) (time_of end) (time_is_minute end)

listed_in_order : (weekday : ℕ) (list : List Data) → InOrder (each (segment weekday) list)
listed_in_order weekday [] = All-nil IsInOrder
listed_in_order weekday (d ∷ ds) =
    both_in_order (segment weekday d) (each (segment weekday) ds) (segment_in_order weekday (text_at (codes "start") d) (text_at (codes "end") d) (text_at (codes "state") d)) (listed_in_order weekday ds)

or_in_order : (weekday : ℕ) (list : Option (List Data)) → InOrder (each_or DayForm (segment weekday) list)
or_in_order weekday None = tt
or_in_order weekday (Some list) = listed_in_order weekday list

day_in_order : (weekday : ℕ) (found : Option Data) → InOrder (segments weekday found)
day_in_order weekday None = All-nil IsInOrder
day_in_order weekday (Some d) = or_in_order weekday (list_of d)

days_in_order : (entry : Data) (days : List (ℕ × List ℕ)) → InOrder (each (λ day. segments day.0 (get day.1 entry)) days)
days_in_order entry [] = All-nil IsInOrder
days_in_order entry (day ∷ days) =
    both_in_order (segments day.0 (get day.1 entry)) (each (λ day. segments day.0 (get day.1 entry)) days) (day_in_order day.0 (get day.1 entry)) (days_in_order entry days)

week_in_order : (entry : Data) → InOrder (week entry)
unfolding week
week_in_order entry = days_in_order entry (enumerate_from 0 weekday_names)

-- the segments that were read from a week
pub week_read : (done items : List Segment) (entry : Data) → done ≡ [] → both (Ok done) (week entry) ≡ Ok items → All IsInOrder items
week_read done items entry none read =
    subst InOrder read (both_in_order (Ok done) (week entry) (let P : List Segment → Type 0 = All IsInOrder in subst P (sym none) (All-nil IsInOrder)) (week_in_order entry))

-- ---- hours of a day

widened_is_span : (found : Option Span) (s : Segment) → IfSome found IsSpan → IsInOrder s → IfSome (widened found s) IsSpan
widened_is_span None s h k = k
widened_is_span (Some span) s h k = (omega arith, omega arith)

fold_is_span : (segments : List Segment) (found : Option Span) → IfSome found IsSpan → All IsInOrder segments → IfSome (fold widened found segments) IsSpan
fold_is_span [] found h k = h
fold_is_span (s ∷ more) found h k =
    fold_is_span more (widened found s) (widened_is_span found s h (All-head IsInOrder s more k)) (All-tail IsInOrder s more k)

cut_is_span : (b : Bool) (span : Span) (minute : ℕ) → b ≡ nat_le minute span.opens → IsSpan span → IfSome (cond b None (Some (record { opens = span.opens; closes = min span.closes minute }))) IsSpan
cut_is_span true span minute e h = tt
cut_is_span false span minute e h = (grind (arith, nat_tests), omega arith)

shortened_is_span : (found : Option Span) (minute : Option ℕ) → IfSome found IsSpan → IfSome (shortened found minute) IsSpan
shortened_is_span None minute h = tt
shortened_is_span (Some span) None h = h
shortened_is_span (Some span) (Some minute) h = cut_is_span (nat_le minute span.opens) span minute refl h

left_is_span : (b : Bool) (found : Option Span) → IfSome found IsSpan → IfSome (cond b None found) IsSpan
left_is_span true found h = tt
left_is_span false found h = h

moment_lies : (day : ℕ) (found : Option Span) → IfSome found IsSpan → IfSome (option_map (interval_from (midnight day)) found) (LiesInDay day)
moment_lies day None h = tt
moment_lies day (Some span) h = (omega arith, omega arith, omega arith)

pub sessions_lie : (hours : Entries) → All IsInOrder hours.segments → LieInDays hours
unfolding session
sessions_lie hours h day =
    let usual = fold_is_span (filter (λ s. (s.weekday == day_of_week day) && s.is_market) hours.segments) None tt (All-filter _ IsInOrder hours.segments h) in
    moment_lies day (span_on hours day) (left_is_span _ _ (shortened_is_span (usual_span hours.segments (day_of_week day)) (early_close hours.early_closes day) usual))
