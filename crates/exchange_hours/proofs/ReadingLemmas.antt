-- Readings one after the other.
use Rattle.std.proofs.Common.{◌≡◌, ℕ, ◌+◌, ◌<◌, ◌≤◌, Option, List, [], ◌∷◌, ◌++◌, length, get_or, drop, Result, Ok, Err, String, Global, string_bytes, append_assoc, refl, sym, ◌∙◌, ap, arith}
use Rattle.std.specs.List.{enumerate_from}
use Rattle.std.proofs.lemmas.List.FromFn.{get_or-enumerate_from}
use Rattle.std.proofs.lemmas.List.{at_drop_more, drop_all, append-nil}
use Rattle.serde_json.specs.Data.{Data}
use Rattle.serde_json.specs.Find.{get}
use Rattle.serde_json.specs.View.{view, items_view, members_view}
use Rattle.serde_json.specs.declared.value.Value.{Value}
use Rattle.exchange_hours.specs.declared.fault.HoursFault.{HoursFault}
use Rattle.exchange_hours.specs.declared.fault.HoursFault.TheVariants.{Json, NoEntry, DayForm, TimeForm, Holiday, EarlyClose, NoMemory}
use Rattle.exchange_hours.specs.declared.entries.Segment.{Segment}
use Rattle.exchange_hours.specs.declared.entries.EarlyClose.{EarlyClose as EarlyClose'}
use Rattle.exchange_hours.specs.Entries.{Entries}
use Rattle.exchange_hours.specs.HoursFile.{both, each, listed, named, segments, weekday_names, week, holidays, early_close, early_closes, entries_of, IsFault}

moved : {A : Type 0} (done gave : List A) (rest : Result (List A) HoursFault) → both (Ok done) (both (Ok gave) rest) ≡ both (Ok (done ++ gave)) rest
moved done gave (Err fault) = refl
moved done gave (Ok more) = ap Ok (sym (append_assoc done gave more))

-- a fault among what is left is the fault of the whole
pub both_fault : {A : Type 0} (done : List A) (step rest whole : Result (List A) HoursFault) (fault : HoursFault) → both (Ok done) (both step rest) ≡ whole → IsFault (both (Ok done) step) fault → IsFault whole fault
both_fault done (Err e) rest whole Json is h = sym is ∙ h
both_fault done (Err e) rest whole NoEntry is h = sym is ∙ h
both_fault done (Err e) rest whole DayForm is h = sym is ∙ h
both_fault done (Err e) rest whole TimeForm is h = sym is ∙ h
both_fault done (Err e) rest whole Holiday is h = sym is ∙ h
both_fault done (Err e) rest whole EarlyClose is h = sym is ∙ h
both_fault done step rest whole NoMemory is h = tt
both_fault done (Ok xs) rest whole Json is h = cc
both_fault done (Ok xs) rest whole NoEntry is h = cc
both_fault done (Ok xs) rest whole DayForm is h = cc
both_fault done (Ok xs) rest whole TimeForm is h = cc
both_fault done (Ok xs) rest whole Holiday is h = cc
both_fault done (Ok xs) rest whole EarlyClose is h = cc

-- what is done goes on with what is left
pub both_next : {A : Type 0} (done now : List A) (step rest whole : Result (List A) HoursFault) → both (Ok done) (both step rest) ≡ whole → both (Ok done) step ≡ Ok now → both (Ok now) rest ≡ whole
both_next done now (Err fault) rest whole is h = cc
both_next done now (Ok gave) rest whole is h =
    let same : done ++ gave ≡ now = cc in ap (λ xs. both (Ok xs) rest) (sym same) ∙ sym (moved done gave rest) ∙ is

pub both_nothing : {A : Type 0} (xs : List A) (whole : Result (List A) HoursFault) → xs ≡ [] → both (Ok xs) whole ≡ whole
both_nothing xs (Err fault) is = refl
both_nothing xs (Ok ys) is = ap (λ zs. Ok (zs ++ ys)) is

-- nothing is left, so what is done is the whole
pub both_end : {A : Type 0} (done : List A) (rest whole : Result (List A) HoursFault) → rest ≡ Ok [] → both (Ok done) rest ≡ whole → whole ≡ Ok done
both_end done rest whole none is = sym is ∙ ap (both (Ok done)) none ∙ ap Ok (append-nil done)

-- ---- a loop that reads the values of a list

-- what is left of the list from one place on
abbrev pub left : {A : Type 0} → (Data → Result (List A) HoursFault) → List Value → ℕ → Result (List A) HoursFault
left read xs i = each read (listed (items_view (drop i xs)))

left_next : {A : Type 0} (read : Data → Result (List A) HoursFault) (xs : List Value) (i : ℕ) (x : Value) → i < length xs → x ≡ get_or xs i x
    → left read xs i ≡ both (read (view x)) (left read xs (i + 1))
left_next read xs i x within is =
    at_drop_more (λ vs. each read (listed (items_view vs))) xs i x within
    ∙ ap (λ y. both (read (view y)) (left read xs (i + 1))) (sym is)

pub left_more : {A : Type 0} (read : Data → Result (List A) HoursFault) (done now : List A) (xs : List Value) (i : ℕ) (x : Value) (whole : Result (List A) HoursFault) → i < length xs → x ≡ get_or xs i x
    → both (Ok done) (left read xs i) ≡ whole → both (Ok done) (read (view x)) ≡ Ok now → both (Ok now) (left read xs (i + 1)) ≡ whole
left_more read done now xs i x whole within is before gave =
    both_next done now (read (view x)) (left read xs (i + 1)) whole (ap (both (Ok done)) (sym (left_next read xs i x within is)) ∙ before) gave

pub left_fault : {A : Type 0} (read : Data → Result (List A) HoursFault) (done : List A) (xs : List Value) (i : ℕ) (x : Value) (whole : Result (List A) HoursFault) (fault : HoursFault) → i < length xs → x ≡ get_or xs i x
    → both (Ok done) (left read xs i) ≡ whole → IsFault (both (Ok done) (read (view x))) fault → IsFault whole fault
left_fault read done xs i x whole fault within is before gave =
    both_fault done (read (view x)) (left read xs (i + 1)) whole fault (ap (both (Ok done)) (sym (left_next read xs i x within is)) ∙ before) gave

pub left_none : {A : Type 0} (read : Data → Result (List A) HoursFault) (done : List A) (xs : List Value) (i : ℕ) (whole : Result (List A) HoursFault) → length xs ≤ i → both (Ok done) (left read xs i) ≡ whole → whole ≡ Ok done
left_none read done xs i whole past before =
    both_end done (left read xs i) whole (ap (λ vs. each read (listed (items_view vs))) (drop_all i xs past)) before

-- ---- the loop over the members of an object

pub members_next : (left more : List (String Global × Value)) (date : String Global) (time : Value) (key : List ℕ) → left ≡ (date, time) ∷ more → key ≡ string_bytes date
    → each early_close (named (members_view left)) ≡ both (early_close (key, view time)) (each early_close (named (members_view more)))
members_next left more date time key is is_key =
    ap (λ ms. each early_close (named (members_view ms))) is
    ∙ ap (λ k. both (early_close (k, view time)) (each early_close (named (members_view more)))) (sym is_key)

-- ---- the loop over the weekdays

-- what is left of the week from one weekday on
pub week_left : ℕ → Data → Result (List Segment) HoursFault
week_left weekday entry = each (λ day. segments day.0 (get day.1 entry)) (drop weekday (enumerate_from 0 weekday_names))

pub week_first : (entry : Data) → week entry ≡ week_left 0 entry
unfolding week week_left
week_first entry = refl

pub week_next : (weekday : ℕ) (name : List ℕ) (entry : Data) (found : Option Data) → weekday < 7 → name ≡ get_or weekday_names weekday [] → found ≡ get name entry
    → week_left weekday entry ≡ both (segments weekday found) (week_left (weekday + 1) entry)
unfolding week_left
week_next weekday name entry found within is_name is_found =
    let read : ℕ × List ℕ → Result (List Segment) HoursFault = λ day. segments day.0 (get day.1 entry) in
    let days = enumerate_from 0 weekday_names in
    let number : 0 + weekday ≡ weekday = omega arith in
    at_drop_more (each read) days weekday (weekday, []) within
    ∙ ap (λ day. both (read day) (week_left (weekday + 1) entry)) (get_or-enumerate_from 0 weekday_names weekday (weekday, []) within)
    ∙ ap (λ d. both (segments d (get (get_or weekday_names weekday []) entry)) (week_left (weekday + 1) entry)) number
    ∙ ap (λ n. both (segments weekday (get n entry)) (week_left (weekday + 1) entry)) (sym is_name)
    ∙ ap (λ o. both (segments weekday o) (week_left (weekday + 1) entry)) (sym is_found)

pub week_none : (weekday : ℕ) (entry : Data) → 7 ≤ weekday → week_left weekday entry ≡ Ok []
unfolding week_left
week_none weekday entry past = ap (each (λ day. segments day.0 (get day.1 entry))) (drop_all weekday (enumerate_from 0 weekday_names) past)

-- ---- the whole entry

first_fault : {A : Type 0} (done : List A) (read : Result (List A) HoursFault) (whole : Result Entries HoursFault) (fault : HoursFault) → ((e : HoursFault) → read ≡ Err e → whole ≡ Err e)
    → IsFault (both (Ok done) read) fault → IsFault whole fault
first_fault done (Err e) whole Json stops h = let same : e ≡ Json = cc in stops e refl ∙ ap Err same
first_fault done (Err e) whole NoEntry stops h = let same : e ≡ NoEntry = cc in stops e refl ∙ ap Err same
first_fault done (Err e) whole DayForm stops h = let same : e ≡ DayForm = cc in stops e refl ∙ ap Err same
first_fault done (Err e) whole TimeForm stops h = let same : e ≡ TimeForm = cc in stops e refl ∙ ap Err same
first_fault done (Err e) whole Holiday stops h = let same : e ≡ Holiday = cc in stops e refl ∙ ap Err same
first_fault done (Err e) whole EarlyClose stops h = let same : e ≡ EarlyClose = cc in stops e refl ∙ ap Err same
first_fault done read whole NoMemory stops h = tt
first_fault done (Ok xs) whole Json stops h = cc
first_fault done (Ok xs) whole NoEntry stops h = cc
first_fault done (Ok xs) whole DayForm stops h = cc
first_fault done (Ok xs) whole TimeForm stops h = cc
first_fault done (Ok xs) whole Holiday stops h = cc
first_fault done (Ok xs) whole EarlyClose stops h = cc

-- what was read onto an empty list is all of it
pub all_read : {A : Type 0} (done items : List A) (read : Result (List A) HoursFault) → done ≡ [] → both (Ok done) read ≡ Ok items → read ≡ Ok items
all_read done items read none is = sym (both_nothing done read none) ∙ is

pub week_fault : (done : List Segment) (read : Result (List Segment) HoursFault) (days : Result (List ℕ) HoursFault) (closes : Result (List EarlyClose') HoursFault) (fault : HoursFault)
    → IsFault (both (Ok done) read) fault → IsFault (entries_of read days closes) fault
week_fault done read days closes fault h =
    first_fault done read (entries_of read days closes) fault (λ e is. ap (λ r. entries_of r days closes) is) h

pub holidays_fault : (items : List Segment) (read : Result (List Segment) HoursFault) (done : List ℕ) (found want : Option Data) (closes : Result (List EarlyClose') HoursFault) (fault : HoursFault)
    → read ≡ Ok items → found ≡ want → IsFault (both (Ok done) (holidays found)) fault → IsFault (entries_of read (holidays want) closes) fault
holidays_fault items read done found want closes fault before is h =
    first_fault done (holidays found) (entries_of read (holidays want) closes) fault
    (λ e stops. ap (λ r. entries_of r (holidays want) closes) before ∙ ap (λ r. entries_of (Ok items) r closes) (ap holidays (sym is) ∙ stops)) h

pub closes_fault : (items : List Segment) (read : Result (List Segment) HoursFault) (numbers : List ℕ) (days : Result (List ℕ) HoursFault) (done : List EarlyClose') (found want : Option Data) (fault : HoursFault)
    → read ≡ Ok items → days ≡ Ok numbers → found ≡ want → IsFault (both (Ok done) (early_closes found)) fault → IsFault (entries_of read days (early_closes want)) fault
closes_fault items read numbers days done found want fault before then is h =
    first_fault done (early_closes found) (entries_of read days (early_closes want)) fault
    (λ e stops. ap (λ r. entries_of r days (early_closes want)) before ∙ ap (λ r. entries_of (Ok items) r (early_closes want)) then ∙ ap (entries_of (Ok items) (Ok numbers)) (ap early_closes (sym is) ∙ stops)) h

pub whole_entry : (items : List Segment) (read : Result (List Segment) HoursFault) (numbers : List ℕ) (days : Result (List ℕ) HoursFault) (shorter : List EarlyClose') (closes : Result (List EarlyClose') HoursFault)
    → read ≡ Ok items → days ≡ Ok numbers → closes ≡ Ok shorter → entries_of read days closes ≡ Ok (record { segments = items; holidays = numbers; early_closes = shorter })
whole_entry items read numbers days shorter closes a b c =
    ap (λ r. entries_of r days closes) a ∙ ap (λ r. entries_of (Ok items) r closes) b ∙ ap (entries_of (Ok items) (Ok numbers)) c
