-- What the bytes of an hours file say of a market, or the first fault in them.
use Rattle.std.specs.Prelude.{ℕ, ◌≡◌, ⊤, nat_lt, if◌then◌else◌, List, [], ◌∷◌, ◌++◌, codes, bytes_eq, is_some, option_and_then, option_to_list, option_map, map, Option, Some, None, Result, Ok, Err}
use Rattle.std.specs.List.{enumerate_from}
use Rattle.std.specs.Str.{is_utf8}
use Rattle.serde_json.specs.Data.{Data, Items, no_items, item, Members, no_members, member}
use Rattle.serde_json.specs.Find.{get, as_str, as_array, as_object}
use Rattle.serde_json.specs.Read.{read}
use Rattle.serde_json.specs.View.{view}
use Rattle.serde_json.specs.declared.value.Value.{Value}
use Rattle.exchange_hours.specs.declared.entries.Segment.{Segment}
use Rattle.exchange_hours.specs.declared.entries.EarlyClose.{EarlyClose}
use Rattle.exchange_hours.specs.declared.fault.HoursFault.{HoursFault}
use Rattle.exchange_hours.specs.declared.fault.HoursFault.TheVariants.{Json, NoEntry, DayForm, TimeForm, Holiday, EarlyClose as BadEarlyClose, NoMemory}
use Rattle.exchange_hours.specs.Entries.{Entries}
use Rattle.exchange_hours.specs.Times.{time_of, date_of, day_within}
use Rattle.lean_fixed.specs.Calendar.{Civil}

-- ---- readings

-- one after the other: the first fault, or all that they gave
abbrev pub both : {A : Type 0} → Result (List A) HoursFault → Result (List A) HoursFault → Result (List A) HoursFault
both (Err fault) second = Err fault
both (Ok xs) (Err fault) = Err fault
both (Ok xs) (Ok ys) = Ok (xs ++ ys)

-- of each of some things
abbrev pub each : {X A : Type 0} → (X → Result (List A) HoursFault) → List X → Result (List A) HoursFault
each read [] = Ok []
each read (x ∷ xs) = both (read x) (each read xs)

-- the same of a list that may not be one, which is this fault
abbrev pub each_or : {X A : Type 0} → HoursFault → (X → Result (List A) HoursFault) → Option (List X) → Result (List A) HoursFault
each_or fault read None = Err fault
each_or fault read (Some xs) = each read xs

-- the same of a member that is a list in some form; one that isn't there has nothing to read
abbrev pub each_of : {X A : Type 0} → (Data → Option (List X)) → HoursFault → (X → Result (List A) HoursFault) → Option Data → Result (List A) HoursFault
each_of form fault read None = Ok []
each_of form fault read (Some d) = each_or fault read (form d)

-- the values of a list, and the members of an object by the order of their names
abbrev pub listed : Items → List Data
listed no_items = []
listed (item d ds) = d ∷ listed ds

abbrev pub named : Members → List (List ℕ × Data)
named no_members = []
named (member name d ms) = (name, d) ∷ named ms

abbrev pub list_of : Data → Option (List Data)
list_of d = option_map listed (as_array d)

abbrev pub object_of : Data → Option (List (List ℕ × Data))
object_of d = option_map named (as_object d)

abbrev pub text_at : List ℕ → Data → Option (List ℕ)
text_at name d = option_and_then as_str (get name d)

-- ---- the weekdays

-- a segment of a weekday with these times
abbrev pub timed : ℕ → List ℕ → Option ℕ → Option ℕ → Result (List Segment) HoursFault
timed weekday state (Some start) (Some end) =
    if nat_lt start end
    then Ok (record { weekday = weekday; is_market = bytes_eq state (codes "market"); start = start; end = end } ∷ [])
    else Err DayForm
timed weekday state start end = Err TimeForm

abbrev pub segment_of : ℕ → Option (List ℕ) → Option (List ℕ) → Option (List ℕ) → Result (List Segment) HoursFault
segment_of weekday (Some start) (Some end) (Some state) = timed weekday state (time_of start) (time_of end)
segment_of weekday start end state = Err DayForm

abbrev pub segment : ℕ → Data → Result (List Segment) HoursFault
segment weekday d = segment_of weekday (text_at (codes "start") d) (text_at (codes "end") d) (text_at (codes "state") d)

abbrev pub segments : ℕ → Option Data → Result (List Segment) HoursFault
segments weekday = each_of list_of DayForm (segment weekday)

abbrev pub weekday_names : List (List ℕ)
weekday_names =
    codes "sunday" ∷ codes "monday" ∷ codes "tuesday" ∷ codes "wednesday" ∷ codes "thursday" ∷ codes "friday"
    ∷ codes "saturday" ∷ []

-- the segments of all weekdays, which count from 0 for Sunday
unfoldable pub week : Data → Result (List Segment) HoursFault
week entry = each (λ day. segments day.0 (get day.1 entry)) (enumerate_from 0 weekday_names)

-- ---- the closed days

-- the day of a date; one outside the years from 1970 to 2199 has none
abbrev pub days_of : Civil → List ℕ
days_of date = option_to_list (day_within date)

abbrev pub holiday_on : Option Civil → Result (List ℕ) HoursFault
holiday_on None = Err Holiday
holiday_on (Some date) = Ok (days_of date)

abbrev pub holiday : Data → Result (List ℕ) HoursFault
holiday d = holiday_on (option_and_then date_of (as_str d))

abbrev pub holidays : Option Data → Result (List ℕ) HoursFault
holidays = each_of list_of Holiday holiday

abbrev pub close_on : Option Civil → Option ℕ → Result (List EarlyClose) HoursFault
close_on (Some date) (Some minute) = Ok (map (λ day. record { day = day; minute = minute }) (days_of date))
close_on date minute = Err BadEarlyClose

abbrev pub early_close : List ℕ × Data → Result (List EarlyClose) HoursFault
early_close (date, d) = close_on (date_of date) (option_and_then time_of (as_str d))

abbrev pub early_closes : Option Data → Result (List EarlyClose) HoursFault
early_closes = each_of object_of BadEarlyClose early_close

-- ---- the file

abbrev pub entries_of : Result (List Segment) HoursFault → Result (List ℕ) HoursFault → Result (List EarlyClose) HoursFault → Result Entries HoursFault
entries_of (Err fault) days closes = Err fault
entries_of (Ok week) (Err fault) closes = Err fault
entries_of (Ok week) (Ok days) (Err fault) = Err fault
entries_of (Ok week) (Ok days) (Ok closes) = Ok (record { segments = week; holidays = days; early_closes = closes })

abbrev pub hours_of_entry : Option Data → Result Entries HoursFault
hours_of_entry None = Err NoEntry
hours_of_entry (Some entry) =
    entries_of (week entry) (holidays (get (codes "holidays") entry)) (early_closes (get (codes "earlyCloses") entry))

abbrev pub if_object : Data → Option Data
if_object d = if is_some (as_object d) then Some d else None

-- the entry of a market, where the tree has it and it is an object
abbrev pub market_entry : List ℕ → Data → Option Data
market_entry market tree = option_and_then if_object (option_and_then (get market) (get (codes "entries") tree))

-- the value that the bytes are in JSON, where they are one
abbrev pub json_of : List ℕ → Option Data
json_of bytes = if is_utf8 bytes then read bytes else None

abbrev pub hours_of_tree : List ℕ → Option Data → Result Entries HoursFault
hours_of_tree market None = Err Json
hours_of_tree market (Some tree) = hours_of_entry (market_entry market tree)

-- the entries of a market by an hours file, or the file's first fault
abbrev pub hours_of : List ℕ → List ℕ → Result Entries HoursFault
hours_of market bytes = hours_of_tree market (json_of bytes)

-- the market of US equities
abbrev pub us_equities : List ℕ
us_equities = codes "Equity-usa-[*]"

-- ---- answers

-- a reading that was refused for this fault; want of memory is free
abbrev pub IsFault : {A : Type 0} → Result A HoursFault → HoursFault → Type 0
IsFault want NoMemory = Unit {0}
IsFault want fault = want ≡ Err fault

-- what was read, or the fault for which it was refused
abbrev pub IsAnswer : {A : Type 0} → Result A HoursFault → Result A HoursFault → Type 0
IsAnswer want (Ok value) = want ≡ Ok value
IsAnswer want (Err fault) = IsFault want fault

-- the same of a reading that leaves what it read in a list
abbrev pub Leaves : {A : Type 0} → Result (List A) HoursFault → List A → Result ⊤ HoursFault → Type 0
Leaves want items (Ok _) = want ≡ Ok items
Leaves want items (Err fault) = IsFault want fault

-- the tree of a file, or the fault that it has none
abbrev pub IsTree : Option Data → Result Value HoursFault → Type 0
IsTree want (Ok tree) = want ≡ Some (view tree)
IsTree want (Err NoMemory) = Unit {0}
IsTree want (Err fault) = (want ≡ None) × (fault ≡ Json)
