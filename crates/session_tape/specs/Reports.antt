-- What a session tape has printed when it ends.
use Rattle.std.specs.Prelude.{◌≡◌, ℕ, ◌≤◌, List, [], Option}
use Rattle.lean_fixed.specs.Calendar.{last_day}
use Rattle.lean_fixed.specs.declared.resolution.Resolution.{Resolution}
use Rattle.lean_fixed.specs.declared.time.Window.{Window}
use Rattle.clock_feeds.specs.Slices.{Source}
use Rattle.lean_items.specs.declared.feed_key.FeedKind.TheVariants.{Equity}
use Rattle.report_pages.specs.Ended.{ended_by}
use Rattle.report_pages.specs.Lines.{end_line, data_line}
use Rattle.report_pages.specs.Printed.{IsTaken, IsFront}
use Rattle.report_pages.specs.declared.ended.Ended.{Ended}
use Rattle.report_pages.specs.declared.ended.Ended.TheVariants.{Done, BadRow, ReadFault}
use Rattle.session_tape.specs.declared.ending.Ending.{Ending}
use Rattle.session_tape.specs.declared.ending.Ending.TheVariants.{Whole, Refused, Faulted}
use Rattle.session_tape.specs.Session.{SessionBar, session, session_text, session_bytes}
use Rattle.session_tape.specs.Whole.{IsWhole}

-- What the sink took of a tape that ended by itself: all of it, or after a failed read the bars of whole minutes.
abbrev pub IsReport : Resolution → Window → List (List ℕ × Source) → Option (List ℕ) → Option (List ℕ) → Ended → Type 0
IsReport resolution window sources before after ReadFault =
    (bars : List SessionBar) × IsWhole sources window bars × IsTaken before after (session_text bars)
IsReport resolution window sources before after ended =
    (ended ≡ ended_by (session sources window).stop) × IsTaken before after (session_bytes resolution (session sources window))

-- of one that was cut short: a front of it
abbrev pub IsReportFront : Resolution → Window → List (List ℕ × Source) → Option (List ℕ) → Option (List ℕ) → Type 0
IsReportFront resolution window sources before after =
    IsFront before after (session_bytes resolution (session sources window))

-- the malformed line that is due is one of a file that has a number
abbrev pub HasFile : Ending → Type 0
HasFile (Whole bars) = Unit {0}
HasFile (Refused symbol bad) = bad.file ≤ last_day
HasFile Faulted = Unit {0}

-- what is printed behind the last bar, and how the tape ends
abbrev pub IsLast : Resolution → Ending → Ended → List ℕ → Type 0
IsLast resolution (Whole bars) ended last = (ended ≡ Done) × (last ≡ end_line bars)
IsLast resolution (Refused symbol bad) ended last =
    (ended ≡ BadRow) × (last ≡ data_line (Equity symbol resolution) bad)
IsLast resolution Faulted ended last = (ended ≡ ReadFault) × (last ≡ [])
