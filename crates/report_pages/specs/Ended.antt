-- How a tape ends that no failed read cuts short.
use Rattle.std.specs.Prelude.{Option, Some, None}
use Rattle.report_pages.specs.declared.ended.Ended.{Ended}
use Rattle.report_pages.specs.declared.ended.Ended.TheVariants.{Done, BadRow}

-- it is whole, or it names the malformed line that stops it
abbrev pub ended_by : {X : Type 0} → Option X → Ended
ended_by None = Done
ended_by (Some refusal) = BadRow
