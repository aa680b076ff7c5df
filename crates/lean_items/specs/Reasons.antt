-- The words in which a report says why a line was refused.
use Rattle.std.specs.Prelude.{ℕ, List, codes}
use Rattle.lean_items.specs.declared.reason.Reason.{Reason}
use Rattle.lean_items.specs.declared.reason.Reason.TheVariants.{Many, Long, Fields, Time, Price, Volume, Range, Order}

abbrev pub reason_text : Reason → List ℕ
reason_text Many = codes "many"
reason_text Long = codes "long"
reason_text Fields = codes "fields"
reason_text Time = codes "time"
reason_text Price = codes "price"
reason_text Volume = codes "volume"
reason_text Range = codes "range"
reason_text Order = codes "order"
