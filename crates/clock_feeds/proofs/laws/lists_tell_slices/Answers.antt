use Rattle.std.proofs.Common.{sym, ap}
use Rattle.clock_feeds.specs.Feeds.{feed_of}
use Rattle.clock_feeds.proofs.SliceLemmas.{bars_at_told, bad_told, slice_told, refused_told}
use Rattle.clock_feeds.proofs.laws.lists_tell_slices.Goals as goal

pub returns-clause-source : goal.returns-clause-source
returns-clause-source g c = λ name files hours window key symbol resolution is. ap (λ kind. (name, feed_of files hours window key kind)) (sym is)

pub returns-clause-slice : goal.returns-clause-slice
returns-clause-slice g c = λ sources t ends. slice_told t sources ends

pub returns-clause-refused : goal.returns-clause-refused
returns-clause-refused g c = λ sources t ends. refused_told t sources ends

pub returns-clause-bars : goal.returns-clause-bars
returns-clause-bars g c = λ source t ends. bars_at_told t source ends

pub returns-clause-bad : goal.returns-clause-bad
returns-clause-bad g c = λ source t ends. bad_told t source ends
