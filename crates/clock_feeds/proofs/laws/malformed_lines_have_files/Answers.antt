use Rattle.std.proofs.Common.{refl}
use Rattle.std.proofs.lemmas.List.Elements.{All-from_recursion}
use Rattle.clock_feeds.specs.Feeds.{feed}
use Rattle.clock_feeds.specs.Lists.{IsInFile}
use Rattle.clock_feeds.proofs.FileLemmas.{bars_stop, rows_stop}
use Rattle.clock_feeds.proofs.KeyLemmas.{in_file}
use Rattle.clock_feeds.proofs.laws.malformed_lines_have_files.Goals as goal

pub returns-clause-bars : goal.returns-clause-bars
returns-clause-bars c = bars_stop

pub returns-clause-rows : goal.returns-clause-rows
returns-clause-rows c = rows_stop

pub returns-clause-feed : goal.returns-clause-feed
returns-clause-feed c =
    λ files hours window key is_window.
    All-from_recursion IsInFile (feed files hours window key) (in_file files hours window key is_window key.kind refl)
