use Rattle.feed_paths.proofs.FileLemmas.{files_rise}
use Rattle.feed_paths.proofs.laws.files_rise.Goals as goal

pub returns : goal.returns
returns c = λ key window hours. files_rise key.kind key.start.0 window hours
