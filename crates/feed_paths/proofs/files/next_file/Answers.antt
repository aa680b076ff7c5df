use Rattle.feed_paths.specs.Files.{files_after}
use Rattle.feed_paths.proofs.FileLemmas.{none_left, rest_left, coarse_same, minute_same}
use Rattle.feed_paths.proofs.files.next_file.Goals as goal

pub returns-in-Coarse-clause-none : goal.returns-in-Coarse-clause-none
returns-in-Coarse-clause-none c =
    let a = c.args in
    none_left _ _ _ (files_after a.key a.window a.hours.now) (coarse_same a.key a.window a.hours.now c.in-Coarse.is) a.after c.next_coarse.result c.next_coarse.ensures

pub returns-in-Coarse-clause-rest : goal.returns-in-Coarse-clause-rest
returns-in-Coarse-clause-rest c =
    let a = c.args in
    rest_left _ _ _ (files_after a.key a.window a.hours.now) (coarse_same a.key a.window a.hours.now c.in-Coarse.is) a.after c.next_coarse.result c.next_coarse.ensures

pub returns-in-Minute-clause-none : goal.returns-in-Minute-clause-none
returns-in-Minute-clause-none c =
    let a = c.args in
    none_left _ _ _ (files_after a.key a.window a.hours.now) (minute_same a.key c.in-Equity.field-0 c.in-Equity.resolution a.window a.hours.now c.in-Equity.is c.in-Minute.is) a.after c.next_minute.result c.next_minute.ensures

pub returns-in-Minute-clause-rest : goal.returns-in-Minute-clause-rest
returns-in-Minute-clause-rest c =
    let a = c.args in
    rest_left _ _ _ (files_after a.key a.window a.hours.now) (minute_same a.key c.in-Equity.field-0 c.in-Equity.resolution a.window a.hours.now c.in-Equity.is c.in-Minute.is) a.after c.next_minute.result c.next_minute.ensures
