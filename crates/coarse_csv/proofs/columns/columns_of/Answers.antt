use Rattle.coarse_csv.proofs.ColumnLemmas.{columns-five}
use Rattle.coarse_csv.proofs.columns.columns_of.Goals as goal

pub returns : goal.returns
returns c =
    let i = c.in_ok-identifier.identifier in
    let s = c.in_ok-symbol.symbol in
    let l = c.in_ok-close.close in
    let v = c.in_ok-volume.volume in
    columns-five i.field.now s.field.now l.field.now v.field.now c.first_field.result.now c.args.text.now i.behind.now s.behind.now l.behind.now v.behind.now
    c.in_ok-identifier.ensures.some c.in_ok-symbol.ensures.some c.in_ok-close.ensures.some c.in_ok-volume.ensures.some c.first_field.ensures
