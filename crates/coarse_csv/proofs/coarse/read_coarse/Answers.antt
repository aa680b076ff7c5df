use Rattle.std.proofs.Common.{◌∙◌, ap, Ok, Some}
use Rattle.lean_fixed.specs.Fields.{fields}
use Rattle.coarse_csv.specs.Rows.{coarse_row}
use Rattle.coarse_csv.specs.Columns.{columns}
use Rattle.coarse_csv.proofs.RowLemmas.{few, enough, skipped, no_close, no_volume, no_dollars, a_row}
use Rattle.coarse_csv.proofs.coarse.read_coarse.Goals as goal

pub returns-in_default : goal.returns-in_default
unfolding coarse_row
returns-in_default c = few (fields c.args.text.now) c.in_default.ensures

pub returns-in_default-read : goal.returns-in_default-read
unfolding coarse_row
returns-in_default-read c =
    let f = columns c.in-Some.columns in
    skipped f c.in_default-read.ensures ∙ enough (fields c.args.text.now) f c.in-Some.ensures

pub returns-in_default-read_close : goal.returns-in_default-read_close
unfolding coarse_row
returns-in_default-read_close c =
    let f = columns c.in-Some.columns in
    no_close f c.in-Some-read.symbol c.in-Some-read.ensures c.in_default-read_close.ensures.value
    ∙ enough (fields c.args.text.now) f c.in-Some.ensures

pub returns-in_default-read_volume : goal.returns-in_default-read_volume
unfolding coarse_row
returns-in_default-read_volume c =
    let f = columns c.in-Some.columns in
    no_volume f c.in-Some-read.symbol c.in-Some-read_close.close c.in-Some-read.ensures c.in-Some-read_close.ensures.value c.in_default-read_volume.ensures.value
    ∙ enough (fields c.args.text.now) f c.in-Some.ensures

pub returns-in_default-read_dollars : goal.returns-in_default-read_dollars
unfolding coarse_row
returns-in_default-read_dollars c =
    let f = columns c.in-Some.columns in
    no_dollars f c.in-Some-read.symbol c.in-Some-read_close.close c.in-Some-read_volume.volume c.in-Some-read.ensures c.in-Some-read_close.ensures.value c.in-Some-read_volume.ensures.value c.in_default-read_dollars.ensures.value
    ∙ enough (fields c.args.text.now) f c.in-Some.ensures

pub returns : goal.returns
unfolding coarse_row
returns c =
    let f = columns c.in-Some.columns in
    ap (λ r. Ok (Some r)) c.row_of.ensures
    ∙ a_row f c.in-Some-read.symbol c.in-Some-read_close.close c.in-Some-read_volume.volume c.in-Some-read_dollars.dollars c.in-Some-read.ensures c.in-Some-read_close.ensures.value c.in-Some-read_volume.ensures.value c.in-Some-read_dollars.ensures.value
    ∙ enough (fields c.args.text.now) f c.in-Some.ensures
