use Rattle.std.proofs.Common.{true, ◌∙◌, ap, if◌then◌else◌, Ok, Err}
use Rattle.lean_fixed.specs.Fields.{fields}
use Rattle.lean_items.specs.declared.reason.Reason.TheVariants.{Range}
use Rattle.equity_csv.specs.Rows.{row_of}
use Rattle.equity_csv.specs.Reading.{priced, fields_after}
use Rattle.equity_csv.proofs.ValueLemmas.{unpriced, no_volume, priced_row}
use Rattle.equity_csv.proofs.values.read_any_values.Goals as goal

pub returns-then-has_fields : goal.returns-then-has_fields
returns-then-has_fields c = unpriced c.args.start (fields c.args.values.now) true c.in_default.ensures.read c.if-has_fields.ensures

pub returns-in_default-leading_number : goal.returns-in_default-leading_number
returns-in_default-leading_number c =
    let p = c.in-Some.prices in
    no_volume c.args.start (fields c.args.values.now) (priced p.opening p.high p.low p.closing (fields p.behind.now)) c.in-Some.ensures.read c.in_default-leading_number.ensures.read

pub returns-then-is_ranged : goal.returns-then-is_ranged
returns-then-is_ranged c =
    let p = c.in-Some.prices in
    let v = c.in-Some-leading_number.volume in
    ap (λ r. Ok r) c.row_at.ensures
    ∙ ap (λ x. if x then Ok (row_of c.args.start p.opening p.high p.low p.closing v.number) else Err Range) c.if-is_ranged.ensures
    ∙ priced_row c.args.start (fields c.args.values.now) (priced p.opening p.high p.low p.closing (fields p.behind.now)) v.number (fields_after v.behind.now) c.in-Some.ensures.read c.in-Some-leading_number.ensures.read

pub returns-else-is_ranged : goal.returns-else-is_ranged
returns-else-is_ranged c =
    let p = c.in-Some.prices in
    let v = c.in-Some-leading_number.volume in
    ap (λ x. if x then Ok (row_of c.args.start p.opening p.high p.low p.closing v.number) else Err Range) c.if-is_ranged.ensures
    ∙ priced_row c.args.start (fields c.args.values.now) (priced p.opening p.high p.low p.closing (fields p.behind.now)) v.number (fields_after v.behind.now) c.in-Some.ensures.read c.in-Some-leading_number.ensures.read
