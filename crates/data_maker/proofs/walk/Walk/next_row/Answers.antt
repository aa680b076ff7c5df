use Rattle.std.proofs.Common.{ap, ◌∙◌}
use Rattle.data_maker.specs.Walk.{row_from}
use Rattle.data_maker.proofs.Walking.{row-between}
use Rattle.data_maker.proofs.walk.Walk.next_row.Goals as goal

pub returns-clause-row : goal.returns-clause-row
returns-clause-row c =
    row-between c.args.start c.args.self.now.price c.next_price-self.result c.next_random-self.result c.row_between.result c.next_price-self.ensures.value c.row_between.ensures.row
    ∙ ap (λ random. row_from c.args.start c.args.self.now.price random) c.next_random-self.ensures.value
