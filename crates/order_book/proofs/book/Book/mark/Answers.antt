use Rattle.std.proofs.Common.{rules, ◌≡◌, [], ◌∷◌, ◌++◌, ◌&&◌, Some, sym, subst, ap, ◌∙◌}
use Rattle.std.specs.Prelude.{if◌then◌else◌}
use Rattle.std.specs.Arc.{arc_value}
use Rattle.std.specs.Map.{lookup}
use Rattle.lean_orders.specs.declared.desk.Reply.TheVariants.{Done}
use Rattle.portfolio.specs.Stands.{StandsFor}
use Rattle.portfolio.specs.Symbols.{same_symbol}
use Rattle.order_book.specs.Kept.{Kept}
use Rattle.order_book.proofs.ServesLemmas.{serves_mark}
use Rattle.order_book.proofs.book.Book.mark.Goals as goal

pub returns-clause-ok : goal.returns-clause-ok
returns-clause-ok c =
    let costs : c.keep.new.self.costs ≡ c.args.self.now.costs = search rules in
    let leverage : c.self.inside.leverage ≡ c.args.self.now.leverage = search rules in
    let hours : arc_value c.keep.new.self.hours ≡ c.args.self.now.hours = search rules in
    let orders : c.self.inside.ledger.orders.items ≡ c.args.self.now.orders = search rules in
    let fills : c.self.inside.ledger.fills.items ≡ c.args.self.now.fills = search rules in
    let bars : c.reserve-2.new.self.entries ≡ c.args.self.now.bars = search rules in
    let said : c.say.new.out.items ≡ c.args.out.now.items ++ Done ∷ [] = search rules in
    serves_mark c.args.self.now _ c.args.symbol c.args.bar.now c.args.out.now.items c.say.new.out.items costs leverage hours orders fills
    (λ start fills marks stands. c.in_ok-hold_at.ensures.stands start fills marks
    (subst (λ (kept : Kept). StandsFor kept.account start fills marks) (sym c.self.view_is) stands))
    (λ s. c.keep.ensures.kept s
    ∙ ap (λ entries. if same_symbol s c.args.symbol && c.args.bar.now.real then Some c.args.bar.now else lookup (same_symbol s) entries) bars) said
