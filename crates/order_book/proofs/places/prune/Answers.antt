use Rattle.std.proofs.Common.{cond, filter, sym, ap, ◌∙◌}
use Rattle.portfolio.specs.Symbols.{same_symbol}
use Rattle.order_book.specs.Resting.{is_live_at}
use Rattle.order_book.specs.Waiting.{places_of}
use Rattle.order_book.proofs.PlaceLemmas.{places_set, places_self}
use Rattle.order_book.proofs.places.prune.Goals as goal

pub returns-in-Some : goal.returns-in-Some
returns-in-Some c s =
    ap (λ entries. places_of entries s) (c.get_mut.follows.holds c.prune.new.self).0
    ∙ places_set c.args.waiting.now.entries c.args.symbol s c.in-Some.places.now c.prune.new.self (sym c.in-Some.ensures.value)
    ∙ ap (λ ps. cond (same_symbol c.args.symbol s) ps (places_of c.args.waiting.now.entries s)) c.prune.ensures
    ∙ places_self c.args.waiting.now.entries c.args.symbol s c.in-Some.places.now (filter (is_live_at c.args.orders.now)) (sym c.in-Some.ensures.value)
