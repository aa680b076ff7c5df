use Rattle.std.proofs.Common.{◌≡◌, ℕ, List, length, sym, subst, arith}
use Rattle.std.specs.Prelude.{Contains}
use Rattle.portfolio.specs.Symbols.{same_symbol}
use Rattle.order_book.specs.Waiting.{places_of}
use Rattle.order_book.proofs.PlaceLemmas.{more_by, self_same, waits_more, place_there}
use Rattle.order_book.proofs.ledger.Ledger.reserve_place.Goals as goal

pub returns-clause-kept : goal.returns-clause-kept
returns-clause-kept c = record {
  orders = c.reserve.ensures.kept.orders;
  waits =
      waits_more c.reserve.new.self.waiting.entries c.add_place.new.waiting.entries c.reserve.new.self.orders.items
      (λ s k h. subst (λ ps. Contains ps k) (sym (c.in_ok-add_place.ensures.ok s))
      (more_by (same_symbol c.args.symbol s) (places_of c.reserve.new.self.waiting.entries s) _ k h)) c.reserve.ensures.kept.waits;
}

pub returns-clause-place : goal.returns-clause-place
returns-clause-place c =
    place_there _ _ _ _ (length c.reserve.new.self.orders.items) (c.in_ok-add_place.ensures.ok c.args.symbol) (self_same c.args.symbol)
    (omega (arith, c.len-place.ensures, c.reserve.new.self.orders.ok.0))
