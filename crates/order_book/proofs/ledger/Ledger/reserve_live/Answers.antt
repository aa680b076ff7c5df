use Rattle.order_book.proofs.PlaceLemmas.{ok_of}
use Rattle.order_book.proofs.ledger.Ledger.reserve_live.Goals as goal

pub returns-clause-place : goal.returns-clause-place
returns-clause-place c = ok_of c.hold.result c.in_ok-reserve_place.ensures.place
