use Rattle.std.proofs.Common.{inl, inr, sym, ◌∙◌}
use Rattle.std.proofs.lemmas.Bool.{false≢true}
use Rattle.order_desk.proofs.OwedLemmas.{owes-none}
use Rattle.order_desk.proofs.serial_desk.SerialDeskDesk.finish.Goals as goal

pub returns-clause-whole : goal.returns-clause-whole
returns-clause-whole c fed s cs rs owes =
    elim c.requires [
      | inl starved ↦ absurd (false≢true (sym fed ∙ starved))
      | inr all ↦ (owes-none _ _ _ _ s cs rs owes all, owes.stands)
    ]
