-- What is known of the heads that were gone through.
use Rattle.std.proofs.Common.{◌≡◌, false, List, [], ◌∷◌, ◌++◌, Option, None, option_map, refl, sym, ap, ◌∙◌}
use Rattle.std.specs.Prelude.{find}
use Rattle.std.specs.List.{All}
use Rattle.std.proofs.lemmas.List.Elements.{All-head, All-tail, All-push}
use Rattle.lean_fixed.specs.declared.time.Moment.{Moment}
use Rattle.lean_items.specs.declared.arrival.Arrival.{Arrival}
use Rattle.lean_items.specs.declared.item.Item.{Item}
use Rattle.lean_items.specs.Given.{end_of}
use Rattle.frontier_sync.specs.declared.seen.Seen.TheVariants.{Calm}
use Rattle.frontier_sync.specs.Heads.{stops, earlier}
use Rattle.frontier_sync.specs.Seen.{IsSeen}
use Rattle.frontier_sync.proofs.FrontierLemmas.{frontier-push}

-- where no head stops the merge, none is found
pub none-stops : (heads : List Arrival) → All (λ (a : Arrival). stops a.item ≡ false) heads → find (λ (a : Arrival). stops a.item) heads ≡ None
none-stops [] all = refl
none-stops (a ∷ heads) all =
    rw (All-head (λ (b : Arrival). stops b.item ≡ false) a heads all) (none-stops heads (All-tail (λ (b : Arrival). stops b.item ≡ false) a heads all))

-- one head more
pub calm-more : (heads : List Arrival) (a : Arrival) (item : Item) (least end : Option Moment) → a.item ≡ item → stops item ≡ false → option_map (λ t. t.0) end ≡ end_of item
    → IsSeen heads (Calm least) → IsSeen (heads ++ a ∷ []) (Calm (earlier least end))
calm-more heads a item least end is calm ends (all, frontier) = (
  All-push (λ (b : Arrival). stops b.item ≡ false) heads a all (ap stops is ∙ calm),
  frontier-push heads a least end frontier (ends ∙ ap end_of (sym is)),
)
