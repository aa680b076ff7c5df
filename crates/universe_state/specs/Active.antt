-- The active securities of a backtest, in the order in which they became active.
use Rattle.std.specs.Prelude.{ℕ, Bool, false, if◌then◌else◌, nat_eq, List, [], ◌∷◌, find, Option, option_map}
use Rattle.std.specs.Cmp.Lexicographic.{pointwise}
use Rattle.std.specs.List.{list_any}
use Rattle.std.specs.Option.{option_map_or}
use Rattle.lean_items.specs.declared.feed_no.FeedNo.{FeedNo}

-- an active security: its symbol and its feed, whether the plan lists it, and whether it is marked
pub record Active : Type 0 where
  pub symbol : List ℕ
  pub feed : FeedNo
  pub listed : Bool
  pub marked : Bool

-- two symbols are the same, byte by byte
abbrev pub is_same : List ℕ → List ℕ → Bool
is_same = pointwise nat_eq

-- the active security of a symbol
abbrev pub security_of : List ℕ → List Active → Option Active
security_of symbol universe = find (λ security. is_same symbol security.symbol) universe

abbrev pub is_active : List Active → List ℕ → Bool
is_active universe symbol = list_any (λ security. is_same symbol security.symbol) universe

abbrev pub feed_of : List ℕ → List Active → Option FeedNo
feed_of symbol universe = option_map (λ security. security.feed) (security_of symbol universe)

-- a security that is not active is not marked
abbrev pub is_marked : List ℕ → List Active → Bool
is_marked symbol universe = option_map_or (λ security. security.marked) (security_of symbol universe) false

-- the universe with a security, which takes the place of one of its symbol or comes last
abbrev pub with_security : Active → List Active → List Active
with_security security [] = security ∷ []
with_security security (first ∷ universe) =
    if is_same security.symbol first.symbol then security ∷ universe else first ∷ with_security security universe

-- the universe without the security of a symbol
abbrev pub without_symbol : List ℕ → List Active → List Active
without_symbol symbol [] = []
without_symbol symbol (first ∷ universe) =
    if is_same symbol first.symbol then universe else first ∷ without_symbol symbol universe
