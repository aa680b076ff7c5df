-- What a window keeps beside the last closes.
use Rattle.std.specs.Prelude.{◌≡◌, ℕ, ◌+◌, ◌≤◌, Bool, true, ◌&&◌, if◌then◌else◌, int_le, List, [], ◌∷◌, ◌++◌, Option, Some, None}
use Rattle.std.specs.Ordering.{int_eq}
use Rattle.std.specs.List.{list_all}
use Rattle.circular_buffer.specs.Buffer.{buffer}
use Rattle.lean_fixed.specs.declared.money.Price.{Price}
use Rattle.bar_windows.specs.declared.spec.Func.{Func}
use Rattle.bar_windows.specs.declared.spec.Func.TheVariants.{Sma, Lowest, Change}
use Rattle.bar_windows.specs.declared.spec.WindowSpec.{WindowSpec}
use Rattle.bar_windows.specs.declared.window.Kept.{Kept}
use Rattle.bar_windows.specs.declared.window.Kept.TheVariants.{Nothing, Sum, Candidates}
use Rattle.bar_windows.specs.declared.window.Window.{Window}
use Rattle.bar_windows.specs.Window.{last_closes, total}

-- a window is over 1 to 1,000 closes
abbrev pub IsLength : ℕ → Type 0
IsLength n = (1 ≤ n) × (n ≤ 1000)

-- how many of the last closes a window looks at
abbrev pub reach : Func → ℕ → ℕ
reach Change n = n + 1
reach _ n = n

abbrev pub reach_of : WindowSpec → ℕ
reach_of spec = reach spec.func spec.length

-- a close that comes before another remains a candidate where it is no less, or for the least no greater
abbrev pub reaches : Func → Price → Price → Bool
reaches Lowest earlier later = int_le earlier.0 later.0
reaches _ earlier later = int_le later.0 earlier.0

-- the closes that no later one lies beyond, in their order: what a monotonic queue holds
abbrev pub candidates : Func → List Price → List Price
candidates func [] = []
candidates func (close ∷ closes) =
    if list_all (reaches func close) closes then close ∷ candidates func closes else candidates func closes

-- candidates without the close that leaves the window
abbrev pub without : Option Price → List Price → List Price
without None kept = kept
without (Some close) [] = []
without (Some close) (first ∷ kept) = if int_eq first.0 close.0 then kept else first ∷ kept

-- each of some closes reaches those after it
abbrev pub is_ranked : Func → List Price → Bool
is_ranked func [] = true
is_ranked func (close ∷ closes) = list_all (reaches func close) closes && is_ranked func closes

-- the last closes of a window without the one that leaves it, where it is full, and with the next one
abbrev pub MovesOn : Option Price → List Price → List Price → Price → Type 0
MovesOn None before after close = after ≡ before ++ close ∷ []
MovesOn (Some leaving) before after close =
    (rest : List Price) × (before ≡ leaving ∷ rest) × (after ≡ rest ++ close ∷ [])

-- what is kept of the last n closes
abbrev pub kept_of : Func → ℕ → List Price → Kept
kept_of Sma n recent = Sum (total recent)
kept_of Change n recent = Nothing
kept_of func n recent = Candidates (buffer (candidates func recent) n)

-- a window that has heard these closes
pub record Heard (closes : List Price) (window : Window) : Type 0 where
  pub length : IsLength window.spec.length
  pub kept : window.kept ≡ kept_of window.spec.func window.spec.length (last_closes window.spec.length closes)
