-- The windows of a security together: they keep what they must, and their values are those over all closes.
use Rattle.std.proofs.Common.{ℕ, ◌<◌, ◌≤◌, ◌≡◌, List, [], ◌∷◌, ◌++◌, length, map, get_or, All, Option, Some, IfSome, option_map, suc, ℤ, refl, sym, ap, ◌∙◌, subst}
use Rattle.std.specs.List.{slice_get}
use Rattle.std.proofs.lemmas.List.Elements.{All-nil, All-cons, All-head, All-tail, All-map}
use Rattle.std.proofs.lemmas.Option.{slice_get-get_or, slice_get-map}
use Rattle.circular_buffer.specs.Buffer.{Buffer, buffer, keep_last}
use Rattle.lean_fixed.specs.declared.money.Price.{Price}
use Rattle.bar_windows.specs.declared.spec.WindowSpec.{WindowSpec}
use Rattle.bar_windows.specs.declared.window.Window.{Window}
use Rattle.bar_windows.specs.Window.{last_closes, window}
use Rattle.bar_windows.specs.Kept.{Heard, reach_of}
use Rattle.bar_windows.specs.Recent.{Recent, AreHeard, StandsFor, spec_of}
use Rattle.bar_windows.proofs.Lookback.{heard_last, last_push, window_last}

-- what holds of each specification holds of each window's
of_map : (P : WindowSpec → Type 0) (windows : List Window) → All P (map spec_of windows) → All (λ window. P window.spec) windows
of_map P [] all = All-nil (λ window. P window.spec)
of_map P (w ∷ windows) all =
    All-cons (λ window. P window.spec) w windows (All-head P w.spec (map spec_of windows) all) (of_map P windows (All-tail P w.spec (map spec_of windows) all))

of_each : (P : WindowSpec → Type 0) (windows : List Window) (specs : List WindowSpec) → map spec_of windows ≡ specs → All P specs → All (λ window. P window.spec) windows
of_each P windows specs is all = of_map P windows (subst (All P) (sym is) all)

to_each : (P : WindowSpec → Type 0) (windows : List Window) → All (λ window. P window.spec) windows → All P (map spec_of windows)
to_each P windows all = All-map P spec_of windows all

-- windows that have heard no close
pub new_heard : (ring : Buffer Price) (windows : List Window) (specs : List WindowSpec) (most : ℕ) → ring ≡ buffer [] most → map spec_of windows ≡ specs
    → All (λ spec. reach_of spec ≤ most) specs → All (Heard []) windows → AreHeard ring windows
new_heard ring windows specs most is made reach heard =
    subst (λ b. AreHeard b windows) (sym is) (record {
      reach = of_each (λ spec. reach_of spec ≤ most) windows specs made reach;
      heard = heard;
    })

-- windows that have heard one close more
pub push_heard : (ring after : Buffer Price) (windows next : List Window) (close : Price) → AreHeard ring windows
    → after ≡ buffer (keep_last ring.capacity (ring.items ++ close ∷ [])) ring.capacity
    → map spec_of next ≡ map spec_of windows → All (Heard (ring.items ++ close ∷ [])) next → AreHeard after next
push_heard ring after windows next close are is specs heard =
    let reach : All (λ window. reach_of window.spec ≤ ring.capacity) next =
    of_each (λ spec. reach_of spec ≤ ring.capacity) next (map spec_of windows) specs (to_each (λ spec. reach_of spec ≤ ring.capacity) windows are.reach) in
    subst (λ b. AreHeard b next) (sym is) (record {
      reach = reach;
      heard = λ k d within. heard_last (get_or next k d) ring.capacity (ring.items ++ close ∷ []) (reach k d within) (heard k d within);
    })

pub stands_push : (old new : Recent) (closes : List Price) (close : Price) → StandsFor old closes → new.most ≡ old.most
    → new.closes ≡ keep_last old.most (old.closes ++ close ∷ []) → StandsFor new (closes ++ close ∷ [])
stands_push old new closes close stands most is = record {
  recent = is ∙ ap (λ cs. last_closes old.most (cs ++ close ∷ [])) stands.recent ∙ last_push old.most closes close
      ∙ ap (λ m. last_closes m (closes ++ close ∷ [])) (sym most);
}

-- the value of the window at an index
pub valued : (now : Recent) (ring : Buffer Price) (windows : List Window) (index : ℕ) (w : Window) (r : Option ℤ) → AreHeard ring windows
    → (let seen : Recent = record { specs = map spec_of windows; most = ring.capacity; closes = ring.items } in seen) ≡ now
    → index < length now.specs → w ≡ get_or windows index w → r ≡ window w.spec.func w.spec.length ring.items
    → (closes : List Price) → StandsFor now closes → IfSome (slice_get now.specs index) (λ spec. r ≡ window spec.func spec.length closes)
valued now ring windows index w r are view within here is closes stands =
    let specs : map spec_of windows ≡ now.specs = ap (λ (n : Recent). n.specs) view in
    let items : ring.items ≡ now.closes = ap (λ (n : Recent). n.closes) view in
    let most : ring.capacity ≡ now.most = ap (λ (n : Recent). n.most) view in
    let size : index < length windows = in_windows windows now.specs index specs within in
    let at : slice_get now.specs index ≡ Some w.spec =
    ap (λ xs. slice_get xs index) (sym specs) ∙ slice_get-map spec_of windows index
    ∙ ap (option_map spec_of) (slice_get-get_or windows index w size ∙ ap Some (sym here)) in
    let reach : reach_of w.spec ≤ now.most = subst (λ m. reach_of w.spec ≤ m) most (subst (λ v. reach_of v.spec ≤ ring.capacity) (sym here) (are.reach index w size)) in
    let value : r ≡ window w.spec.func w.spec.length closes =
    is ∙ ap (window w.spec.func w.spec.length) (items ∙ stands.recent) ∙ window_last w.spec.func w.spec.length now.most closes reach in
    subst (λ o. IfSome o (λ spec. r ≡ window spec.func spec.length closes)) (sym at) value
  where
    in_windows : (windows : List Window) (specs : List WindowSpec) (index : ℕ) → map spec_of windows ≡ specs → index < length specs → index < length windows
    in_windows windows specs index is within = subst (λ n. index < n) (ap length (sym is) ∙ same_length windows) within
      where
        same_length : (windows : List Window) → length (map spec_of windows) ≡ length windows
        same_length [] = refl
        same_length (w ∷ windows) = ap suc (same_length windows)
