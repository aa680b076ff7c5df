-- What a window keeps as it hears a close, and its value by what it keeps.
use Rattle.std.proofs.Common.{ℕ, ◌≤◌, ℤ, pos, ◌+ℤ◌, ◌-ℤ◌, ◌≤ℤ◌, cond, leb, ◌≡◌, List, [], ◌∷◌, ◌++◌, length, Option, None, option_map, refl, sym, ap, ◌∙◌, subst, arith, rules, FitsSigned, w64, to_z, of_z}
use Rattle.std.specs.List.{slice_get}
use Rattle.std.specs.Option.{option_map_or}
use Rattle.std.proofs.lemmas.Int.{ints, to_z-of_z}
use Rattle.circular_buffer.specs.Buffer.{Buffer, buffer}
use Rattle.lean_fixed.specs.declared.money.Price.{Price}
use Rattle.bar_windows.specs.declared.spec.Func.{Func}
use Rattle.bar_windows.specs.declared.spec.Func.TheVariants.{Sma, Highest, Lowest, Change}
use Rattle.bar_windows.specs.declared.window.Kept.TheVariants.{Sum, Candidates}
use Rattle.bar_windows.specs.declared.window.Window.{Window}
use Rattle.bar_windows.specs.Window.{last_closes, total, window}
use Rattle.bar_windows.specs.Kept.{candidates, kept_of, MovesOn, Heard}
use Rattle.bar_windows.proofs.Moves.{leaving_of, moves_on, moved_total, length_last, ArePrices, total_within}
use Rattle.bar_windows.proofs.Extremes.{highest_is, lowest_is}

-- ---- a window with candidates is one of an extreme

pub extreme_value : (func : Func) (n : ℕ) (closes : List Price) (b : Buffer Price) → 1 ≤ n → Candidates b ≡ kept_of func n (last_closes n closes)
    → cond (leb n (length closes)) (option_map (λ k. k.0) (slice_get b.items 0)) None ≡ window func n closes
extreme_value Sma n closes b positive is = absurd (cc)
extreme_value Change n closes b positive is = absurd (cc)
extreme_value Highest n closes b positive is =
    let same : b ≡ buffer (candidates Highest (last_closes n closes)) n = cc in
    ap (λ (c : Buffer Price). cond (leb n (length closes)) (option_map (λ (k : Price). k.0) (slice_get c.items 0)) None) same ∙ highest_is n closes positive
extreme_value Lowest n closes b positive is =
    let same : b ≡ buffer (candidates Lowest (last_closes n closes)) n = cc in
    ap (λ (c : Buffer Price). cond (leb n (length closes)) (option_map (λ (k : Price). k.0) (slice_get c.items 0)) None) same ∙ lowest_is n closes positive

was_candidates : (func : Func) (n : ℕ) (recent : List Price) (b : Buffer Price) → Candidates b ≡ kept_of func n recent → b ≡ buffer (candidates func recent) n
was_candidates Sma n recent b is = absurd (cc)
was_candidates Change n recent b is = absurd (cc)
was_candidates Highest n recent b is = cc
was_candidates Lowest n recent b is = cc

are_candidates : (func : Func) (n : ℕ) (recent after : List Price) (b : Buffer Price) → Candidates b ≡ kept_of func n recent
    → Candidates (buffer (candidates func after) n) ≡ kept_of func n after
are_candidates Sma n recent after b is = absurd (cc)
are_candidates Change n recent after b is = absurd (cc)
are_candidates Highest n recent after b is = refl
are_candidates Lowest n recent after b is = refl

pub hears_candidates : (w : Window) (closes : List Price) (close : Price) (left : Option Price) (b d : Buffer Price)
    → Heard closes w → w.kept ≡ Candidates b → left ≡ leaving_of w.spec.length closes
    → ((before after : List Price) → b.items ≡ candidates w.spec.func before → MovesOn left before after close → length after ≤ b.capacity
    → d ≡ buffer (candidates w.spec.func after) b.capacity)
    → Heard (closes ++ close ∷ []) (record { spec = w.spec; kept = Candidates d })
hears_candidates w closes close left b d heard is leaves renews =
    let n : ℕ = w.spec.length in
    let func : Func = w.spec.func in
    let before : List Price = last_closes n closes in
    let after : List Price = last_closes n (closes ++ close ∷ []) in
    let kept : Candidates b ≡ kept_of func n before = sym is ∙ heard.kept in
    let was : b ≡ buffer (candidates func before) n = was_candidates func n before b kept in
    let room : b.capacity ≡ n = ap (λ (c : Buffer Price). c.capacity) was in
    let short : length after ≤ n = length_last n (closes ++ close ∷ []) in
    let moves : MovesOn left before after close = subst (λ l. MovesOn l before after close) (sym leaves) (moves_on n closes close heard.length.0) in
    let renewed : d ≡ buffer (candidates func after) b.capacity =
    renews before after (ap (λ (c : Buffer Price). c.items) was) moves (omega arith) in
    record {
      length = heard.length;
      kept = ap Candidates (renewed ∙ ap (λ (m : ℕ). buffer (candidates func after) m) room) ∙ are_candidates func n before after b kept;
    }

-- ---- a window with a sum is one of an average

was_sum : (func : Func) (n : ℕ) (recent : List Price) (s : ℤ) → Sum s ≡ kept_of func n recent → s ≡ total recent
was_sum Sma n recent s is = cc
was_sum Change n recent s is = absurd (cc)
was_sum Highest n recent s is = absurd (cc)
was_sum Lowest n recent s is = absurd (cc)

is_sum : (func : Func) (n : ℕ) (recent after : List Price) (s : ℤ) → Sum s ≡ kept_of func n recent → Sum (total after) ≡ kept_of func n after
is_sum Sma n recent after s is = refl
is_sum Change n recent after s is = absurd (cc)
is_sum Highest n recent after s is = absurd (cc)
is_sum Lowest n recent after s is = absurd (cc)

pub sum_within : (w : Window) (closes : List Price) (s : ℤ) → Heard closes w → ArePrices closes → w.kept ≡ Sum s → (pos 0 ≤ℤ s) × (s ≤ℤ pos 10000000000000)
sum_within w closes s heard prices is =
    let e : s ≡ total (last_closes w.spec.length closes) = was_sum w.spec.func w.spec.length (last_closes w.spec.length closes) s (sym is ∙ heard.kept) in
    let bounds = total_within w.spec.length closes heard.length.1 prices in
    subst (λ z. (pos 0 ≤ℤ z) × (z ≤ℤ pos 10000000000000)) (sym e) bounds

pub hears_sum : (w : Window) (closes : List Price) (close : Price) (left : Option Price) (s t : ℤ)
    → Heard closes w → w.kept ≡ Sum s → left ≡ leaving_of w.spec.length closes
    → t ≡ (s +ℤ close.0) -ℤ option_map_or (λ left. left.0) left (pos 0)
    → Heard (closes ++ close ∷ []) (record { spec = w.spec; kept = Sum t })
hears_sum w closes close left s t heard is leaves moved =
    let n : ℕ = w.spec.length in
    let func : Func = w.spec.func in
    let before : List Price = last_closes n closes in
    let after : List Price = last_closes n (closes ++ close ∷ []) in
    let kept : Sum s ≡ kept_of func n before = sym is ∙ heard.kept in
    let moves : MovesOn left before after close = subst (λ l. MovesOn l before after close) (sym leaves) (moves_on n closes close heard.length.0) in
    let sum : t ≡ total after =
    moved ∙ ap (λ z. (z +ℤ close.0) -ℤ option_map_or (λ (left : Price). left.0) left (pos 0)) (was_sum func n before s kept)
    ∙ sym (moved_total left before after close moves) in
    record { length = heard.length; kept = ap Sum sum ∙ is_sum func n before after s kept }

-- a sum as the code has it
pub same_bits : (s : ℤ) → (pos 0 ≤ℤ s) × (s ≤ℤ pos 10000000000000) → to_z w64 (of_z w64 s) ≡ s
same_bits s bounds =
    let low : pos 0 ≤ℤ s = bounds.0 in
    let high : s ≤ℤ pos 10000000000000 = bounds.1 in
    let fits : FitsSigned w64 s = search (rules, arith, ints) in
    to_z-of_z w64 s fits
