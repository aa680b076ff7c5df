-- What one bar more gives.
use Rattle.std.proofs.Common.{◌≡◌, ℕ, List, [], ◌∷◌, ◌++◌, true, refl, ap, sym, ◌∙◌, arith}
use Rattle.std.specs.Prelude.{Option, Some, None, pos, cond, map, flat_map, filter, unsigned_abs, ◌==◌}
use Rattle.std.specs.List.{last_or}
use Rattle.std.proofs.lemmas.List.{append-nil, map-append, map_push}
use Rattle.std.proofs.lemmas.List.Concat.{flat_map-append}
use Rattle.std.proofs.lemmas.List.Elements.{filter-append}
use Rattle.std.proofs.lemmas.Bool.Decides.{nat_tests}
use Rattle.lean_items.specs.declared.bar.Bar.{Bar}
use Rattle.consolidators.specs.Buckets.{given}
use Rattle.clock_feeds.specs.Bars.{ends_at}
use Rattle.clock_run.specs.Histories.{given_with, given_last, fronts, closes, fresh_bar}

pub last-push : {X : Type 0} (o : Option X) (xs : List X) (x : X) → last_or o (xs ++ x ∷ []) ≡ Some x
last-push o [] x = refl
last-push o (y ∷ xs) x = last-push (Some y) xs x

fronts-push : (bars : List Bar) (bar : Bar) → fronts (bars ++ bar ∷ []) ≡ fronts bars ++ (bars ++ bar ∷ []) ∷ []
fronts-push [] bar = refl
fronts-push (x ∷ xs) bar =
    ap (λ later. (x ∷ []) ∷ later)
    (ap (map (λ front. x ∷ front)) (fronts-push xs bar) ∙ map_push (λ front. x ∷ front) (fronts xs) (xs ++ bar ∷ []))

given-push : (period : Option ℕ) (bars : List Bar) (bar : Bar) → given_last period (bars ++ bar ∷ []) ≡ given_with period (bars ++ bar ∷ []) (Some bar)
given-push period bars bar = ap (given_with period (bars ++ bar ∷ [])) (last-push None bars bar)

pub closes-push : (symbol : List ℕ) (period : Option ℕ) (bars : List Bar) (bar : Bar)
    → closes (record { symbol = symbol; period = period; bars = bars ++ bar ∷ [] })
    ≡ closes (record { symbol = symbol; period = period; bars = bars }) ++ map (λ b. b.closing) (given_with period (bars ++ bar ∷ []) (Some bar))
closes-push symbol period bars bar =
    let all : flat_map (given_last period) (fronts (bars ++ bar ∷ []))
    ≡ flat_map (given_last period) (fronts bars) ++ given_with period (bars ++ bar ∷ []) (Some bar) =
    ap (flat_map (given_last period)) (fronts-push bars bar)
    ∙ (flat_map-append (given_last period) (fronts bars) ((bars ++ bar ∷ []) ∷ [])
    ∙ ap (λ last. flat_map (given_last period) (fronts bars) ++ last)
    (append-nil (given_last period (bars ++ bar ∷ [])) ∙ given-push period bars bar)) in
    ap (map (λ b. b.closing)) all
    ∙ map-append (λ b. b.closing) (flat_map (given_last period) (fronts bars)) (given_with period (bars ++ bar ∷ []) (Some bar))

pub ends-now : (t : ℕ) (bar : Bar) → bar.end.0 ≡ pos t → ends_at t bar ≡ true
ends-now t bar end = ap (λ z. unsigned_abs z == t) end ∙ (let e : (t == t) ≡ true = grind (arith, nat_tests) in e)

fresh-with : (period : Option ℕ) (symbol : List ℕ) (bars : List Bar) (bar : Bar) (t : ℕ) → bar.end.0 ≡ pos t
    → fresh_bar t (record { symbol = symbol; period = period; bars = bars ++ bar ∷ [] })
    ≡ last_or None (given_with period (bars ++ bar ∷ []) (Some bar))
fresh-with None symbol bars bar t end =
    ap (last_or None) (filter-append (ends_at t) bars (bar ∷ []))
    ∙ (ap (λ b. last_or None (filter (ends_at t) bars ++ cond b (bar ∷ []) [])) (ends-now t bar end)
    ∙ last-push None (filter (ends_at t) bars) bar)
fresh-with (Some period) symbol bars bar t end = ap (λ z. last_or None (given period (bars ++ bar ∷ []) z)) (sym end)

pub fresh-push : (symbol : List ℕ) (period : Option ℕ) (bars : List Bar) (bar : Bar) (t : ℕ) → bar.end.0 ≡ pos t
    → fresh_bar t (record { symbol = symbol; period = period; bars = bars ++ bar ∷ [] })
    ≡ last_or None (given_with period (bars ++ bar ∷ []) (Some bar))
fresh-push symbol period bars bar t end = fresh-with period symbol bars bar t end
