-- No bucket is complete at a moment at which no bar ends.
use Rattle.std.proofs.Common.{ℕ, ℤ, Bool, true, false, cond, ◌≡◌, ◌≢◌, List, [], ◌∷◌, All, Some, ap, ◌∙◌, refl}
use Rattle.std.specs.List.{filter, filter_map, find}
use Rattle.std.specs.Option.{option_map_or}
use Rattle.std.specs.Ordering.{int_eq}
use Rattle.std.proofs.lemmas.Bool.{false_from_ne_true}
use Rattle.std.proofs.lemmas.Bool.Decides.{Decides-int_eq}
use Rattle.std.proofs.lemmas.List.Elements.{All-head, All-tail}
use Rattle.lean_items.specs.declared.bar.Bar.{Bar}
use Rattle.consolidators.specs.Buckets.{bucket, buckets, completes, is_complete_at, given}

not_complete : (period : ℕ) (bars : List Bar) (moment : ℤ) (k : ℤ) → All (λ bar. bar.end.0 ≢ moment) bars → is_complete_at period bars moment k ≡ false
not_complete period [] moment k others = refl
not_complete period (bar ∷ bars) moment k others =
    let apart : bar.end.0 ≢ moment = All-head (λ b. b.end.0 ≢ moment) bar bars others in
    elim (completes period k bar) as (λ c. option_map_or (λ b. int_eq b.end.0 moment) (cond c (Some bar) (find (completes period k) bars)) false ≡ false) [
      | true ↦ false_from_ne_true (int_eq bar.end.0 moment) (λ same. apart ((Decides-int_eq bar.end.0 moment).0 same))
      | false ↦ not_complete period bars moment k (All-tail (λ b. b.end.0 ≢ moment) bar bars others)
    ]

none_pass : (p : ℤ → Bool) (ks : List ℤ) → ((k : ℤ) → p k ≡ false) → filter p ks ≡ []
none_pass p [] fails = refl
none_pass p (k ∷ ks) fails = ap (λ b. cond b (k ∷ filter p ks) (filter p ks)) (fails k) ∙ none_pass p ks fails

pub given_between : (period : ℕ) (bars : List Bar) (moment : ℤ) → All (λ bar. bar.end.0 ≢ moment) bars → given period bars moment ≡ []
given_between period bars moment others =
    ap (filter_map (bucket period bars))
    (none_pass (is_complete_at period bars moment) (buckets period bars) (λ k. not_complete period bars moment k others))
