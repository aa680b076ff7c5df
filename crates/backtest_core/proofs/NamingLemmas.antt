-- Where a security waits, found from the front on.
use Rattle.std.proofs.Common.{◌≡◌, ℕ, suc, ◌+◌, ◌<◌, List, [], ◌∷◌, ◌++◌, true, false, ap, sym, ◌∙◌, arith, length, take, drop, get_or}
use Rattle.std.specs.Prelude.{Some, cond, find}
use Rattle.std.proofs.lemmas.List.{append_assoc, map-append}
use Rattle.backtest_core.specs.declared.waiting.Waiting.{Waiting}
use Rattle.backtest_core.specs.Standing.{waits_as, without_first}
use Rattle.backtest_core.specs.Waiting.{subscription_in, subscriptions_in}
use Rattle.backtest_core.specs.Naming.{IsPlaceOf}

-- no security before a place is of the symbol
pub record IsPassed (symbol : List ℕ) (ws : List Waiting) (place : ℕ) : Type 0 where
  pub first : find (waits_as symbol) (subscriptions_in ws) ≡ find (waits_as symbol) (subscriptions_in (drop place ws))
  pub rest : without_first symbol (subscriptions_in ws)
      ≡ subscriptions_in (take place ws) ++ without_first symbol (subscriptions_in (drop place ws))

pub passed-next : (symbol : List ℕ) (ws : List Waiting) (place : ℕ) (w : Waiting) → drop place ws ≡ w ∷ drop (suc place) ws
    → take (suc place) ws ≡ take place ws ++ w ∷ [] → waits_as symbol (subscription_in w) ≡ false
    → IsPassed symbol ws place → IsPassed symbol ws (suc place)
passed-next symbol ws place w here front other passed =
    let later = subscriptions_in (drop (suc place) ws) in
    record {
      first = passed.first
          ∙ (ap (λ l. find (waits_as symbol) (subscriptions_in l)) here
          ∙ ap (λ b. cond b (Some (subscription_in w)) (find (waits_as symbol) later)) other);
      rest = passed.rest
          ∙ (ap (λ l. subscriptions_in (take place ws) ++ without_first symbol (subscriptions_in l)) here
          ∙ (ap (λ b. subscriptions_in (take place ws) ++ cond b later (subscription_in w ∷ without_first symbol later)) other
          ∙ (sym (append_assoc (subscriptions_in (take place ws)) (subscription_in w ∷ []) (without_first symbol later))
          ∙ ap (λ l. l ++ without_first symbol later)
          (sym (map-append subscription_in (take place ws) (w ∷ [])) ∙ ap subscriptions_in (sym front)))));
    }

pub passed-here : (symbol : List ℕ) (ws : List Waiting) (place : ℕ) (w : Waiting) → place < length ws
    → ((d : Waiting) → w ≡ get_or ws place d) → drop place ws ≡ w ∷ drop (suc place) ws
    → waits_as symbol (subscription_in w) ≡ true → IsPassed symbol ws place → IsPlaceOf symbol ws place
passed-here symbol ws place w within is here same passed =
    let later = subscriptions_in (drop (suc place) ws) in
    let step : suc place ≡ place + 1 = omega arith in
    record {
      within = within;
      first = λ d. passed.first
          ∙ (ap (λ l. find (waits_as symbol) (subscriptions_in l)) here
          ∙ (ap (λ b. cond b (Some (subscription_in w)) (find (waits_as symbol) later)) same
          ∙ ap (λ x. Some (subscription_in x)) (is d)));
      rest = passed.rest
          ∙ (ap (λ l. subscriptions_in (take place ws) ++ without_first symbol (subscriptions_in l)) here
          ∙ (ap (λ b. subscriptions_in (take place ws) ++ cond b later (subscription_in w ∷ without_first symbol later)) same
          ∙ (sym (map-append subscription_in (take place ws) (drop (suc place) ws))
          ∙ ap (λ n. subscriptions_in (take place ws ++ drop n ws)) step)));
    }
