-- Windows keep their places while others are added behind them.
use Rattle.std.proofs.Common.{◌≡◌, ℕ, zero, suc, ◌+◌, List, [], ◌∷◌, ◌++◌, ◌<◌, length, get_or, take, drop, map, Some, refl, sym, ap, subst, ◌∙◌, arith, append_assoc}
use Rattle.std.specs.Prelude.{slice_get}
use Rattle.std.specs.List.{AllZip}
use Rattle.std.proofs.lemmas.List.{append-nil, map-append, take_more}
use Rattle.std.proofs.lemmas.Option.{none-some}
use Rattle.indexmap.proofs.SetLemmas.{AllZip-push}
use Rattle.bar_windows.specs.Kept.{IsLength}
use Rattle.bar_windows.specs.declared.spec.WindowSpec.{WindowSpec}
use Rattle.rule_strategy.specs.declared.rule.Rule.{Rule}
use Rattle.rule_lang.specs.Tree.{windows_of}
use Rattle.clock_run.specs.Requests.{quantity_of, price_of, limit_of}
use Rattle.backtest_core.specs.declared.places.RulePlaces.{RulePlaces}
use Rattle.backtest_core.specs.Asking.{Finds, FindsRule, windows_if}
use Rattle.backtest_core.specs.Tables.{AreLengths, Extends, AddsPlace, Adds, AddsRule, AddsRules}

get-more : {X : Type 0} (xs more : List X) (k : ℕ) (x : X) → slice_get xs k ≡ Some x → slice_get (xs ++ more) k ≡ Some x
get-more [] more k x e = absurd (none-some x e)
get-more (y ∷ xs) more zero x e = e
get-more (y ∷ xs) more (suc k) x e = get-more xs more k x e

finds-more : (old more : List WindowSpec) (places : List ℕ) (wanted : List WindowSpec) → Finds old places wanted → Finds (old ++ more) places wanted
finds-more old more [] [] finds = refl
finds-more old more [] (w ∷ wanted) finds = absurd (omega (arith, ap length finds))
finds-more old more (p ∷ places) [] finds = absurd (omega (arith, ap length finds))
finds-more old more (p ∷ places) (w ∷ wanted) finds =
    let first : slice_get old p ≡ Some w = ap (λ xs. get_or xs 0 (Some w)) finds in
    let rest : Finds old places wanted = ap (drop 1) finds in
    ap (λ x. x ∷ map (slice_get (old ++ more)) places) (get-more old more p w first) ∙ ap (λ xs. Some w ∷ xs) (finds-more old more places wanted rest)

finds-on : (old new : List WindowSpec) (places : List ℕ) (wanted : List WindowSpec) → Extends old new → Finds old places wanted → Finds new places wanted
finds-on old new places wanted extends finds =
    subst (λ specs. Finds specs places wanted) (sym extends.is) (finds-more old extends.more places wanted finds)

rule-on : (old new : List WindowSpec) (places : RulePlaces) (rule : Rule) → Extends old new → FindsRule old places rule → FindsRule new places rule
rule-on old new places rule extends finds = record {
  when = finds-on old new _ _ extends finds.when;
  quantity = finds-on old new _ _ extends finds.quantity;
  price = finds-on old new _ _ extends finds.price;
  limit = finds-on old new _ _ extends finds.limit;
}

rules-on : (old new : List WindowSpec) (places : List RulePlaces) (rules : List Rule) → Extends old new → AllZip (FindsRule old) places rules
    → AllZip (FindsRule new) places rules
rules-on old new [] [] extends finds = tt
rules-on old new [] (r ∷ rules) extends finds = absurd finds
rules-on old new (p ∷ places) [] extends finds = absurd finds
rules-on old new (p ∷ places) (r ∷ rules) extends finds = (rule-on old new p r extends finds.0, rules-on old new places rules extends finds.1)

extends-none : (specs : List WindowSpec) → Extends specs specs
extends-none specs = record { more = []; is = sym (append-nil specs); lengths = λ all. all; differ = λ differ. differ }

pub extends-on : (old now new : List WindowSpec) → Extends old now → Extends now new → Extends old new
extends-on old now new first next = record {
  more = first.more ++ next.more;
  is = next.is ∙ ap (λ xs. xs ++ next.more) first.is ∙ append_assoc old first.more next.more;
  lengths = λ all. next.lengths (first.lengths all);
  differ = λ differ. next.differ (first.differ differ);
}

pub adds-none : (specs : List WindowSpec) → Adds specs specs [] []
adds-none specs = record { extends = extends-none specs; finds = refl }

adds-more : (old now new : List WindowSpec) (places : List ℕ) (done : List WindowSpec) (place : ℕ) (window : WindowSpec)
    → IsLength window.length → Adds old now places done → AddsPlace now new place window → Adds old new (places ++ place ∷ []) (done ++ window ∷ [])
adds-more old now new places done place window within adds next = record {
  extends = extends-on old now new adds.extends further;
  finds =
      map-append (slice_get new) places (place ∷ [])
      ∙ ap (λ xs. xs ++ slice_get new place ∷ []) (finds-on now new places done further adds.finds)
      ∙ ap (λ x. map Some done ++ x ∷ []) next.there
      ∙ sym (map-append Some done (window ∷ []));
}
  where
    further : Extends now new
    further = record { more = next.more; is = next.is; lengths = next.lengths within; differ = next.differ }

pub adds-rule : (a b c d e : List WindowSpec) (places : RulePlaces) (rule : Rule)
    → Adds a b places.when.items (windows_of rule.when) → Adds b c places.quantity.items (windows_if (quantity_of rule.action))
    → Adds c d places.price.items (windows_if (price_of rule.action)) → Adds d e places.limit.items (windows_if (limit_of rule.action))
    → AddsRule a e places rule
adds-rule a b c d e places rule when quantity price limit = record {
  extends = extends-on a b e when.extends after_when;
  finds = record {
    when = finds-on b e _ _ after_when when.finds;
    quantity = finds-on c e _ _ after_quantity quantity.finds;
    price = finds-on d e _ _ limit.extends price.finds;
    limit = limit.finds;
  };
}
  where
    after_quantity : Extends c e
    after_quantity = extends-on c d e price.extends limit.extends

    after_when : Extends b e
    after_when = extends-on b c e quantity.extends after_quantity

pub adds-no_rules : (specs : List WindowSpec) → AddsRules specs specs [] []
adds-no_rules specs = record { extends = extends-none specs; finds = tt }

pub adds-rules : (old now new : List WindowSpec) (places : List RulePlaces) (done : List Rule) (place : RulePlaces) (rule : Rule)
    → AddsRules old now places done → AddsRule now new place rule → AddsRules old new (places ++ place ∷ []) (done ++ rule ∷ [])
adds-rules old now new places done place rule adds next = record {
  extends = extends-on old now new adds.extends next.extends;
  finds = AllZip-push (FindsRule new) places done place rule (rules-on now new places done next.extends adds.finds) next.finds;
}

pub adds-next : (old now new : List WindowSpec) (places pushed : List ℕ) (windows : List WindowSpec) (i : ℕ) (d : WindowSpec) (place : ℕ)
    → AreLengths windows → i < length windows → Adds old now places (take i windows) → AddsPlace now new place (get_or windows i d)
    → pushed ≡ places ++ place ∷ [] → Adds old new pushed (take (i + 1) windows)
adds-next old now new places pushed windows i d place all within adds next is =
    subst (λ ps. Adds old new ps (take (i + 1) windows)) (sym is)
    (subst (Adds old new (places ++ place ∷ [])) (sym (take_more windows i d within))
    (adds-more old now new places (take i windows) place (get_or windows i d) (all i d within) adds next))
