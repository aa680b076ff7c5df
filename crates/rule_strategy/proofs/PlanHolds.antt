-- A plan that was read is a valid one, part by part.
use Rattle.std.proofs.Common.{◌≡◌, ◌≢◌, ℕ, ◌+◌, ◌-◌, ◌≤◌, Bool, true, false, nat_le, nat_lt, pos, List, [], ◌∷◌, ◌++◌, length, All, bytes_eq, codes, Option, Some, None, IfSome, Result, Ok, Err, IfOk, refl, sym, ap, ◌∙◌, subst, arith, length-append}
use Rattle.std.proofs.lemmas.Bool.{leb-true, ltb-false, or_parts, false≢true}
use Rattle.std.proofs.lemmas.Int.{ints}
use Rattle.std.proofs.lemmas.List.Elements.{All-nil, All-push, All-head, All-tail}
use Rattle.std.proofs.lemmas.Slice.Eq.{bytes_eq-Decides}
use Rattle.std.specs.List.{list_any}
use Rattle.toml.specs.Data.{Data, Items, no_items, item, Members, get_member, as_bool}
use Rattle.lean_fixed.specs.Ranges.{IsWithin, IsStartingCash, IsLeverage}
use Rattle.trade_costs.specs.Fees.{IsCosts}
use Rattle.rule_lang.specs.declared.fault.Want.{Want}
use Rattle.rule_lang.specs.declared.fault.Want.TheVariants.{Truth, Number}
use Rattle.rule_lang.specs.Tokens.{Fault}
use Rattle.rule_lang.specs.Tree.{Tree}
use Rattle.rule_lang.specs.Reading.{reading}
use Rattle.rule_strategy.specs.declared.fault.Part.{Part}
use Rattle.rule_strategy.specs.declared.fault.Part.TheVariants as part
use Rattle.rule_strategy.specs.declared.fault.PlanFault.{PlanFault}
use Rattle.rule_strategy.specs.declared.plan.Plan.{Plan}
use Rattle.rule_strategy.specs.declared.rule.Rule.{Rule}
use Rattle.rule_strategy.specs.declared.rule_texts.RuleTexts.{RuleTexts}
use Rattle.rule_strategy.specs.declared.rule_texts.ActionTexts.{ActionTexts}
use Rattle.rule_strategy.specs.declared.rule_texts.ActionTexts.TheVariants as texts
use Rattle.rule_strategy.specs.declared.rule_texts.Verb.{Verb}
use Rattle.rule_strategy.specs.declared.rule_texts.Verb.TheVariants as verbs
use Rattle.rule_strategy.specs.declared.security.Bars.{Bars}
use Rattle.rule_strategy.specs.declared.security.Security.{Security}
use Rattle.rule_strategy.specs.declared.settings.Settings.{Settings}
use Rattle.rule_strategy.specs.Answers.{Answer, Gives}
use Rattle.rule_strategy.specs.Values as kind
use Rattle.rule_strategy.specs.Tables.{only, row, optional, table_of, length_of, array_row, text_row, text_if}
use Rattle.rule_strategy.specs.Settings.{days, window, costs, settings}
use Rattle.rule_strategy.specs.Securities.{bars, symbols_of, security_keys, security, next_security, securities_from, securities}
use Rattle.rule_strategy.specs.Universe.{selection, universe_keys, universe_table, universe_if, universe}
use Rattle.rule_strategy.specs.RuleTexts.{rests_at_price, has_limit, order, update, cancel, action, rule_keys, rule_texts, next_texts, texts_from, all_texts}
use Rattle.rule_strategy.specs.Rules.{at_rule, expression, expression_if, action_of, rule_of, rules_from, rules}
use Rattle.rule_strategy.specs.PlanFile.{top_keys, plan_of_table, table_in, plan_in, plan}
use Rattle.rule_strategy.specs.Validity.{IsRun, IsPeriod, IsSecurity, AreDistinct, IsSelection, IsUniverse, IsUniverseIf, IsOf, IsNumberIf, IsAction, IsRule, IsPlan}
use Rattle.rule_strategy.proofs.Holds.{Any, then_holds, any_holds, weaker, row_holds, optional_holds, AreFew, array_holds, IsThereIf, text_if_holds, InRange, whole_holds, amount_holds, window_day_holds, IsNew, new_symbol_holds, period_holds}

signed : (least most n : ℕ) → InRange least most n → IsWithin (pos least) (pos most) (pos n)
signed least most n h = (omega (arith, ints, h.0), omega (arith, ints, h.1))

-- ---- settings

days_by : (first last : ℕ) → InRange 1 84004 first → InRange 1 84004 last → (before few : Bool) → nat_lt last first ≡ before → nat_le (last - first + 1) 20000 ≡ few → IfOk (days first last) IsRun
days_by first last f l true few b e = rw b tt
days_by first last f l false false b e = rw (b, e) tt
days_by first last f l false true b e =
    let after : first ≤ last = ltb-false last first b in
    let short : last - first + 1 ≤ 20000 = leb-true (last - first + 1) 20000 e in
    rw (b, e) (record {
      days = record { first = signed 1 84004 first f; last = signed 1 84004 last l };
      order = omega (arith, ints, after);
      few = omega (arith, ints, after, short);
    })

window_holds : (table : Members) → IfOk (window table) IsRun
unfolding window
window_holds table =
    then_holds (InRange 1 84004) IsRun (row (codes "start") kind.window_day None table) _
    (row_holds (InRange 1 84004) (codes "start") kind.window_day None table window_day_holds tt)
    (λ first f. then_holds (InRange 1 84004) IsRun (row (codes "end") kind.window_day None table) _
    (row_holds (InRange 1 84004) (codes "end") kind.window_day None table window_day_holds tt)
    (λ last l. days_by first last f l (nat_lt last first) (nat_le (last - first + 1) 20000) refl refl))

amount_row : (key : List ℕ) (least most : ℕ) (default : Option ℕ) (table : Members) → IfSome default (InRange least most) → IfOk (row key (kind.amount least most) default table) (InRange least most)
amount_row key least most default table h =
    row_holds (InRange least most) key (kind.amount least most) default table (amount_holds least most) h

whole_row : (key : List ℕ) (least most : ℕ) (default : Option ℕ) (table : Members) → IfSome default (InRange least most) → IfOk (row key (kind.whole least most) default table) (InRange least most)
whole_row key least most default table h =
    row_holds (InRange least most) key (kind.whole least most) default table (whole_holds least most) h

costs_hold : (table : Members) → IfOk (costs table) IsCosts
unfolding costs
costs_hold table =
    then_holds (InRange 0 1000000) IsCosts (row (codes "fee-per-share") (kind.amount 0 1000000) (Some 0) table) _
    (amount_row (codes "fee-per-share") 0 1000000 (Some 0) table (omega arith, omega arith))
    (λ share s. then_holds (InRange 0 10000000000) IsCosts (row (codes "fee-minimum") (kind.amount 0 10000000000) (Some 0) table) _
    (amount_row (codes "fee-minimum") 0 10000000000 (Some 0) table (omega arith, omega arith))
    (λ least l. then_holds (InRange 0 1000000) IsCosts (row (codes "slippage") (kind.whole 0 1000000) (Some 0) table) _
    (whole_row (codes "slippage") 0 1000000 (Some 0) table (omega arith, omega arith))
    (λ slip p. record {
      per_share = signed 0 1000000 share s;
      least = signed 0 10000000000 least l;
      slip = signed 0 1000000 slip p;
    })))

pub record AreSettings (settings : Settings) : Type 0 where
  pub window : IsRun settings.window
  pub cash : IsStartingCash settings.cash.0
  pub leverage : IsLeverage settings.leverage
  pub costs : IsCosts settings.costs

settings_hold : (table : Members) → IfOk (settings table) AreSettings
unfolding settings
settings_hold table =
    then_holds IsRun AreSettings (window table) _ (window_holds table)
    (λ window w. then_holds (InRange 1 100000000000000000000) AreSettings (row (codes "cash") (kind.amount 1 100000000000000000000) None table) _
    (amount_row (codes "cash") 1 100000000000000000000 None table tt)
    (λ cash c. then_holds (InRange 1 100) AreSettings (row (codes "leverage") (kind.whole 1 100) (Some 2) table) _
    (whole_row (codes "leverage") 1 100 (Some 2) table (omega arith, omega arith))
    (λ leverage v. then_holds IsCosts AreSettings (costs table) _ (costs_hold table)
    (λ costs p. record { window = w; cash = signed 1 100000000000000000000 cash c; leverage = v; costs = p }))))

-- ---- securities

abbrev HaveBars : Bars → Type 0
HaveBars bars = IsPeriod bars.resolution bars.period

bars_hold : (table : Members) → IfOk (bars table) HaveBars
unfolding bars
bars_hold table =
    then_holds Any HaveBars (row (codes "resolution") kind.resolution None table) _ (any_holds _)
    (λ resolution r. then_holds Any HaveBars (row (codes "fill-forward") as_bool (Some true) table) _ (any_holds _)
    (λ fill f. then_holds (IsPeriod resolution) HaveBars (optional (codes "period") (kind.period resolution) table) _
    (optional_holds (IsPeriod resolution) (codes "period") (kind.period resolution) table tt (period_holds resolution))
    (λ period p. p)))

-- a security whose symbol is none of some others
abbrev IsNext : List Security → Security → Type 0
IsNext earlier security = IsSecurity security × (list_any (bytes_eq security.symbol) (symbols_of earlier) ≡ false)

security_holds : (earlier : List Security) (table : Members) → IfOk (security earlier table) (IsNext earlier)
unfolding security
security_holds earlier table =
    then_holds Any (IsNext earlier) (only security_keys table) _ (any_holds _)
    (λ known k. then_holds (IsNew (symbols_of earlier)) (IsNext earlier) (row (codes "symbol") (kind.new_symbol (symbols_of earlier)) None table) _
    (row_holds (IsNew (symbols_of earlier)) (codes "symbol") (kind.new_symbol (symbols_of earlier)) None table (new_symbol_holds (symbols_of earlier)) tt)
    (λ symbol s. then_holds HaveBars (IsNext earlier) (bars table) _ (bars_hold table)
    (λ bars b. (record { symbol = s.0; period = b }, s.1))))

next_security_holds : (earlier : List Security) (d : Data) → IfOk (next_security earlier d) (IsNext earlier)
unfolding next_security
next_security_holds earlier d =
    then_holds Any (IsNext earlier) (table_of (codes "securities") d) _ (any_holds _) (λ table t. security_holds earlier table)

same_bytes : (text : List ℕ) → bytes_eq text text ≡ true
same_bytes text = (bytes_eq-Decides text text).1 refl

differs : (text other : List ℕ) → bytes_eq text other ≡ false → other ≢ text
differs text other e same = false≢true (sym e ∙ ap (bytes_eq text) same ∙ same_bytes text)

distinct-push : (symbols : List (List ℕ)) (text : List ℕ) → AreDistinct symbols → list_any (bytes_eq text) symbols ≡ false → AreDistinct (symbols ++ text ∷ [])
distinct-push [] text h e = (All-nil (λ other. text ≢ other), tt)
distinct-push (symbol ∷ symbols) text h e =
    let parts = or_parts (bytes_eq text symbol) (list_any (bytes_eq text) symbols) e in
    (All-push (λ other. symbol ≢ other) symbols text h.0 (differs text symbol parts.0), distinct-push symbols text h.1 parts.1)

record AreListed (count : ℕ) (securities : List Security) : Type 0 where
  pub listed : length securities ≡ count
  pub distinct : AreDistinct (symbols_of securities)
  pub each : All IsSecurity securities

symbols-push : (earlier : List Security) (next : Security) → symbols_of (earlier ++ next ∷ []) ≡ symbols_of earlier ++ next.symbol ∷ []
symbols-push [] next = refl
symbols-push (security ∷ earlier) next = ap (λ xs. security.symbol ∷ xs) (symbols-push earlier next)

listed-push : (count : ℕ) (earlier : List Security) (next : Security) → AreListed count earlier → IsNext earlier next → AreListed (count + 1) (earlier ++ next ∷ [])
listed-push count earlier next h n =
    record {
      listed = length-append earlier (next ∷ []) ∙ ap (λ k. k + 1) h.listed;
      distinct = rw (symbols-push earlier next) (distinct-push (symbols_of earlier) next.symbol h.distinct n.1);
      each = All-push IsSecurity earlier next h.each n.0;
    }

securities_from_hold : (count most : ℕ) (earlier : List Security) (items : Items) → count + length_of items ≡ most → AreListed count earlier → IfOk (securities_from earlier items) (AreListed most)
unfolding securities_from
securities_from_hold count most earlier no_items e h = subst (λ k. AreListed k earlier) (let same : count ≡ most = omega (arith, e) in same) h
securities_from_hold count most earlier (item d others) e h =
    then_holds (IsNext earlier) (AreListed most) (next_security earlier d) _ (next_security_holds earlier d)
    (λ next n. securities_from_hold (count + 1) most (earlier ++ next ∷ []) others (omega (arith, e)) (listed-push count earlier next h n))

record AreSecurities (securities : List Security) : Type 0 where
  pub few : length securities ≤ 256
  pub distinct : AreDistinct (symbols_of securities)
  pub each : All IsSecurity securities

securities_hold : (table : Members) → IfOk (securities table) AreSecurities
unfolding securities
securities_hold table =
    then_holds (AreFew 256) AreSecurities (array_row (codes "securities") 256 table) _ (array_holds (codes "securities") 256 table)
    (λ items few. weaker (AreListed (length_of items)) AreSecurities (securities_from [] items)
    (λ all h. record { few = subst (λ k. k ≤ 256) (sym h.listed) few; distinct = h.distinct; each = h.each })
    (securities_from_hold 0 (length_of items) [] items (omega arith)
    (record { listed = refl; distinct = tt; each = All-nil IsSecurity })))

-- ---- the universe

selection_holds : (table : Members) → IfOk (selection table) IsSelection
unfolding selection
selection_holds table =
    then_holds (InRange 1 256) IsSelection (row (codes "top") (kind.whole 1 256) None table) _
    (whole_row (codes "top") 1 256 None table tt)
    (λ top t. then_holds (InRange 0 10000000000) IsSelection (row (codes "min-price") (kind.amount 0 10000000000) (Some 0) table) _
    (amount_row (codes "min-price") 0 10000000000 (Some 0) table (omega arith, omega arith))
    (λ price p. then_holds (InRange 0 1000000000000000) IsSelection (row (codes "min-volume") (kind.whole 0 1000000000000000) (Some 0) table) _
    (whole_row (codes "min-volume") 0 1000000000000000 (Some 0) table (omega arith, omega arith))
    (λ volume v. then_holds (InRange 0 1000000000000000) IsSelection (row (codes "min-dollar-volume") (kind.whole 0 1000000000000000) (Some 0) table) _
    (whole_row (codes "min-dollar-volume") 0 1000000000000000 (Some 0) table (omega arith, omega arith))
    (λ dollars d. record {
      top = t;
      price = signed 0 10000000000 price p;
      volume = signed 0 1000000000000000 volume v;
      dollars = signed 0 1000000000000000 dollars d;
    }))))

universe_table_holds : (table : Members) → IfOk (universe_table table) IsUniverse
unfolding universe_table
universe_table_holds table =
    then_holds Any IsUniverse (only universe_keys table) _ (any_holds _)
    (λ known k. then_holds HaveBars IsUniverse (bars table) _ (bars_hold table)
    (λ bars b. then_holds IsSelection IsUniverse (selection table) _ (selection_holds table)
    (λ rule r. record { period = b; selection = r })))

universe_if_holds : (found : Option Data) → IfOk (universe_if found) IsUniverseIf
universe_if_holds None = tt
universe_if_holds (Some d) =
    then_holds Any IsUniverseIf (table_of (codes "universe") d) _ (any_holds _)
    (λ table t. then_holds IsUniverse IsUniverseIf (universe_table table) _ (universe_table_holds table) (λ universe u. u))

universe_holds : (table : Members) → IfOk (universe table) IsUniverseIf
unfolding universe
universe_holds table = universe_if_holds (get_member (codes "universe") table)

-- ---- rules as texts

abbrev HasTexts : ActionTexts → Type 0
HasTexts (texts.Order kind quantity price limit) = IsThereIf (rests_at_price kind) price × IsThereIf (has_limit kind) limit
HasTexts (texts.Update price) = Unit {0}
HasTexts texts.Cancel = Unit {0}

order_holds : (table : Members) → IfOk (order table) HasTexts
unfolding order
order_holds table =
    then_holds Any HasTexts (row (codes "kind") kind.kind None table) _ (any_holds _)
    (λ kind k. then_holds Any HasTexts (text_row (codes "quantity") table) _ (any_holds _)
    (λ quantity q. then_holds (IsThereIf (rests_at_price kind)) HasTexts (text_if (rests_at_price kind) (codes "price") table) _
    (text_if_holds (rests_at_price kind) (codes "price") table)
    (λ price p. then_holds (IsThereIf (has_limit kind)) HasTexts (text_if (has_limit kind) (codes "limit") table) _
    (text_if_holds (has_limit kind) (codes "limit") table) (λ limit l. (p, l)))))

update_holds : (table : Members) → IfOk (update table) HasTexts
unfolding update
update_holds table =
    then_holds Any HasTexts (text_if false (codes "kind") table) _ (any_holds _)
    (λ kind k. then_holds Any HasTexts (text_if false (codes "quantity") table) _ (any_holds _)
    (λ quantity q. then_holds Any HasTexts (text_row (codes "price") table) _ (any_holds _)
    (λ price p. then_holds Any HasTexts (text_if false (codes "limit") table) _ (any_holds _) (λ limit l. tt))))

cancel_holds : (table : Members) → IfOk (cancel table) HasTexts
unfolding cancel
cancel_holds table =
    then_holds Any HasTexts (text_if false (codes "kind") table) _ (any_holds _)
    (λ kind k. then_holds Any HasTexts (text_if false (codes "quantity") table) _ (any_holds _)
    (λ quantity q. then_holds Any HasTexts (text_if false (codes "price") table) _ (any_holds _)
    (λ price p. then_holds Any HasTexts (text_if false (codes "limit") table) _ (any_holds _) (λ limit l. tt))))

action_holds : (verb : Verb) (table : Members) → IfOk (action verb table) HasTexts
action_holds verbs.Submit table = order_holds table
action_holds verbs.Cancel table = cancel_holds table
action_holds verbs.Update table = update_holds table

abbrev AreTexts : RuleTexts → Type 0
AreTexts rule = HasTexts rule.action

rule_texts_hold : (table : Members) → IfOk (rule_texts table) AreTexts
unfolding rule_texts
rule_texts_hold table =
    then_holds Any AreTexts (only rule_keys table) _ (any_holds _)
    (λ known k. then_holds Any AreTexts (text_row (codes "when") table) _ (any_holds _)
    (λ when w. then_holds Any AreTexts (row (codes "do") kind.verb None table) _ (any_holds _)
    (λ verb v. then_holds Any AreTexts (optional (codes "symbol") kind.symbol table) _ (any_holds _)
    (λ symbol s. then_holds HasTexts AreTexts (action verb table) _ (action_holds verb table) (λ action a. a)))))

next_texts_hold : (d : Data) → IfOk (next_texts d) AreTexts
unfolding next_texts
next_texts_hold d = then_holds Any AreTexts (table_of (codes "rules") d) _ (any_holds _) (λ table t. rule_texts_hold table)

record AreAllTexts (count : ℕ) (all : List RuleTexts) : Type 0 where
  pub listed : length all ≡ count
  pub each : All AreTexts all

texts_from_hold : (count most : ℕ) (earlier : List RuleTexts) (items : Items) → count + length_of items ≡ most → AreAllTexts count earlier → IfOk (texts_from earlier items) (AreAllTexts most)
unfolding texts_from
texts_from_hold count most earlier no_items e h = subst (λ k. AreAllTexts k earlier) (let same : count ≡ most = omega (arith, e) in same) h
texts_from_hold count most earlier (item d others) e h =
    then_holds AreTexts (AreAllTexts most) (next_texts d) _ (next_texts_hold d)
    (λ next n. texts_from_hold (count + 1) most (earlier ++ next ∷ []) others (omega (arith, e))
    (record {
      listed = length-append earlier (next ∷ []) ∙ ap (λ k. k + 1) h.listed;
      each = All-push AreTexts earlier next h.each n;
    }))

record AreFewTexts (all : List RuleTexts) : Type 0 where
  pub few : length all ≤ 64
  pub each : All AreTexts all

all_texts_hold : (table : Members) → IfOk (all_texts table) AreFewTexts
unfolding all_texts
all_texts_hold table =
    then_holds (AreFew 64) AreFewTexts (array_row (codes "rules") 64 table) _ (array_holds (codes "rules") 64 table)
    (λ items few. weaker (AreAllTexts (length_of items)) AreFewTexts (texts_from [] items)
    (λ all h. record { few = subst (λ k. k ≤ 64) (sym h.listed) few; each = h.each })
    (texts_from_hold 0 (length_of items) [] items (omega arith) (record { listed = refl; each = All-nil AreTexts })))

-- ---- rules; that what is read is of the kind that was wanted is the law of the language

abbrev pub Typed : Type 0
Typed = (text : List ℕ) (want : Want) (tree : Tree) → reading text want ≡ Ok tree → IsOf want tree

module _ (typed : Typed) where
  at_rule_holds : (number : ℕ) (part : Part) (want : Want) (read : Result Tree Fault) → ((tree : Tree) → read ≡ Ok tree → IsOf want tree) → IfOk (at_rule number part read) (IsOf want)
  at_rule_holds number part want (Ok tree) h = h tree refl
  at_rule_holds number part want (Err (error, at)) h = tt

  expression_holds : (number : ℕ) (part : Part) (want : Want) (text : List ℕ) → IfOk (expression number part want text) (IsOf want)
  unfolding expression
  expression_holds number part want text = at_rule_holds number part want (reading text want) (typed text want)

  expression_if_holds : (number : ℕ) (part : Part) (taken : Bool) (text : Option (List ℕ)) → IsThereIf taken text → IfOk (expression_if number part text) (IsNumberIf taken)
  unfolding expression_if
  expression_if_holds number part true (Some text) h =
      then_holds (IsOf Number) (IsNumberIf true) (expression number part Number text) _ (expression_holds number part Number text) (λ tree t. t)
  expression_if_holds number part false None h = tt
  expression_if_holds number part true None h = absurd (false≢true h)
  expression_if_holds number part false (Some text) h = absurd (false≢true (sym h))

  action_of_holds : (number : ℕ) (action : ActionTexts) → HasTexts action → IfOk (action_of number action) IsAction
  unfolding action_of
  action_of_holds number (texts.Order kind quantity price limit) h =
      then_holds (IsOf Number) IsAction (expression number part.Quantity Number quantity) _ (expression_holds number part.Quantity Number quantity)
      (λ q q_is. then_holds (IsNumberIf (rests_at_price kind)) IsAction (expression_if number part.Price price) _
      (expression_if_holds number part.Price (rests_at_price kind) price h.0)
      (λ p p_is. then_holds (IsNumberIf (has_limit kind)) IsAction (expression_if number part.Limit limit) _
      (expression_if_holds number part.Limit (has_limit kind) limit h.1) (λ l l_is. (q_is, p_is, l_is))))
  action_of_holds number (texts.Update price) h =
      then_holds (IsOf Number) IsAction (expression number part.Price Number price) _ (expression_holds number part.Price Number price) (λ p p_is. p_is)
  action_of_holds number texts.Cancel h = tt

  rule_of_holds : (number : ℕ) (rule : RuleTexts) → AreTexts rule → IfOk (rule_of number rule) IsRule
  unfolding rule_of
  rule_of_holds number rule h =
      then_holds (IsOf Truth) IsRule (expression number part.When Truth rule.when) _ (expression_holds number part.When Truth rule.when)
      (λ when w. then_holds IsAction IsRule (action_of number rule.action) _ (action_of_holds number rule.action h)
      (λ action a. record { when = w; action = a }))

  record AreRules (most : ℕ) (all : List Rule) : Type 0 where
    pub few : length all ≤ most
    pub each : All IsRule all

  rules_from_hold : (number count : ℕ) (earlier : List Rule) (rest : List RuleTexts) → length earlier + length rest ≤ count → All IsRule earlier → All AreTexts rest → IfOk (rules_from number earlier rest) (AreRules count)
  unfolding rules_from
  rules_from_hold number count earlier [] few each h = record { few = omega (arith, few); each = each }
  rules_from_hold number count earlier (rule ∷ rest) few each h =
      then_holds IsRule (AreRules count) (rule_of number rule) _ (rule_of_holds number rule (All-head AreTexts rule rest h))
      (λ next n. rules_from_hold (number + 1) count (earlier ++ next ∷ []) rest
      (let longer = length-append earlier (next ∷ []) in omega (arith, few, longer))
      (All-push IsRule earlier next each n) (All-tail AreTexts rule rest h))

  rules_hold : (table : Members) → IfOk (rules table) (AreRules 64)
  unfolding rules
  rules_hold table =
      then_holds AreFewTexts (AreRules 64) (all_texts table) _ (all_texts_hold table)
      (λ texts t. rules_from_hold 1 64 [] texts (omega (arith, t.few)) (All-nil IsRule) t.each)

  -- ---- the plan

  plan_of_table_holds : (table : Members) → IfOk (plan_of_table table) IsPlan
  unfolding plan_of_table
  plan_of_table_holds table =
      then_holds Any IsPlan (only top_keys table) _ (any_holds _)
      (λ known k. then_holds AreSettings IsPlan (settings table) _ (settings_hold table)
      (λ settings s. then_holds AreSecurities IsPlan (securities table) _ (securities_hold table)
      (λ securities c. then_holds IsUniverseIf IsPlan (universe table) _ (universe_holds table)
      (λ universe u. then_holds (AreRules 64) IsPlan (rules table) _ (rules_hold table)
      (λ rules r. record {
        window = s.window;
        cash = s.cash;
        leverage = s.leverage;
        costs = s.costs;
        listed = c.few;
        distinct = c.distinct;
        securities = c.each;
        universe = u;
        few_rules = r.few;
        rules = r.each;
      })))))

  plan_in_holds : (table : Option Members) → IfOk (plan_in table) IsPlan
  plan_in_holds None = tt
  plan_in_holds (Some table) = plan_of_table_holds table

  pub plan_holds : (bytes : List ℕ) (p : Plan) → plan bytes ≡ Ok p → IsPlan p
  unfolding plan
  plan_holds bytes p e = let Valid : Answer Plan → Type 0 = λ read. IfOk read IsPlan in subst Valid e (plan_in_holds (table_in bytes))

-- what is answered is valid, where the definition's plan is
pub valid_of : ((bytes : List ℕ) (p : Plan) → plan bytes ≡ Ok p → IsPlan p) → (bytes : List ℕ) (read : Result Plan PlanFault) → Gives (λ p. p) (plan bytes) read → IfOk read IsPlan
valid_of law bytes (Ok p) h = law bytes p h
valid_of law bytes (Err fault) h = tt
