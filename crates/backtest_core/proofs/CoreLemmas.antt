-- Lists of securities that grow, shrink and are seen through.
use Rattle.std.proofs.Common.{◌≡◌, ℕ, zero, suc, ◌≤◌, ◌<◌, ◌%◌, arith, length, get_or, set, List, [], ◌∷◌, ◌++◌, Bool, true, false, refl, ap, sym, subst, ◌∙◌}
use Rattle.std.specs.Prelude.{map, filter, not, cond, nat_lt, Option, Some, None}
use Rattle.std.proofs.Math.Nat.{mod-eq_of_lt}
use Rattle.std.proofs.lemmas.Bool.Decides.{nat_tests}
use Rattle.std.specs.Option.{ForSome, option_map_or}
use Rattle.universe_state.specs.Choice.{additions, room}
use Rattle.lean_fixed.specs.declared.resolution.Resolution.{Resolution}
use Rattle.lean_fixed.specs.declared.resolution.Resolution.TheVariants.{Minute, Hour, Daily}
use Rattle.consolidators.specs.Pushed.{IsPeriod as IsLasting}
use Rattle.lean_items.specs.declared.arrival.Arrival.{Arrival}
use Rattle.universe_state.specs.Active.{Active}
use Rattle.clock_book.specs.Seen.{Seen}
use Rattle.clock_run.specs.Lines.{removed}
use Rattle.clock_run.specs.States.{symbol_of}
use Rattle.clock_run.specs.Moments.{is_done_with}
use Rattle.backtest_core.specs.declared.watched.Watched.{Watched}
use Rattle.backtest_core.specs.Standing.{Followed, Standing, active_of}
use Rattle.backtest_core.specs.declared.waiting.Waiting.{Waiting}
use Rattle.backtest_core.specs.Inside.{with_bars, is_too_many}
use Rattle.backtest_core.specs.Waiting.{key_in, subscriptions_in}
use Rattle.backtest_core.specs.Beginning.{with_slice}
use Rattle.backtest_core.specs.Watching.{active_in, Watches, WatchesAt}
use Rattle.backtest_core.specs.Leaving.{is_done, leaving_of, staying_of, lines_of}
use Rattle.rule_strategy.specs.declared.universe.UniversePlan.{UniversePlan}
use Rattle.rule_strategy.specs.Validity.{IsPeriod, IsUniverseIf}
use Rattle.backtest_core.specs.Following.{IsPeriodIn}
use Rattle.std.specs.List.{AllZip, AllByRecursion as Each}

divides : (n : ℕ) → 1 ≤ n → 1440 % n ≡ 0 → IsLasting n
divides n least whole = by (nat_lt 1440 n) refl
  where
    by : (b : Bool) → nat_lt 1440 n ≡ b → IsLasting n
    by true above =
        let beyond : 1440 < n = grind (arith, nat_tests) in
        absurd (omega (arith, sym (mod-eq_of_lt beyond) ∙ whole))
    by false within = (omega (arith, least), grind (arith, nat_tests))

pub each_append : {A : Type 0} (P : A → Type 0) (xs : List A) (x : A) → Each P xs → P x → Each P (xs ++ x ∷ [])
each_append P [] x all one = (one, tt)
each_append P (y ∷ xs) x all one = (all.0, each_append P xs x all.1 one)

pub zip_append : {A B : Type 0} (R : A → B → Type 0) (xs : List A) (ys : List B) (x : A) (y : B) → AllZip R xs ys → R x y
    → AllZip R (xs ++ x ∷ []) (ys ++ y ∷ [])
zip_append R [] [] x y zip one = (one, tt)
zip_append R [] (z ∷ ys) x y zip one = elim zip [ ]
zip_append R (w ∷ xs) [] x y zip one = elim zip [ ]
zip_append R (w ∷ xs) (z ∷ ys) x y zip one = (zip.0, zip_append R xs ys x y zip.1 one)

-- the period of a universe is one of a day
period-lasts : (resolution : Resolution) (period : Option ℕ) → IsPeriod resolution period → IsPeriodIn period
period-lasts resolution None valid = λ n is. absurd (let h : None ≡ Some n = is in cc)
period-lasts Minute (Some n) valid = λ m is. subst IsLasting (let h : Some n ≡ Some m = is in cc) (divides n valid.0 valid.1)
period-lasts Hour (Some n) valid = λ m is. subst IsLasting (let h : Some n ≡ Some m = is in cc) (divides n valid.0 valid.1)
period-lasts Daily (Some n) valid = elim valid [ ]

pub lasts : (universe : Option UniversePlan) → IsUniverseIf universe → ForSome universe (λ u. IsPeriodIn u.period)
lasts None valid = λ u is. absurd (let h : None ≡ Some u = is in cc)
lasts (Some universe) valid = λ u is.
    let same : universe ≡ u = (let h : Some universe ≡ Some u = is in cc) in
    subst (λ (u : UniversePlan). IsPeriodIn u.period) same (period-lasts universe.resolution universe.period valid.period)

pub each-set : {A : Type 0} (P : A → Type 0) (n : ℕ) (xs : List A) (x d : A) → n < length xs → (P (get_or xs n d) → P x) → Each P xs → Each P (set xs n x)
each-set P n [] x d within step all = tt
each-set P zero (y ∷ xs) x d within step all = (step all.0, all.1)
each-set P (suc n) (y ∷ xs) x d within step all = (all.0, each-set P n xs x d (omega (arith, within)) step all.1)

pub each-filter : {A : Type 0} (P : A → Type 0) (test : A → Bool) (xs : List A) → Each P xs → Each P (filter test xs)
each-filter P test [] all = tt
each-filter P test (x ∷ xs) all = by (test x) (each-filter P test xs all.1)
  where
    by : (b : Bool) → Each P (filter test xs) → Each P (cond b (x ∷ filter test xs) (filter test xs))
    by true later = (all.0, later)
    by false later = later

pub actives-watched : (t : ℕ) (ws : List Watched) (fs : List Followed) → AllZip (WatchesAt t) ws fs → map active_in ws ≡ map active_of fs
actives-watched t [] [] zip = refl
actives-watched t [] (f ∷ fs) zip = elim zip [ ]
actives-watched t (w ∷ ws) [] zip = elim zip [ ]
actives-watched t (w ∷ ws) (f ∷ fs) zip = λ j. zip.0.watches.active j ∷ actives-watched t ws fs zip.1 j

pub actives-heard : (slice : List Arrival) (fs : List Followed) → map active_of (map (with_bars slice) fs) ≡ map active_of fs
actives-heard slice [] = refl
actives-heard slice (f ∷ fs) = ap (λ us. active_of f ∷ us) (actives-heard slice fs)

-- what leaves and what stays
pub feeds-leaving : (seen : Seen) (t : ℕ) (ws : List Watched) (fs : List Followed) → AllZip (WatchesAt t) ws fs
    → map (λ w. w.feed) (leaving_of seen ws) ≡ map (λ f. f.security.active.feed) (filter (λ f. is_done_with seen f.security) fs)
feeds-leaving seen t [] [] zip = refl
feeds-leaving seen t [] (f ∷ fs) zip = elim zip [ ]
feeds-leaving seen t (w ∷ ws) [] zip = elim zip [ ]
feeds-leaving seen t (w ∷ ws) (f ∷ fs) zip =
    let more = leaving_of seen ws in
    ap (λ b. map (λ w. w.feed) (cond b (w ∷ more) more)) (ap (is_done seen) zip.0.watches.active)
    ∙ by (is_done seen f.security.active) (ap (λ (a : Active). a.feed) zip.0.watches.active) (feeds-leaving seen t ws fs zip.1)
  where
    by : (b : Bool) → w.feed ≡ f.security.active.feed
        → map (λ w. w.feed) (leaving_of seen ws) ≡ map (λ f. f.security.active.feed) (filter (λ f. is_done_with seen f.security) fs)
        → map (λ w. w.feed) (cond b (w ∷ leaving_of seen ws) (leaving_of seen ws))
        ≡ map (λ f. f.security.active.feed) (cond b (f ∷ filter (λ f. is_done_with seen f.security) fs) (filter (λ f. is_done_with seen f.security) fs))
    by true same later = λ j. same j ∷ later j
    by false same later = later

pub lines-leaving : (seen : Seen) (n t : ℕ) (ws : List Watched) (fs : List Followed) → AllZip (WatchesAt t) ws fs
    → lines_of n (leaving_of seen ws) ≡ map (λ f. removed n (symbol_of f.security)) (filter (λ f. is_done_with seen f.security) fs)
lines-leaving seen n t [] [] zip = refl
lines-leaving seen n t [] (f ∷ fs) zip = elim zip [ ]
lines-leaving seen n t (w ∷ ws) [] zip = elim zip [ ]
lines-leaving seen n t (w ∷ ws) (f ∷ fs) zip =
    let more = leaving_of seen ws in
    ap (λ b. lines_of n (cond b (w ∷ more) more)) (ap (is_done seen) zip.0.watches.active)
    ∙ by (is_done seen f.security.active) (ap (λ (a : Active). a.symbol) zip.0.watches.active) (lines-leaving seen n t ws fs zip.1)
  where
    by : (b : Bool) → w.symbol ≡ symbol_of f.security
        → lines_of n (leaving_of seen ws) ≡ map (λ f. removed n (symbol_of f.security)) (filter (λ f. is_done_with seen f.security) fs)
        → lines_of n (cond b (w ∷ leaving_of seen ws) (leaving_of seen ws))
        ≡ map (λ f. removed n (symbol_of f.security)) (cond b (f ∷ filter (λ f. is_done_with seen f.security) fs) (filter (λ f. is_done_with seen f.security) fs))
    by true same later = λ j. removed n (same j) ∷ later j
    by false same later = later

pub stay-watched : (seen : Seen) (t : ℕ) (ws : List Watched) (fs : List Followed) → AllZip (WatchesAt t) ws fs
    → AllZip Watches (staying_of seen ws) (filter (λ f. not (is_done_with seen f.security)) fs)
stay-watched seen t [] [] zip = tt
stay-watched seen t [] (f ∷ fs) zip = elim zip [ ]
stay-watched seen t (w ∷ ws) [] zip = elim zip [ ]
stay-watched seen t (w ∷ ws) (f ∷ fs) zip =
    let more = filter (λ f. not (is_done_with seen f.security)) fs in
    subst (λ b. AllZip Watches (cond b (w ∷ staying_of seen ws) (staying_of seen ws)) (cond (not (is_done seen f.security.active)) (f ∷ more) more))
    (sym (ap (λ a. not (is_done seen a)) zip.0.watches.active))
    (by (not (is_done seen f.security.active)) zip.0.watches (stay-watched seen t ws fs zip.1))
  where
    by : (b : Bool) → Watches w f → AllZip Watches (staying_of seen ws) (filter (λ f. not (is_done_with seen f.security)) fs)
        → AllZip Watches (cond b (w ∷ staying_of seen ws) (staying_of seen ws))
        (cond b (f ∷ filter (λ f. not (is_done_with seen f.security)) fs) (filter (λ f. not (is_done_with seen f.security)) fs))
    by true one later = (one, later)
    by false one later = later

pub keys-waiting : (ws : List Waiting) → map (λ x. x.key) (subscriptions_in ws) ≡ map key_in ws
keys-waiting [] = refl
keys-waiting (w ∷ ws) = ap (λ keys. key_in w ∷ keys) (keys-waiting ws)

-- bars change nothing in the room that there is
pub too-many-heard : (slice : List Arrival) (v : Standing) (o : Option (List (List ℕ)))
    → option_map_or (is_too_many (with_slice slice v)) o false ≡ option_map_or (is_too_many v) o false
too-many-heard slice v o =
    ap (λ us. option_map_or (λ symbols. nat_lt (room us) (length (additions symbols us))) o false) (actives-heard slice v.followed)
