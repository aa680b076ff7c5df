-- What is kept of a security's bars follows them, bar by bar.
use Rattle.std.proofs.Common.{◌≡◌, ℕ, ℤ, ◌≤ℤ◌, ◌<ℤ◌, List, [], ◌∷◌, ◌++◌, true, false, refl, ap, sym, subst, ◌∙◌, arith}
use Rattle.std.specs.Prelude.{Option, Some, None, map, find, cond, int_le, int_lt, ◌&&◌}
use Rattle.std.specs.List.{AllByRecursion as Each, last_or}
use Rattle.std.proofs.lemmas.Bool.{and_parts, and_from}
use Rattle.std.proofs.lemmas.Int.{ints}
use Rattle.std.proofs.lemmas.List.{append-nil}
use Rattle.lean_fixed.specs.declared.money.Price.{Price}
use Rattle.lean_items.specs.declared.arrival.Arrival.{Arrival}
use Rattle.lean_items.specs.declared.bar.Bar.{Bar}
use Rattle.lean_items.specs.Fits.{is_bar_in_range}
use Rattle.bar_windows.specs.Recent.{Recent, StandsFor as WindowsStandFor}
use Rattle.consolidators.specs.declared.consolidator.Consolidator.{Consolidator}
use Rattle.consolidators.specs.Buckets.{bucket_of, bucket_end}
use Rattle.consolidators.specs.Stands.{period_of}
use Rattle.consolidators.proofs.InRange.{numbers_told}
use Rattle.clock_feeds.specs.Bars.{ends_at}
use Rattle.clock_run.specs.Histories.{given_with, closes}
use Rattle.clock_run.specs.Idle.{IsQuiet}
use Rattle.clock_run.proofs.BarLemmas.{closes-push, ends-now, fresh-push}
use Rattle.clock_run.proofs.EachLemmas.{find-none}
use Rattle.clock_run.proofs.IdleLemmas.{fresh-quiet}
use Rattle.backtest_core.specs.declared.watched.Watched.{Watched}
use Rattle.backtest_core.specs.Following.{period_in, CanTake, FollowsBars, EndsFrom}
use Rattle.backtest_core.specs.Standing.{Followed, history, feed_of}
use Rattle.backtest_core.specs.Inside.{bars_in, with_bars}
use Rattle.backtest_core.specs.Slices.{IsBehind, FitsNow, FitsOnce}
use Rattle.backtest_core.specs.Watching.{active_in, first_bar, is_behind, is_fit, IsLast, Watches, WatchesAt}

-- the windows hear the closes of what is given
pub closes-heard : (period : Option ℕ) (before between now : Recent) (bars : List Bar) (bar : Bar) (given : List Bar)
    → given ≡ given_with period (bars ++ bar ∷ []) (Some bar) → between ≡ before
    → ((cs : List Price) → WindowsStandFor between cs → WindowsStandFor now (cs ++ map (λ b. b.closing) given))
    → WindowsStandFor before (closes (record { symbol = []; period = period; bars = bars }))
    → WindowsStandFor now (closes (record { symbol = []; period = period; bars = bars ++ bar ∷ [] }))
closes-heard period before between now bars bar given gives same hears stands =
    let more : closes (record { symbol = []; period = period; bars = bars ++ bar ∷ [] })
    ≡ closes (record { symbol = []; period = period; bars = bars }) ++ map (λ b. b.closing) given =
    closes-push [] period bars bar
    ∙ ap (λ gs. closes (record { symbol = []; period = period; bars = bars }) ++ map (λ b. b.closing) gs) (sym gives) in
    subst (WindowsStandFor now) (sym more)
    (hears (closes (record { symbol = []; period = period; bars = bars })) (subst (λ w. WindowsStandFor w (closes (record { symbol = []; period = period; bars = bars }))) (sym same) stands))

-- no bar ends at the moment
pub rests-at : (t : ℕ) (w : Watched) (f : Followed) → Watches w f → IsQuiet t (history f) → w.ended ≡ None → w.fresh ≡ None → WatchesAt t w f
rests-at t w f watches quiet ended fresh = record {
  watches = watches;
  ended = ended ∙ sym (find-none (ends_at t) f.bars quiet);
  fresh = fresh ∙ sym (fresh-quiet t (history f) quiet);
}

-- a bar that is fit may be taken
pub can-take : (longer : Option Consolidator) (period : Option ℕ) (until : ℤ) (bar : Bar) → period ≡ period_in longer → EndsFrom until longer
    → is_bar_in_range bar ≡ true → is_behind period until bar ≡ true → CanTake longer bar
can-take None period until bar period_is ends range behind = (numbers_told bar range).prices.closing
can-take (Some c) period until bar period_is ends range behind =
    let numbers = numbers_told bar range in
    let here : is_behind (Some (period_of c)) until bar ≡ true = subst (λ p. is_behind p until bar ≡ true) period_is behind in
    let one = and_parts (int_le until bar.start.0) (int_lt bar.start.0 bar.end.0 && int_le bar.end.0 (bucket_end (period_of c) (bucket_of (period_of c) bar))) here in
    let two = and_parts (int_lt bar.start.0 bar.end.0) (int_le bar.end.0 (bucket_end (period_of c) (bucket_of (period_of c) bar))) one.1 in
    let low : int_le until bar.start.0 ≡ true = one.0 in
    let short : int_lt bar.start.0 bar.end.0 ≡ true = two.0 in
    let within : int_le bar.end.0 (bucket_end (period_of c) (bucket_of (period_of c) bar)) ≡ true = two.1 in (
      record { numbers = numbers; after = grind (arith, ints); within = grind (arith, ints) },
      ends c refl bar.start.0 numbers.start (grind (arith, ints)),
    )

-- the bar that ends now
ends-here : (t : ℕ) (bars : List Bar) (bar : Bar) → Each (λ b. ends_at t b ≡ false) bars → ends_at t bar ≡ true
    → find (ends_at t) (bars ++ bar ∷ []) ≡ Some bar
ends-here t [] bar quiet now = ap (λ b. cond b (Some bar) None) now
ends-here t (b ∷ bars) bar quiet now =
    ap (λ x. cond x (Some b) (find (ends_at t) (bars ++ bar ∷ []))) quiet.0 ∙ ends-here t bars bar quiet.1 now

-- a bar that fits at the moment is fit
fits-behind : (period : Option ℕ) (until : ℤ) (bars : List Bar) (bar : Bar) → IsLast until bars → IsBehind period bars bar
    → is_behind period until bar ≡ true
fits-behind None until bars bar last behind = refl
fits-behind (Some p) until bars bar last behind =
    let low : until ≤ℤ bar.start.0 = last bar.start.0 behind.0.numbers.start behind.1 in
    let short : bar.start.0 <ℤ bar.end.0 = behind.0.after in
    let within : bar.end.0 ≤ℤ bucket_end p (bucket_of p bar) = behind.0.within in
    and_from (int_le until bar.start.0) _ (grind (arith, ints))
    (and_from (int_lt bar.start.0 bar.end.0) (int_le bar.end.0 (bucket_end p (bucket_of p bar))) (grind (arith, ints)) (grind (arith, ints)))

pub fits-now : (t : ℕ) (w : Watched) (f : Followed) (bar : Bar) → Watches w f → FitsNow t f bar → is_fit w.period w.until.0 bar ≡ true
fits-now t w f bar watches fits =
    and_from (is_bar_in_range bar) (is_behind w.period w.until.0 bar) fits.in_range
    (subst (λ p. is_behind p w.until.0 bar ≡ true) (sym watches.period)
    (fits-behind f.security.period w.until.0 f.bars bar watches.last fits.behind))

last-of : (P : Bar → Type 0) (bars : List Bar) (bar : Bar) → Each P (bars ++ bar ∷ []) → P bar
last-of P [] bar all = all.0
last-of P (b ∷ bars) bar all = last-of P bars bar all.1

-- a bar is taken
pub take-at : (t : ℕ) (old now : Watched) (f : Followed) (bar : Bar) → Watches old f → IsQuiet t (history f) → FitsNow t f bar
    → active_in now ≡ active_in old → now.period ≡ old.period → now.until.0 ≡ bar.end.0
    → FollowsBars now.following.longer now.following.windows (f.bars ++ bar ∷ [])
    → now.ended ≡ Some bar
    → now.fresh ≡ last_or None (given_with old.period (f.bars ++ bar ∷ []) (Some bar))
    → WatchesAt t now (record f { bars = f.bars ++ bar ∷ [] })
take-at t old now f bar watches quiet fits active period until follows ended fresh =
    let now_ends : ends_at t bar ≡ true = ends-now t bar fits.end in
    record {
      watches = record {
        active = active ∙ watches.active;
        period = period ∙ watches.period;
        last = λ m moment all. subst (λ z. z ≤ℤ m) (sym until) (last-of (λ b. b.end.0 ≤ℤ m) f.bars bar all);
        follows = follows;
      };
      ended = ended ∙ sym (ends-here t f.bars bar quiet now_ends);
      fresh = fresh
          ∙ (ap (λ p. last_or None (given_with p (f.bars ++ bar ∷ []) (Some bar))) watches.period
          ∙ sym (fresh-push f.security.active.symbol f.security.period f.bars bar t fits.end));
    }

-- what arrives of a feed
no-bar : (bars : List Bar) → first_bar bars ≡ None → bars ≡ []
no-bar [] none = refl
no-bar (bar ∷ bars) none = absurd (let h : Some bar ≡ None = none in cc)

pub without-bar : (slice : List Arrival) (f : Followed) → first_bar (bars_in slice (feed_of f)) ≡ None → with_bars slice f ≡ f
without-bar slice f none =
    λ i. record f { bars = (ap (λ bars. f.bars ++ bars) (no-bar (bars_in slice (feed_of f)) none) ∙ append-nil f.bars) i }

pub record IsOne (t : ℕ) (f : Followed) (bars : List Bar) (bar : Bar) : Type 0 where
  pub is : bars ≡ bar ∷ []
  pub fits : FitsNow t f bar

pub with-one : (t : ℕ) (f : Followed) (bars : List Bar) (bar : Bar) → first_bar bars ≡ Some bar → FitsOnce t f bars → IsOne t f bars bar
with-one t f [] bar first once = absurd (let h : None ≡ Some bar = first in cc)
with-one t f (b ∷ []) bar first once =
    let same : b ≡ bar = (let h : Some b ≡ Some bar = first in cc) in
    record { is = ap (λ x. x ∷ []) same; fits = subst (FitsNow t f) same once }
with-one t f (b ∷ next ∷ bars) bar first once = elim once [ ]
