-- The least file that is left, and the list of those that are left.
use Rattle.std.proofs.Common.{ℕ, ◌+◌, ◌≡◌, ◌≤◌, max, Bool, true, nat_lt, ℤ, pos, ◌-ℤ◌, List, [], ◌∷◌, filter, Option, Some, None, IfNone, IfSome, refl, sym, ap, ◌∙◌, arith}
use Rattle.std.specs.List.Sorted.{IsStrictlyIncreasing}
use Rattle.std.proofs.lemmas.List.Kept.{IsStrictlyIncreasing-filter}
use Rattle.lean_fixed.specs.declared.time.Window.{Window}
use Rattle.lean_fixed.specs.declared.resolution.Resolution.{Resolution}
use Rattle.lean_fixed.specs.declared.resolution.Resolution.TheVariants.{Minute, Hour, Daily}
use Rattle.lean_items.specs.declared.feed_key.FeedKey.{FeedKey}
use Rattle.lean_items.specs.declared.feed_key.FeedKind.{FeedKind}
use Rattle.lean_items.specs.declared.feed_key.FeedKind.TheVariants.{Coarse, Equity}
use Rattle.exchange_hours.specs.Entries.{Entries}
use Rattle.feed_paths.specs.Files.{from_1970, day_of, count_to, has_session, days, files_of, files_after}
use Rattle.feed_paths.specs.Least.{IsLeast, first_past}
use Rattle.feed_paths.proofs.RangeLemmas.{passing, past, nothing_passes, least_passes, all_pass, range_rises}

-- the numbers from one on and before an end that pass a test, or those of them past one
abbrev pub left : (ℕ → Bool) → ℕ → ℕ → Option ℕ → List ℕ
left test from end None = passing test from end
left test from end (Some n) = filter (nat_lt n) (passing test from end)

left_from : (test : ℕ → Bool) (from end : ℕ) (after : Option ℕ) → left test from end after ≡ passing test (first_past from after) end
left_from test from end None = refl
left_from test from end (Some n) = past test n from end

-- What the least of them tells of all lists that are the same.
module _ (test : ℕ → Bool) (from end : ℕ) (list : Option ℕ → List ℕ) (same : (after : Option ℕ) → list after ≡ left test from end after) where
  pub none_left : (after result : Option ℕ) → IsLeast test (first_past from after) end result → IfNone result (list after ≡ [])
  none_left after None least = same after ∙ left_from test from end after ∙ nothing_passes test (first_past from after) end least
  none_left after (Some n) least = tt

  goes_on : (after : Option ℕ) (n : ℕ) → first_past from after ≤ n → passing test (n + 1) end ≡ list (Some n)
  goes_on None n le = let first : n + 1 ≡ max from (n + 1) = omega arith in ap (λ f. passing test f end) first ∙ sym (same (Some n) ∙ past test n from end)
  goes_on (Some m) n le = let first : n + 1 ≡ max from (n + 1) = omega arith in ap (λ f. passing test f end) first ∙ sym (same (Some n) ∙ past test n from end)

  pub rest_left : (after result : Option ℕ) → IsLeast test (first_past from after) end result → IfSome result (λ n. list after ≡ n ∷ list (Some n))
  rest_left after None least = tt
  rest_left after (Some n) (e, le, to, before) =
      same after ∙ left_from test from end after ∙ least_passes test (first_past from after) n end le to e before
      ∙ ap (λ rest. n ∷ rest) (goes_on after n le)

pub coarse_same : (key : FeedKey) (window : Window) (hours : Entries) → key.kind ≡ Coarse → (after : Option ℕ)
    → files_after key window hours after ≡ left (λ _. true) (from_1970 (window.first.0 -ℤ pos 1)) (count_to (window.last.0 -ℤ pos 1)) after
coarse_same key window hours e None = ap (λ kind. files_of kind key.start.0 window hours) e ∙ sym (all_pass _ _)
coarse_same key window hours e (Some n) = ap (λ kind. filter (nat_lt n) (files_of kind key.start.0 window hours)) e ∙ ap (filter (nat_lt n)) (sym (all_pass _ _))

pub minute_same : (key : FeedKey) (symbol : List ℕ) (resolution : Resolution) (window : Window) (hours : Entries) → key.kind ≡ Equity symbol resolution → resolution ≡ Minute
    → (after : Option ℕ) → files_after key window hours after ≡ left (has_session hours) (day_of key.start.0) (count_to window.last.0) after
minute_same key symbol resolution window hours e m None =
    ap (λ kind. files_of kind key.start.0 window hours) (e ∙ ap (Equity symbol) m)
minute_same key symbol resolution window hours e m (Some n) =
    ap (λ kind. filter (nat_lt n) (files_of kind key.start.0 window hours)) (e ∙ ap (Equity symbol) m)

one_rises : (n : ℕ) → IsStrictlyIncreasing (n ∷ [])
one_rises n k within = absurd (omega arith)

-- the files of a feed rise
pub files_rise : (kind : FeedKind) (start : ℤ) (window : Window) (hours : Entries) → IsStrictlyIncreasing (files_of kind start window hours)
files_rise Coarse start window hours = range_rises _ _
files_rise (Equity symbol Minute) start window hours = IsStrictlyIncreasing-filter (has_session hours) (days (day_of start) window.last.0) (range_rises _ _)
files_rise (Equity symbol Hour) start window hours = one_rises 0
files_rise (Equity symbol Daily) start window hours = one_rises 0
