-- Bars of a longer period. Time is cut into buckets of that many minutes, and the bars that start in one make one bar.
use Rattle.std.specs.Prelude.{Bool, false, not, ◌||◌, ℤ, pos, ◌+ℤ◌, ◌*ℤ◌, int_lt, ℕ, List, [], ◌∷◌, map, filter, fold, Option, Some, None}
use Rattle.std.specs.Int.{int_div_euclid, int_max, int_min}
use Rattle.std.specs.List.{find, filter_map, list_any}
use Rattle.std.specs.Option.{option_map_or}
use Rattle.std.specs.Ordering.{int_eq}
use Rattle.lean_fixed.specs.declared.money.Price.{Price}
use Rattle.lean_fixed.specs.declared.money.Shares.{Shares}
use Rattle.lean_items.specs.declared.bar.Bar.{Bar}

-- bucket k begins at k periods after 1970-01-01 00:00 and ends where the next one begins
abbrev pub bucket_start : ℕ → ℤ → ℤ
bucket_start period k = k *ℤ pos period

abbrev pub bucket_end : ℕ → ℤ → ℤ
bucket_end period k = bucket_start period k +ℤ pos period

-- the bucket of a moment, and the one in which a bar starts
abbrev pub bucket_at : ℕ → ℤ → ℤ
bucket_at period minute = int_div_euclid minute (pos period)

abbrev pub bucket_of : ℕ → Bar → ℤ
bucket_of period bar = bucket_at period bar.start.0

abbrev pub greater : Price → Price → Price
greater first second = record { 0 = int_max first.0 second.0 }

abbrev pub lesser : Price → Price → Price
lesser first second = record { 0 = int_min first.0 second.0 }

abbrev pub total : Shares → Shares → Shares
total first second = record { 0 = first.0 +ℤ second.0 }

-- The one bar that a first bar and others make between two moments: the first opening, the greatest high, the least
-- low, the last closing, the sum of the volumes, and real where one of them is real.
abbrev pub made_from : ℤ → ℤ → Bar → List Bar → Bar
made_from start end first others = record {
  start = record { 0 = start };
  end = record { 0 = end };
  opening = first.opening;
  high = fold (λ high bar. greater high bar.high) first.high others;
  low = fold (λ low bar. lesser low bar.low) first.low others;
  closing = fold (λ _ bar. bar.closing) first.closing others;
  volume = fold (λ volume bar. total volume bar.volume) first.volume others;
  real = fold (λ real bar. real || bar.real) first.real others;
}

abbrev pub made_of : ℤ → ℤ → List Bar → Option Bar
made_of start end [] = None
made_of start end (first ∷ others) = Some (made_from start end first others)

-- the bar of bucket k, made of the bars that start in it
abbrev pub bucket : ℕ → List Bar → ℤ → Option Bar
bucket period bars k =
    made_of (bucket_start period k) (bucket_end period k) (filter (λ bar. int_eq (bucket_of period bar) k) bars)

-- a bar completes bucket k where it ends at the bucket's end or starts in a later bucket
abbrev pub completes : ℕ → ℤ → Bar → Bool
completes period k bar = int_eq (bucket_end period k) bar.end.0 || int_lt k (bucket_of period bar)

-- the bucket is complete at the end of the first bar that completes it
abbrev pub is_complete_at : ℕ → List Bar → ℤ → ℤ → Bool
is_complete_at period bars t k =
    option_map_or (λ bar. int_eq bar.end.0 t) (find (completes period k) bars) false

-- some numbers, each once
abbrev pub distinct : List ℤ → List ℤ
distinct [] = []
distinct (k ∷ ks) = k ∷ filter (λ j. not (int_eq j k)) (distinct ks)

-- the buckets in which bars start, in their order
abbrev pub buckets : ℕ → List Bar → List ℤ
buckets period bars = distinct (map (bucket_of period) bars)

-- the bars that are given at a moment: those of the buckets that are complete then
abbrev pub given : ℕ → List Bar → ℤ → List Bar
given period bars t =
    filter_map (bucket period bars) (filter (is_complete_at period bars t) (buckets period bars))

-- the buckets that no bar completes, and their bars
abbrev pub open_buckets : ℕ → List Bar → List ℤ
open_buckets period bars =
    filter (λ k. not (list_any (completes period k) bars)) (buckets period bars)

abbrev pub not_given : ℕ → List Bar → List Bar
not_given period bars = filter_map (bucket period bars) (open_buckets period bars)
