-- What is kept of raw entries whose ends rise.
use Rattle.std.proofs.Common.{◌≡◌, ℕ, ◌+◌, ◌-◌, ◌<◌, ◌≤◌, ℤ, pos, negsuc, ◌<ℤ◌, int_lt, int_le, List, [], ◌∷◌, ◌++◌, Bool, true, false, refl, sym, subst, arith, length}
use Rattle.std.specs.Prelude.{Option, Some, None, Result, Ok, Err, ◌&&◌, nat_lt, if◌then◌else◌, filter_map}
use Rattle.std.specs.List.{cons_option}
use Rattle.std.proofs.lemmas.Bool.Decides.{nat_tests}
use Rattle.std.proofs.lemmas.Bool.{and_parts, and_from}
use Rattle.std.proofs.lemmas.Int.{ints}
use Rattle.lean_fixed.specs.Ranges.{IsWithin, IsDatedMoment}
use Rattle.lean_items.specs.declared.bar.Bar.{Bar}
use Rattle.lean_items.specs.declared.coarse_row.CoarseRow.{CoarseRow}
use Rattle.lean_items.specs.declared.reason.Reason.{Reason}
use Rattle.lean_items.specs.Coarse.{IsCoarse}
use Rattle.lean_items.specs.Fits.{is_within, is_moment, is_price, is_volume, is_bar_in_range, is_row_in_range}
use Rattle.equity_csv.specs.declared.row.Row.{Row}
use Rattle.equity_csv.specs.Written.{IsRow}
use Rattle.exchange_hours.specs.Entries.{Entries}
use Rattle.exchange_hours.specs.Grid.{in_session}
use Rattle.clock_feeds.specs.Raw.{Timed, Raw, start_of}
use Rattle.clock_feeds.specs.Kept.{Kept, is_past, cut_at, cut, bar_of, kept_bar_at, kept_bar, kept_coarse_at, kept_coarse_row}
use Rattle.clock_feeds.specs.Bars.{end_of}
use Rattle.clock_feeds.specs.Stands.{EndBy, Rises}
use Rattle.clock_feeds.specs.Lists.{IsSound, IsSoundRow, RowsRise}
use Rattle.clock_feeds.proofs.SearchLemmas.{Each}

-- Raw entries up to the first malformed one: their rows are good, and each ends behind the one before it and not past a moment.
module _ {X : Type 0} (Behind : ℕ → ℕ → Type 0) (Good : X → Type 0) where
  abbrev pub OnEnd : (ℕ → Type 0) → ℕ → ℕ → X → Option ℕ → Type 0
  OnEnd later after until row None = later after
  OnEnd later after until row (Some end) = Behind after end × (end ≤ until) × Good row × later end

  abbrev pub OnSays : (ℕ → Type 0) → ℕ → ℕ → Result (Timed X) Reason → Type 0
  OnSays later after until (Ok timed) = OnEnd later after until timed.row timed.end
  OnSays later after until (Err reason) = Unit {0}

  abbrev pub Climbs : ℕ → ℕ → List (Raw X) → Type 0
  Climbs after until [] = Unit {0}
  Climbs after until (raw ∷ more) = OnSays (λ at. Climbs at until more) after until raw.says

module _ {X : Type 0} (Behind : ℕ → ℕ → Type 0) (Good : X → Type 0) (weaker : (a b e : ℕ) → a ≤ b → Behind b e → Behind a e) where
  lower_end : (P : ℕ → Type 0) (a b u : ℕ) (row : X) (o : Option ℕ) → a ≤ b → (P b → P a) → OnEnd Behind Good P b u row o → OnEnd Behind Good P a u row o
  lower_end P a b u row None low later h = later h
  lower_end P a b u row (Some end) low later h = (weaker a b end low h.0, h.1, h.2, h.3)

  lower_says : (P : ℕ → Type 0) (a b u : ℕ) (says : Result (Timed X) Reason) → a ≤ b → (P b → P a) → OnSays Behind Good P b u says → OnSays Behind Good P a u says
  lower_says P a b u (Ok timed) low later h = lower_end P a b u timed.row timed.end low later h
  lower_says P a b u (Err reason) low later h = tt

  pub climbs_lower : (a b u : ℕ) (raw : List (Raw X)) → a ≤ b → Climbs Behind Good b u raw → Climbs Behind Good a u raw
  climbs_lower a b u [] low h = tt
  climbs_lower a b u (raw ∷ more) low h =
      lower_says (λ at. Climbs Behind Good at u more) a b u raw.says low (λ later. climbs_lower a b u more low later) h

  append_end : (P Q : ℕ → Type 0) (a b u : ℕ) (row : X) (o : Option ℕ) → a ≤ b → b ≤ u → ((at : ℕ) → at ≤ b → P at → Q at) → OnEnd Behind Good P a b row o → OnEnd Behind Good Q a u row o
  append_end P Q a b u row None low high more h = more a low h
  append_end P Q a b u row (Some end) low high more h = (h.0, omega (arith, h.1, high), h.2, more end h.1 h.3)

  append_says : (P Q : ℕ → Type 0) (a b u : ℕ) (says : Result (Timed X) Reason) → a ≤ b → b ≤ u → ((at : ℕ) → at ≤ b → P at → Q at) → OnSays Behind Good P a b says → OnSays Behind Good Q a u says
  append_says P Q a b u (Ok timed) low high more h = append_end P Q a b u timed.row timed.end low high more h
  append_says P Q a b u (Err reason) low high more h = tt

  -- entries behind entries
  pub climbs_append : (a b u : ℕ) (xs ys : List (Raw X)) → a ≤ b → b ≤ u → Climbs Behind Good a b xs → Climbs Behind Good b u ys → Climbs Behind Good a u (xs ++ ys)
  climbs_append a b u [] ys low high first second = climbs_lower a b u ys low second
  climbs_append a b u (raw ∷ xs) ys low high first second =
      append_says (λ at. Climbs Behind Good at b xs) (λ at. Climbs Behind Good at u (xs ++ ys)) a b u raw.says low high
      (λ at within rest. climbs_append at b u xs ys within high rest second) first

-- ---- the cut

module _ {X : Type 0} where
  past_cut : (last file line : ℕ) (timed : Timed X) (later : Kept (Timed X)) → is_past last timed.end ≡ true → cut_at last file line (Ok timed) later ≡ record { rows = []; stop = None }
  past_cut last file line timed later is = rw is refl

  more_cut : (last file line : ℕ) (timed : Timed X) (later : Kept (Timed X)) → is_past last timed.end ≡ false
      → cut_at last file line (Ok timed) later ≡ record { rows = timed ∷ later.rows; stop = later.stop }
  more_cut last file line timed later is = rw is refl

not_past : (last end : ℕ) → is_past last (Some end) ≡ false → end ≤ last
not_past last end is = let h : nat_lt last end ≡ false = is in grind (arith, nat_tests)

lt_told : (a b : ℤ) → int_lt a b ≡ true → a <ℤ b
lt_told a b h = grind (arith, ints)

within_tested : (low high n : ℤ) → IsWithin low high n → is_within low high n ≡ true
within_tested low high n h =
    let above = h.0 in
    let below = h.1 in
    and_from (int_le low n) (int_le n high) (grind (arith, ints)) (grind (arith, ints))

moment_within : (n : ℕ) → n ≤ 121000000 → IsWithin (negsuc 9999) (pos 121000000) (pos n)
moment_within n small = (omega (arith, ints), omega (arith, ints, small))

dated_within : (n : ℤ) → IsDatedMoment n → IsWithin (negsuc 9999) (pos 121000000) n
dated_within n h = (omega (arith, ints, h.0), omega (arith, ints, h.1))

all_seven : (a b c d e g h : Bool) → a ≡ true → b ≡ true → c ≡ true → d ≡ true → e ≡ true → g ≡ true → h ≡ true → (a && b && c && d && e && g && h) ≡ true
all_seven a b c d e g h p q r s t u v = rw (p, q, r, s, t, u, v) refl

all_four : (a b c d : Bool) → a ≡ true → b ≡ true → c ≡ true → d ≡ true → (a && b && c && d) ≡ true
all_four a b c d p q r s = rw (p, q, r, s) refl

-- the bar of a row that a line can say
pub bar_in_range : (row : Row) (end : ℕ) → IsRow row → end ≤ 121000000 → is_bar_in_range (bar_of row end) ≡ true
unfolding is_bar_in_range
bar_in_range row end good small =
    all_seven (is_moment row.start.0) (is_moment (pos end)) (is_price row.opening.0) (is_price row.high.0) (is_price row.low.0) (is_price row.closing.0) (is_volume row.volume.0)
    (within_tested _ _ _ (dated_within row.start.0 good.start)) (within_tested _ _ _ (moment_within end small))
    (within_tested _ _ _ good.opening) (within_tested _ _ _ good.high) (within_tested _ _ _ good.low) (within_tested _ _ _ good.closing) (within_tested _ _ _ good.volume)

pub row_in_range : (row : CoarseRow) (end : ℕ) → IsCoarse row → end ≤ 121000000 → is_row_in_range (pos end) row ≡ true
unfolding is_row_in_range
row_in_range row end good small =
    all_four (is_moment (pos end)) _ (is_volume row.volume.0) _
    (within_tested _ _ _ (moment_within end small)) (within_tested _ _ _ good.close) (within_tested _ _ _ good.volume) (within_tested _ _ _ good.dollars)

-- what is kept past a moment
abbrev Keeps : ℤ → ℕ → ℕ → List Bar → Type 0
Keeps start last past rows = Each (IsSound start last) rows × Rises past rows

abbrev Bounds : ℤ → ℕ → ℕ → Type 0
Bounds start after past = (end : ℕ) → after < end → start <ℤ pos end → past < end

abbrev pub Rising : ℕ → ℕ → Type 0
Rising a b = a < b

end_kept : (hours : Entries) (start : ℤ) (last until after past : ℕ) (row : Row) (o : Option ℕ) (rest : List Bar) (P : ℕ → Type 0) → last ≤ 121000000 → is_past last o ≡ false
    → OnEnd Rising IsRow P after until row o → Bounds start after past → ((b w : ℕ) → P b → Bounds start b w → Keeps start last w rest)
    → Keeps start last past (cons_option (kept_bar_at hours start row o) rest)
end_kept hours start last until after past row None rest P small within h above later = later after past h above
end_kept hours start last until after past row (Some end) rest P small within h above later =
    by (int_lt start (pos end) && in_session hours (start_of row) end) refl
  where
    by : (b : Bool) → (int_lt start (pos end) && in_session hours (start_of row) end) ≡ b → Keeps start last past (cons_option (if b then Some (bar_of row end) else None) rest)
    by true is =
        let above_start : start <ℤ pos end = lt_told start (pos end) (and_parts (int_lt start (pos end)) (in_session hours (start_of row) end) is).0 in
        let low : end ≤ last = not_past last end within in
        let rest_is = later end end h.3 (λ e up s. up) in (
          (record { end = refl; after = above_start; until = low; in_range = bar_in_range row end h.2 (omega (arith, low, small)) }, rest_is.0),
          (above end h.0 above_start, rest_is.1),
        )
    by false is = later end past h.3 (λ e up s. above e (omega (arith, h.0, up)) s)

pub bars_kept : (hours : Entries) (start : ℤ) (last until : ℕ) (raw : List (Raw Row)) (after past : ℕ) → last ≤ 121000000 → Climbs Rising IsRow after until raw → Bounds start after past
    → Keeps start last past (filter_map (kept_bar hours start) (cut last raw).rows)
bars_kept hours start last until [] after past small climbs above = (tt, tt)
bars_kept hours start last until (entry ∷ more) after past small climbs above = by entry.says climbs (λ b w c a. bars_kept hours start last until more b w small c a)
  where
    by : (says : Result (Timed Row) Reason) → OnSays Rising IsRow (λ at. Climbs Rising IsRow at until more) after until says
        → ((b w : ℕ) → Climbs Rising IsRow b until more → Bounds start b w → Keeps start last w (filter_map (kept_bar hours start) (cut last more).rows))
        → Keeps start last past (filter_map (kept_bar hours start) (cut_at last entry.file entry.line says (cut last more)).rows)
    by (Err reason) c later = (tt, tt)
    by (Ok timed) c later = with_row (is_past last timed.end) refl
      where
        with_row : (b : Bool) → is_past last timed.end ≡ b → Keeps start last past (filter_map (kept_bar hours start) (cut_at last entry.file entry.line (Ok timed) (cut last more)).rows)
        with_row true is =
            subst (λ k. Keeps start last past (filter_map (kept_bar hours start) k.rows)) (sym (past_cut last entry.file entry.line timed (cut last more) is)) (tt, tt)
        with_row false is =
            subst (λ k. Keeps start last past (filter_map (kept_bar hours start) k.rows)) (sym (more_cut last entry.file entry.line timed (cut last more) is))
            (end_kept hours start last until after past timed.row timed.end _ (λ at. Climbs Rising IsRow at until more) small is c above later)

-- sound rows end by the end of the window
pub sound_end : (start : ℤ) (last : ℕ) (rows : List Bar) → Each (IsSound start last) rows → EndBy last rows
sound_end start last [] sound = tt
sound_end start last (row ∷ rows) sound = (sound.0.until, sound_end start last rows sound.1)

-- ---- coarse rows

abbrev KeepsRows : ℤ → ℕ → ℕ → List (ℕ × CoarseRow) → Type 0
KeepsRows start last past rows = Each (IsSoundRow start last) rows × RowsRise past rows

abbrev pub Standing : ℕ → ℕ → Type 0
Standing a b = a ≤ b

row_kept : (start : ℤ) (last until after past : ℕ) (row : CoarseRow) (o : Option ℕ) (rest : List (ℕ × CoarseRow)) (P : ℕ → Type 0) → last ≤ 121000000 → is_past last o ≡ false
    → OnEnd Standing IsCoarse P after until row o → past ≤ after → ((b w : ℕ) → P b → w ≤ b → KeepsRows start last w rest)
    → KeepsRows start last past (cons_option (kept_coarse_at start row o) rest)
row_kept start last until after past row None rest P small within h above later = later after past h above
row_kept start last until after past row (Some end) rest P small within h above later = by (int_lt start (pos end)) refl
  where
    by : (b : Bool) → int_lt start (pos end) ≡ b → KeepsRows start last past (cons_option (if b then Some (end, row) else None) rest)
    by true is =
        let low : end ≤ last = not_past last end within in
        let rest_is = later end end h.3 (omega arith) in (
          (record { after = lt_told start (pos end) is; until = low; in_range = row_in_range row end h.2 (omega (arith, low, small)) }, rest_is.0),
          (omega (arith, h.0, above), rest_is.1),
        )
    by false is = later end past h.3 (omega (arith, h.0, above))

pub rows_kept : (start : ℤ) (last until : ℕ) (raw : List (Raw CoarseRow)) (after past : ℕ) → last ≤ 121000000 → Climbs Standing IsCoarse after until raw → past ≤ after
    → KeepsRows start last past (filter_map (kept_coarse_row start) (cut last raw).rows)
rows_kept start last until [] after past small climbs above = (tt, tt)
rows_kept start last until (entry ∷ more) after past small climbs above = by entry.says climbs (λ b w c a. rows_kept start last until more b w small c a)
  where
    by : (says : Result (Timed CoarseRow) Reason) → OnSays Standing IsCoarse (λ at. Climbs Standing IsCoarse at until more) after until says
        → ((b w : ℕ) → Climbs Standing IsCoarse b until more → w ≤ b → KeepsRows start last w (filter_map (kept_coarse_row start) (cut last more).rows))
        → KeepsRows start last past (filter_map (kept_coarse_row start) (cut_at last entry.file entry.line says (cut last more)).rows)
    by (Err reason) c later = (tt, tt)
    by (Ok timed) c later = with_row (is_past last timed.end) refl
      where
        with_row : (b : Bool) → is_past last timed.end ≡ b → KeepsRows start last past (filter_map (kept_coarse_row start) (cut_at last entry.file entry.line (Ok timed) (cut last more)).rows)
        with_row true is =
            subst (λ k. KeepsRows start last past (filter_map (kept_coarse_row start) k.rows)) (sym (past_cut last entry.file entry.line timed (cut last more) is)) (tt, tt)
        with_row false is =
            subst (λ k. KeepsRows start last past (filter_map (kept_coarse_row start) k.rows)) (sym (more_cut last entry.file entry.line timed (cut last more) is))
            (row_kept start last until after past timed.row timed.end _ (λ at. Climbs Standing IsCoarse at until more) small is c above later)

-- ---- how many are kept

module _ {X : Type 0} where
  -- the rows before the first malformed entry
  abbrev count_says : Result (Timed X) Reason → ℕ → ℕ
  count_says (Ok timed) n = n + 1
  count_says (Err reason) n = 0

  abbrev pub good_rows : List (Raw X) → ℕ
  good_rows [] = 0
  good_rows (entry ∷ more) = count_says entry.says (good_rows more)

  pub count_append : (xs ys : List (Raw X)) → good_rows (xs ++ ys) ≤ good_rows xs + good_rows ys
  count_append [] ys = omega arith
  count_append (x ∷ xs) ys = by x.says (count_append xs ys)
    where
      by : (says : Result (Timed X) Reason) → good_rows (xs ++ ys) ≤ good_rows xs + good_rows ys → count_says says (good_rows (xs ++ ys)) ≤ count_says says (good_rows xs) + good_rows ys
      by (Ok timed) le = omega (arith, le)
      by (Err reason) le = omega arith

  pub cut_short : (last : ℕ) (raw : List (Raw X)) → length (cut last raw).rows ≤ good_rows raw
  cut_short last [] = omega arith
  cut_short last (entry ∷ more) = by entry.says (cut_short last more)
    where
      by : (says : Result (Timed X) Reason) → length (cut last more).rows ≤ good_rows more
          → length (cut_at last entry.file entry.line says (cut last more)).rows ≤ count_says says (good_rows more)
      by (Err reason) le = omega arith
      by (Ok timed) le = with_row (is_past last timed.end) refl
        where
          with_row : (b : Bool) → is_past last timed.end ≡ b → length (cut_at last entry.file entry.line (Ok timed) (cut last more)).rows ≤ good_rows more + 1
          with_row true is = subst (λ k. length k.rows ≤ good_rows more + 1) (sym (past_cut last entry.file entry.line timed (cut last more) is)) (omega arith)
          with_row false is = subst (λ k. length k.rows ≤ good_rows more + 1) (sym (more_cut last entry.file entry.line timed (cut last more) is)) (omega (arith, le))

  pub mapped_short : {Y : Type 0} (h : X → Option Y) (xs : List X) → length (filter_map h xs) ≤ length xs
  mapped_short h [] = omega arith
  mapped_short {Y} h (x ∷ xs) = by (h x) (mapped_short h xs)
    where
      by : (o : Option Y) → length (filter_map h xs) ≤ length xs → length (cons_option o (filter_map h xs)) ≤ length (x ∷ xs)
      by None le = omega (arith, le)
      by (Some y) le = omega (arith, le)

-- rows that rise up to a moment are no more than the moments
pub rows_short : (after last : ℕ) (rows : List Bar) → Rises after rows → EndBy last rows → length rows ≤ last - after
rows_short after last [] rises ends = omega arith
rows_short after last (row ∷ rows) rises ends =
    let up : after < end_of row = rises.0 in
    let within : end_of row ≤ last = ends.0 in
    let rest = rows_short (end_of row) last rows rises.1 ends.1 in
    omega (arith, up, within, rest)
