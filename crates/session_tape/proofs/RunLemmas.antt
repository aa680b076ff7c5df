-- How far a session tape has come: what was printed is what the first minutes of its run print.
use Rattle.std.proofs.Common.{◌≡◌, ℕ, ◌+◌, ◌-◌, ◌*◌, ◌<◌, ◌≤◌, List, [], ◌++◌, length, length-append, Some, None, refl, sym, ap, ◌∙◌, subst, arith}
use Rattle.lean_fixed.specs.Moments.{first_moment, last_moment}
use Rattle.lean_fixed.specs.declared.time.Window.{Window}
use Rattle.clock_feeds.specs.Slices.{Source, slice, refused}
use Rattle.clock_steps.specs.Runs.{Ran, behind, IsStill, IsFrontOf}
use Rattle.clock_steps.proofs.RunLemmas.{run-one, run-next, run-end, run-stopped, run-front}
use Rattle.session_tape.specs.Session.{SessionBar, Refusal, session_minute, session_minutes, session}
use Rattle.session_tape.specs.Whole.{IsWhole}

module _ (sources : List (List ℕ × Source)) (window : Window) where
  abbrev first : ℕ
  first = first_moment window

  abbrev last : ℕ
  last = last_moment window

  -- up to a minute, with the malformed line that is due then
  pub record SoFar (at rows : ℕ) (bars : List SessionBar) : Type 0 where
    pub low : first ≤ at
    pub high : at ≤ last
    pub ran : session_minutes sources window (at + 1 - first) ≡ record { lines = bars; state = tt; stop = refused sources at }
    pub counted : rows ≡ length bars
    pub few : length bars ≤ 64 * (at + 1 - first)

  -- between two minutes nothing ends and no malformed line is due
  abbrev pub IsQuiet : ℕ → ℕ → Type 0
  IsQuiet at until = (u : ℕ) → at < u → u < until → (slice sources u ≡ []) × (refused sources u ≡ None)

  still : (at until from gap : ℕ) → IsQuiet at until → at < from → from + gap ≤ until → IsStill (session_minute sources) tt from (from + gap)
  still at until from gap quiet low high u l h =
      let q = quiet u (omega (arith, low, l)) (omega (arith, high, h)) in
      ap (λ xs. let r : Ran (Unit {0}) SessionBar Refusal = record { lines = xs; state = tt; stop = refused sources u } in r) q.0
      ∙ ap (λ z. let r : Ran (Unit {0}) SessionBar Refusal = record { lines = []; state = tt; stop = z } in r) q.1

  pub so_far_start : first ≤ last → slice sources first ≡ [] → SoFar first 0 []
  so_far_start within none =
      let one : first + 1 - first ≡ 1 = omega arith in
      record {
        low = omega arith;
        high = within;
        ran = ap (λ n. session_minutes sources window n) one ∙ run-one (session_minute sources) first tt
            ∙ ap (λ xs. let r : Ran (Unit {0}) SessionBar Refusal = record { lines = xs; state = tt; stop = refused sources first } in r) none;
        counted = refl;
        few = omega arith;
      }

  -- the next minute at which something ends
  pub so_far_next : (at rows next more : ℕ) (bars : List SessionBar) → SoFar at rows bars → refused sources at ≡ None → at < next → next ≤ last
      → IsQuiet at next → more ≡ length (slice sources next) → more ≤ 64 → SoFar next (rows + more) (bars ++ slice sources next)
  so_far_next at rows next more bars s none low high quiet is few =
      let n = at + 1 - first in
      let gap = next - at - 1 in
      let from : first + n ≡ at + 1 = omega (arith, s.low) in
      let to : first + n + gap ≡ next = omega (arith, s.low, low) in
      let count : n + gap + 1 ≡ next + 1 - first = omega (arith, s.low, low) in
      let so : session_minutes sources window n ≡ record { lines = bars; state = tt; stop = None }
      = s.ran ∙ ap (λ z. let r : Ran (Unit {0}) SessionBar Refusal = record { lines = bars; state = tt; stop = z } in r) none in
      let quietly = still at next (first + n) gap quiet (omega (arith, from)) (omega (arith, to)) in
      let now = run-next (session_minute sources) n gap first tt tt bars so quietly in
      record {
        low = omega (arith, s.low, low);
        high = high;
        ran = ap (λ k. session_minutes sources window k) (sym count) ∙ now ∙ ap (λ t. behind bars (session_minute sources t tt)) to;
        counted = let l = length-append bars (slice sources next) in omega (arith, s.counted, is, l);
        few = let l = length-append bars (slice sources next) in let f = s.few in let lo = s.low in omega (arith, is, few, l, f, low, lo);
      }

  -- nothing more ends
  pub so_far_end : (at rows : ℕ) (bars : List SessionBar) → SoFar at rows bars → refused sources at ≡ None → IsQuiet at (last + 1)
      → session sources window ≡ record { lines = bars; state = tt; stop = None }
  so_far_end at rows bars s none quiet =
      let n = at + 1 - first in
      let gap = last - at in
      let from : first + n ≡ at + 1 = omega (arith, s.low) in
      let count : n + gap ≡ last + 1 - first = omega (arith, s.low, s.high) in
      let so : session_minutes sources window n ≡ record { lines = bars; state = tt; stop = None }
      = s.ran ∙ ap (λ z. let r : Ran (Unit {0}) SessionBar Refusal = record { lines = bars; state = tt; stop = z } in r) none in
      let quietly = still at (last + 1) (first + n) gap quiet (omega (arith, from)) (omega (arith, from, s.high)) in
      ap (λ k. session_minutes sources window k) (sym count) ∙ run-end (session_minute sources) n gap first tt tt bars so quietly

  -- a malformed line is due
  pub so_far_stop : (at rows : ℕ) (bars : List SessionBar) (refusal : Refusal) → SoFar at rows bars → refused sources at ≡ Some refusal
      → session sources window ≡ record { lines = bars; state = tt; stop = Some refusal }
  so_far_stop at rows bars refusal s due =
      let n = at + 1 - first in
      let more = last - at in
      let count : n + more ≡ last + 1 - first = omega (arith, s.low, s.high) in
      let so : session_minutes sources window n ≡ record { lines = bars; state = tt; stop = Some refusal }
      = s.ran ∙ ap (λ z. let r : Ran (Unit {0}) SessionBar Refusal = record { lines = bars; state = tt; stop = z } in r) due in
      ap (λ k. session_minutes sources window k) (sym count) ∙ run-stopped (session_minute sources) n more first tt tt bars refusal so

  pub so_far_whole : (at rows : ℕ) (bars : List SessionBar) → SoFar at rows bars → IsWhole sources window bars
  so_far_whole at rows bars s = record { count = at + 1 - first; small = omega (arith, s.high); is = sym (ap (λ r. r.lines) s.ran) }

  pub so_far_front : (at rows : ℕ) (bars : List SessionBar) → SoFar at rows bars → IsFrontOf bars (session sources window).lines
  so_far_front at rows bars s =
      let n = at + 1 - first in
      let more = last - at in
      let count : n + more ≡ last + 1 - first = omega (arith, s.low, s.high) in
      let front = run-front (session_minute sources) n more first tt in
      let lines : (session_minutes sources window n).lines ≡ bars = ap (λ r. r.lines) s.ran in
      subst (λ k. IsFrontOf bars (session_minutes sources window k).lines) count
      (record { rest = front.rest; is = front.is ∙ ap (λ xs. xs ++ front.rest) lines })
