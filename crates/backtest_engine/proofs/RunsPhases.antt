-- The phases of an algorithm are those of its core, one after the other.
use Rattle.std.proofs.Common.{◌≡◌, ℕ, List, ◌++◌, true, refl, ap, sym, ◌∙◌}
use Rattle.std.specs.Prelude.{Option, Some, None, if◌then◌else◌, map, filter_map}
use Rattle.std.proofs.lemmas.List.Concat.{flat_map-append}
use Rattle.lean_items.specs.declared.arrival.Arrival.{Arrival}
use Rattle.clock_book.specs.Books.{Book}
use Rattle.clock_book.specs.Handled.{after, replies}
use Rattle.clock_steps.specs.Runs.{Ran, then_on, behind, before}
use Rattle.clock_steps.proofs.RunLemmas.{before-behind}
use Rattle.clock_run.specs.Lines.{line_bytes}
use Rattle.clock_run.specs.Moments.{told, equity_told}
use Rattle.clock_run.specs.States as clock
use Rattle.clock_run.specs.States.{Setup}
use Rattle.backtest_core.specs.declared.phase.Phase as core
use Rattle.backtest_core.specs.declared.phase.Phase.TheVariants as core_phase
use Rattle.backtest_core.specs.Standing.{Standing}
use Rattle.backtest_core.specs.Inside.{Inside, begins, is_over_in, entered, with_bars, choice_in, arrived_with, arrived}
use Rattle.backtest_core.specs.Served.{IsServed}
use Rattle.backtest_core.specs.Text.{lines_bytes}
use Rattle.backtest_core.specs.Whole.{given_all, heard_all, through}
use Rattle.backtest_core.proofs.PhaseLemmas.{entered-is, through-ended}
use Rattle.backtest_engine.specs.declared.limits.Limit.{Limit}
use Rattle.backtest_engine.specs.declared.limits.Limit.TheVariants.{Requests}
use Rattle.backtest_engine.specs.declared.phase.Phase.{Phase}
use Rattle.backtest_engine.specs.Algorithms.{Own, core_phase_of, unphased, meaning_of}
use Rattle.backtest_engine.specs.Meaning.{State, phase}

-- an algorithm whose core is within a moment, over the book and the equities of a state
abbrev pub at_inside : Inside → ℕ → clock.State → State Own
at_inside i n st = record { own = record { inside = i; feeds = n; equities = st.equities }; book = st.book }

-- that no phase has begun changes nothing for one that may begin
pub entered-unphased : (p : core.Phase) (i : Inside) → begins p i.phase ≡ true → entered p (unphased i) ≡ entered p i
entered-unphased core_phase.Prices i may = sym (entered-is core_phase.Prices i may)
entered-unphased core_phase.Rules i may = sym (entered-is core_phase.Rules i may)
entered-unphased core_phase.Close i may = sym (entered-is core_phase.Close i may)

over-is : (p : core.Phase) (i : Inside) → begins p i.phase ≡ true → (entered p i).over ≡ is_over_in p i
over-is p i may = ap (λ (e : Inside). e.over) (entered-is p i may)

at-is : (p : core.Phase) (i : Inside) → begins p i.phase ≡ true → (entered p i).at ≡ i.at
at-is p i may = ap (λ (e : Inside). e.at) (entered-is p i may)

through-lines : (p : core.Phase) (b : Book) (i : Inside) → begins p i.phase ≡ true
    → (through p b i).lines ≡ i.lines ++ filter_map (told i.at) (replies b (entered p i).left)
through-lines p b i may =
    ap (λ (e : Inside). e.lines) (through-ended p b i may)
    ∙ ap (λ cs. i.lines ++ filter_map (told i.at) (replies b cs)) (sym (ap (λ (e : Inside). e.left) (entered-is p i may)))

-- what an algorithm does in a phase
module _ (setup : Setup) (t : ℕ) (slice : List Arrival) where
  pub phase-is : (p : Phase) (i : Inside) (n : ℕ) (st next : clock.State) → begins (core_phase_of p) i.phase ≡ true
      → IsServed st (entered (core_phase_of p) i).left next
      → phase (meaning_of setup) p t slice (at_inside (unphased i) n st)
      ≡ record {
        lines = lines_bytes (filter_map (told i.at) (replies st.book (entered (core_phase_of p) i).left));
        state = at_inside (unphased (through (core_phase_of p) st.book i)) n next;
        stop = if is_over_in (core_phase_of p) i then Some Requests else None;
      }
  unfolding meaning_of through
  phase-is p i n st next may served =
      let e = entered-unphased (core_phase_of p) i may in
      ap (λ (e : Inside). record {
        lines = lines_bytes (filter_map (told i.at) (replies st.book e.left));
        state = record {
          own = record {
            inside = unphased (heard_all (replies st.book e.left) (given_all e.left e));
            feeds = n;
            equities = st.equities ++ filter_map equity_told (replies st.book e.left);
          };
          book = after st.book e.left;
        };
        stop = if e.over then Some Requests else None;
      }) e
      ∙ (λ j. record {
        lines = lines_bytes (filter_map (told i.at) (replies st.book (entered (core_phase_of p) i).left));
        state = record {
          own = record {
            inside = unphased (through (core_phase_of p) st.book i);
            feeds = n;
            equities = served.equities j;
          };
          book = served.book j;
        };
        stop = if over-is (core_phase_of p) i may j then Some Requests else None;
      })

  -- and what was printed before it
  pub phase-on : (p : Phase) (i : Inside) (n : ℕ) (st next : clock.State) → begins (core_phase_of p) i.phase ≡ true
      → IsServed st (entered (core_phase_of p) i).left next → (later : State Own → Ran (State Own) ℕ Limit)
      → behind (lines_bytes i.lines) (before (phase (meaning_of setup) p t slice (at_inside (unphased i) n st)) later)
      ≡ then_on (lines_bytes (through (core_phase_of p) st.book i).lines) (at_inside (unphased (through (core_phase_of p) st.book i)) n next)
      (if is_over_in (core_phase_of p) i then Some Requests else None) later
  phase-on p i n st next may served later =
      let c = core_phase_of p in
      let more = filter_map (told i.at) (replies st.book (entered c i).left) in
      let s1 = at_inside (unphased (through c st.book i)) n next in
      let z = if is_over_in c i then Some Requests else None in
      let bytes : lines_bytes i.lines ++ lines_bytes more ≡ lines_bytes (through c st.book i).lines =
      sym (flat_map-append line_bytes i.lines more) ∙ ap lines_bytes (sym (through-lines c st.book i may)) in
      ap (λ r. behind (lines_bytes i.lines) (before r later)) (phase-is p i n st next may served)
      ∙ (sym (before-behind (lines_bytes i.lines) (record { lines = lines_bytes more; state = s1; stop = z }) later)
      ∙ ap (λ ls. then_on ls s1 z later) bytes)

-- a core that hears a slice is in no phase
arrived-with : (t : ℕ) (choice : Option (List (List ℕ))) (v : Standing) → unphased (arrived_with t choice v) ≡ arrived_with t choice v
arrived-with t None v = refl
arrived-with t (Some symbols) v = refl

pub arrived-unphased : (t : ℕ) (slice : List Arrival) (v : Standing) → unphased (arrived t slice v) ≡ arrived t slice v
arrived-unphased t slice v = arrived-with t (choice_in v slice) (record v { followed = map (with_bars slice) v.followed })
