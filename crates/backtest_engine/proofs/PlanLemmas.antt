-- The run of a plan has written the report of the definition.
use Rattle.std.proofs.Common.{◌≡◌, ℕ, List, sym, subst, ◌∙◌, inl, inr}
use Rattle.std.specs.Prelude.{Bool, Option, is_some}
use Rattle.lean_fixed.specs.Moments.{first_moment, last_moment}
use Rattle.lean_io.specs.Told.{Files}
use Rattle.lean_items.specs.declared.feed_key.FeedKey.{FeedKey}
use Rattle.lean_items.specs.declared.item.Item.{Item}
use Rattle.lean_items.specs.Taken.{Feeds, AllFollow}
use Rattle.exchange_hours.specs.Sessions.{LieInDays}
use Rattle.rule_strategy.specs.Validity.{IsPlan}
use Rattle.clock_book.specs.Books.{new_book}
use Rattle.clock_run.proofs.RangeLemmas.{files-range}
use Rattle.clock_run.specs.Known.{World}
use Rattle.clock_run.specs.Reports.{backtest}
use Rattle.clock_run.specs.States.{Setup}
use Rattle.clock_run.specs.Worlds.{world_of}
use Rattle.report_pages.specs.Printed.{IsTaken, IsFront}
use Rattle.backtest_engine.specs.declared.ended.Ended.{Ended}
use Rattle.backtest_engine.specs.declared.ended.Ended.TheVariants.{Done, BadRow, ReadFault, WriteFault, NoMemory, Limit}
use Rattle.backtest_engine.specs.Algorithms.{meaning_of, opening_state, opening_keys}
use Rattle.backtest_engine.specs.Backtests.{IsBacktest, AreMoments, ended_of, report}
use Rattle.backtest_engine.specs.Feeds.{list_of}
use Rattle.backtest_engine.specs.Meets.{IsMet}
use Rattle.backtest_engine.specs.Exact.{IsExact}
use Rattle.backtest_engine.specs.Reported.{IsOpening, IsReport, ended_by}
use Rattle.backtest_engine.specs.Reports.{whole, report_of}
use Rattle.backtest_engine.specs.Stands.{AreLists}
use Rattle.backtest_engine.specs.Tells.{Tells}
use Rattle.backtest_engine.specs.Walked.{IsCut, AllMeet}
use Rattle.backtest_engine.proofs.MinuteLemmas.{front-nothing}
use Rattle.backtest_engine.proofs.OpeningLemmas.{opening-is}
use Rattle.backtest_engine.proofs.RunsEnds.{reports, ends, prints}
use Rattle.backtest_engine.proofs.RunsWalks.{meets}
use Rattle.backtest_engine.proofs.WorldTells.{folder-tells}

module _ (setup : Setup) (files : Files) (plan : IsPlan setup.plan) (every : LieInDays setup.hours) where
  abbrev pub world : World
  world = world_of files setup.hours setup.plan.window

  abbrev pub lists : FeedKey → List Item
  lists = list_of files setup.hours setup.plan.window

  tells : Tells setup world lists
  tells = folder-tells setup files every plan.window.days

  abbrev first : ℕ
  first = first_moment setup.plan.window

  abbrev last : ℕ
  last = last_moment setup.plan.window

  pub are-lists : AreLists lists
  are-lists = tells.lists_are

  pub all-meet : AllMeet (λ t slice s. IsMet t slice s) (meaning_of setup) lists first last (opening_state setup)
  all-meet count small none =
      meets setup world lists plan (files-range files setup.hours setup.plan.window every plan.window.days) tells count none

  cut : (told0 told : Option (List ℕ)) → IsCut (meaning_of setup) lists first last (opening_state setup) told0 told
      → AreMoments setup world told0 told
  cut told0 told c = record {
    count = c.count;
    small = c.small;
    wrote = subst (IsTaken told0 told)
        (prints setup world lists plan (files-range files setup.hours setup.plan.window every plan.window.days) tells c.count) c.wrote;
  }

  same : report_of (meaning_of setup) (whole (meaning_of setup) lists first last (opening_state setup)) ≡ report setup world
  same = reports setup world lists plan (files-range files setup.hours setup.plan.window every plan.window.days) tells

  ends-so : ended_by (whole (meaning_of setup) lists first last (opening_state setup)).stop ≡ ended_of (backtest setup world).stop
  ends-so = ends setup world lists plan (files-range files setup.hours setup.plan.window every plan.window.days) tells

  pub is-backtest : (coarse : Bool) (now : Feeds) (told0 told : Option (List ℕ)) (ended : Ended)
      → IsReport (meaning_of setup) lists first last (opening_state setup) coarse now told0 told ended
      → IsBacktest setup world told0 told ended
  is-backtest coarse now told0 told Done r = (r.0 ∙ ends-so, subst (IsTaken told0 told) same r.1)
  is-backtest coarse now told0 told BadRow r = (r.0 ∙ ends-so, subst (IsTaken told0 told) same r.1)
  is-backtest coarse now told0 told Limit r = (r.0 ∙ ends-so, subst (IsTaken told0 told) same r.1)
  is-backtest coarse now told0 told ReadFault (inl faults) = cut told0 told faults.cut
  is-backtest coarse now told0 told ReadFault (inr (c, failed)) = cut told0 told c
  is-backtest coarse now told0 told WriteFault r = subst (IsFront told0 told) same r
  is-backtest coarse now told0 told NoMemory r = subst (IsFront told0 told) same r

  -- what the code computes of the plan is what the definition names
  pub opening-as : (coarse : Bool) (n : ℕ) (keys : List FeedKey)
      → coarse ≡ is_some setup.plan.universe → n ≡ first → keys ≡ opening_keys setup.plan
      → IsOpening (meaning_of setup) coarse n keys (opening_state setup) (new_book setup.plan.cash.0 setup.plan.costs setup.plan.leverage setup.hours)
  opening-as coarse n keys is_coarse is_first are_keys =
      let book = new_book setup.plan.cash.0 setup.plan.costs setup.plan.leverage setup.hours in
      let m = meaning_of setup in
      let s = opening_state setup in
      subst (λ keys. IsOpening m coarse n keys s book) (sym are_keys)
      (subst (λ n. IsOpening m coarse n (opening_keys setup.plan) s book) (sym is_first)
      (subst (λ coarse. IsOpening m coarse first (opening_keys setup.plan) s book) (sym is_coarse) (opening-is setup plan)))

  pub meet-as : (n k : ℕ) → n ≡ first → k ≡ last
      → AllMeet (λ t slice s. IsMet t slice s) (meaning_of setup) lists n k (opening_state setup)
  meet-as n k is_first is_last =
      subst (λ n. AllMeet (λ t slice s. IsMet t slice s) (meaning_of setup) lists n k (opening_state setup)) (sym is_first)
      (subst (λ k. AllMeet (λ t slice s. IsMet t slice s) (meaning_of setup) lists first k (opening_state setup)) (sym is_last) all-meet)

  abbrev pub Reported : Bool → ℕ → ℕ → Option (List ℕ) → Option (List ℕ) → Ended → Type 0
  Reported coarse n k told0 told ended =
      (now : Feeds) × AllFollow lists now × IsReport (meaning_of setup) lists n k (opening_state setup) coarse now told0 told ended

  pub report-as : (coarse : Bool) (n k : ℕ) (told0 told : Option (List ℕ)) (ended : Ended)
      → coarse ≡ is_some setup.plan.universe → n ≡ first → k ≡ last
      → Reported coarse n k told0 told ended → Reported (is_some setup.plan.universe) first last told0 told ended
  report-as coarse n k told0 told ended is_coarse is_first is_last r =
      subst (λ coarse. Reported coarse first last told0 told ended) is_coarse
      (subst (λ n. Reported coarse n last told0 told ended) is_first
      (subst (λ k. Reported coarse n k told0 told ended) is_last r))

  abbrev pub Exact : Bool → ℕ → ℕ → Option (List ℕ) → Option (List ℕ) → Ended → Type 0
  Exact coarse n k told0 told ended =
      (now : Feeds) × AllFollow lists now × IsReport (meaning_of setup) lists n k (opening_state setup) coarse now told0 told ended
      × IsExact (meaning_of setup) lists n k (opening_state setup) coarse now ended

  pub exact-as : (coarse : Bool) (n k : ℕ) (told0 told : Option (List ℕ)) (ended : Ended)
      → coarse ≡ is_some setup.plan.universe → n ≡ first → k ≡ last
      → Exact coarse n k told0 told ended → Exact (is_some setup.plan.universe) first last told0 told ended
  exact-as coarse n k told0 told ended is_coarse is_first is_last r =
      subst (λ coarse. Exact coarse first last told0 told ended) is_coarse
      (subst (λ n. Exact coarse n last told0 told ended) is_first
      (subst (λ k. Exact coarse n k told0 told ended) is_last r))

-- nothing was written
pub nothing-written : (setup : Setup) (world : World) (told : Option (List ℕ)) (ended : Ended) → ended ≡ NoMemory → IsBacktest setup world told told ended
nothing-written setup world told ended is =
    subst (λ ended. IsBacktest setup world told told ended) (sym is) (front-nothing told (report setup world))
