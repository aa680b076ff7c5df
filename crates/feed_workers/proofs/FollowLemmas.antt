-- What was taken of a lane follows the list that what was sent follows, though no more than that is known than that it is so.
use Rattle.std.proofs.Common.{◌≡◌, true, List, [], ◌∷◌, ◌++◌, length, drop, inl, inr, refl, sym, ap, ◌∙◌, subst, append_assoc}
use Rattle.std.specs.List.{All, Contains}
use Rattle.std.proofs.Math.Logic.{∥∥₁_elim, ∥∥₁_map}
use Rattle.std.proofs.lemmas.Bool.{false≢true}
use Rattle.std.proofs.lemmas.List.Elements.{All-nil, All-cons, All-head, All-tail, Contains-append_left}
use Rattle.lean_items.specs.declared.feeds.Feed.{Ghosts}
use Rattle.lean_items.specs.declared.item.Item.{Item}
use Rattle.lean_items.specs.declared.item.Item.TheVariants.{Bar, Coarse, Bad, Faulted, End}
use Rattle.lean_items.specs.Given.{is_last, IsRow}
use Rattle.lean_items.specs.Taken.{Follows}
use Rattle.work_scheduler.specs.declared.turn.Turn.{Turn}
use Rattle.work_scheduler.specs.Turns.{sent_of, given_of, turn_lane}
use Rattle.work_scheduler.specs.Served.{held_items}
use Rattle.feed_workers.specs.Homes.{HasRun}
use Rattle.feed_workers.specs.Seats.{Unseated}
use denote.Struct.Props.{props}

-- some items are a front of a list
abbrev IsFront : List Item → List Item → Type 0
IsFront list taken = (rest : List Item) × (list ≡ taken ++ rest)

-- some items are a front of a list's rows and then a failed read
abbrev IsFaulted : List Item → List Item → Type 0
IsFaulted list taken = (rows rest : List Item) × (taken ≡ rows ++ Faulted ∷ []) × (list ≡ rows ++ rest) × All IsRow rows

drop-front : (taken rest : List Item) → drop (length taken) (taken ++ rest) ≡ rest
drop-front [] rest = refl
drop-front (x ∷ taken) rest = drop-front taken rest

-- where they can't end in a failed read in place of a row
front-only : (list taken : List Item) → (IsFaulted list taken → ⊥) → ∥ Follows list taken ∥₁ → IsFront list taken
front-only list taken other follows =
    let exact : list ≡ taken ++ drop (length taken) list = ∥∥₁_elim follows (hlevel props) (λ f. elim f [
      | inl front ↦ front.1 ∙ ap (λ r. taken ++ r) (sym (ap (λ l. drop (length taken) l) front.1 ∙ drop-front taken front.0))
      | inr faulted ↦ absurd (other faulted)
    ]) in
    (drop (length taken) list, exact)

row-more : (x : Item) (list taken : List Item) → IsRow x → Follows list taken → Follows (x ∷ list) (x ∷ taken)
row-more x list taken row follows = elim follows [
  | inl front ↦ inl (front.0, ap (λ l. x ∷ l) front.1)
  | inr faulted ↦ inr (x ∷ faulted.0, faulted.1, ap (λ l. x ∷ l) faulted.2, ap (λ l. x ∷ l) faulted.3, All-cons IsRow x faulted.0 row faulted.4)
]

-- a front of items that follow a list follows it
pub follows-front : (list taken more : List Item) → Follows list (taken ++ more) → Follows list taken
follows-front list taken more follows = elim follows [
  | inl front ↦ inl (more ++ front.0, front.1 ∙ append_assoc taken more front.0)
  | inr faulted ↦ from list taken more faulted.0 faulted.1 faulted.2 faulted.3 faulted.4
]
  where
    from : (list taken more rows rest : List Item) → taken ++ more ≡ rows ++ Faulted ∷ [] → list ≡ rows ++ rest → All IsRow rows → Follows list taken
    from list [] more rows rest ends is all = inl (list, refl)
    from list (y ∷ taken) more [] rest ends is all =
        (let e : y ∷ (taken ++ more) ≡ Faulted ∷ [] = ends in
        let none : taken ++ more ≡ [] = cc in
        let same : taken ≡ [] = nothing taken more none in
        let fault : y ≡ Faulted = cc in
        let one : y ∷ taken ≡ Faulted ∷ [] = ap (λ a. a ∷ taken) fault ∙ ap (λ l. Faulted ∷ l) same in
        inr ([], list, one, refl, All-nil IsRow))
      where
        nothing : (xs ys : List Item) → xs ++ ys ≡ [] → xs ≡ []
        nothing [] ys e = refl
        nothing (x ∷ xs) ys e = (let d : x ∷ (xs ++ ys) ≡ [] = e in absurd cc)
    from list (y ∷ taken) more (r ∷ rows) rest ends is all =
        (let e : y ∷ (taken ++ more) ≡ r ∷ (rows ++ Faulted ∷ []) = ends in
        let first : r ≡ y = cc in
        let others : taken ++ more ≡ rows ++ Faulted ∷ [] = cc in
        let tail = from (rows ++ rest) taken more rows rest others refl (All-tail IsRow r rows all) in
        subst (λ l. Follows l (y ∷ taken)) (sym (is ∙ ap (λ a. a ∷ (rows ++ rest)) first))
        (row-more y (rows ++ rest) taken (subst IsRow first (All-head IsRow r rows all)) tail))

-- a last item that is no failed read stands at no place but in the list
other-last : (x : Item) (taken : List Item) → (x ≡ Faulted → ⊥) → is_last x ≡ true → (rows : List Item) → x ∷ taken ≡ rows ++ Faulted ∷ [] → All IsRow rows → ⊥
other-last x taken other last [] e all = (let d : x ∷ taken ≡ Faulted ∷ [] = e in other cc)
other-last x taken other last (r ∷ rows) e all = (let d : x ∷ taken ≡ r ∷ (rows ++ Faulted ∷ []) = e in
    let first : r ≡ x = cc in false≢true (sym (All-head IsRow r rows all) ∙ ap is_last first ∙ last))

-- what is behind a row that was taken follows what is behind it in the list
row-less : (x y : Item) (list taken : List Item) → IsRow x → Follows (y ∷ list) (x ∷ taken) → (y ≡ x) × Follows list taken
row-less x y list taken row follows = elim follows [
  | inl front ↦ (let d : y ∷ list ≡ x ∷ (taken ++ front.0) = front.1 in (cc, inl (front.0, cc)))
  | inr faulted ↦ from faulted.0 faulted.1 faulted.2 faulted.3 faulted.4
]
  where
    from : (rows rest : List Item) → x ∷ taken ≡ rows ++ Faulted ∷ [] → y ∷ list ≡ rows ++ rest → All IsRow rows → (y ≡ x) × Follows list taken
    from [] rest ends is all = (let d : x ∷ taken ≡ Faulted ∷ [] = ends in
        let fault : x ≡ Faulted = cc in absurd (false≢true (sym row ∙ ap is_last fault)))
    from (r ∷ rows) rest ends is all = (let d : x ∷ taken ≡ r ∷ (rows ++ Faulted ∷ []) = ends in
        let e : y ∷ list ≡ r ∷ (rows ++ rest) = is in
        (cc, inr (rows, rest, cc, cc, All-tail IsRow r rows all)))

row-none : (x : Item) (taken : List Item) → IsRow x → Follows [] (x ∷ taken) → ⊥
row-none x taken row follows = elim follows [
  | inl front ↦ (let d : [] ≡ x ∷ (taken ++ front.0) = front.1 in cc)
  | inr faulted ↦ from faulted.0 faulted.1 faulted.2 faulted.3
]
  where
    from : (rows rest : List Item) → x ∷ taken ≡ rows ++ Faulted ∷ [] → [] ≡ rows ++ rest → ⊥
    from [] rest ends is = (let d : x ∷ taken ≡ Faulted ∷ [] = ends in
        let fault : x ≡ Faulted = cc in false≢true (sym row ∙ ap is_last fault))
    from (r ∷ rows) rest ends is = (let d : [] ≡ r ∷ (rows ++ rest) = is in cc)

row-stable : (x : Item) (list taken : List Item) → IsRow x → ∥ Follows list (x ∷ taken) ∥₁
    → ((l : List Item) → ∥ Follows l taken ∥₁ → Follows l taken) → Follows list (x ∷ taken)
row-stable x [] taken row follows stable = absurd (∥∥₁_elim follows (hlevel props) (λ f. row-none x taken row f))
row-stable x (y ∷ list) taken row follows stable =
    let same : y ≡ x = ∥∥₁_elim follows (hlevel props) (λ f. (row-less x y list taken row f).0) in
    let rest = stable list (∥∥₁_map follows (λ f. (row-less x y list taken row f).1)) in
    subst (λ a. Follows (a ∷ list) (x ∷ taken)) (sym same) (row-more x list taken row rest)

-- items that are known to follow a list do so in one of the two ways
pub follows-stable : (list taken : List Item) → ∥ Follows list taken ∥₁ → Follows list taken
follows-stable list [] follows = inl (list, refl)
follows-stable list (Faulted ∷ []) follows = inr ([], list, refl, refl, All-nil IsRow)
follows-stable list (Faulted ∷ (z ∷ taken)) follows = inl (front-only list (Faulted ∷ (z ∷ taken)) (λ f. later f.0 f.1 f.2 f.4) follows)
  where
    later : (rows rest : List Item) → Faulted ∷ (z ∷ taken) ≡ rows ++ Faulted ∷ [] → All IsRow rows → ⊥
    later [] rest e all = (let d : Faulted ∷ (z ∷ taken) ≡ Faulted ∷ [] = e in cc)
    later (r ∷ rows) rest e all = (let d : Faulted ∷ (z ∷ taken) ≡ r ∷ (rows ++ Faulted ∷ []) = e in
        let first : r ≡ Faulted = cc in false≢true (sym (All-head IsRow r rows all) ∙ ap is_last first))
follows-stable list (Bad bad ∷ taken) follows = inl (front-only list (Bad bad ∷ taken) (λ f. other-last (Bad bad) taken (λ e. cc) refl f.0 f.2 f.4) follows)
follows-stable list (End ∷ taken) follows = inl (front-only list (End ∷ taken) (λ f. other-last End taken (λ e. cc) refl f.0 f.2 f.4) follows)
follows-stable list (Bar bar ∷ taken) follows = row-stable (Bar bar) list taken refl follows (λ l. follows-stable l taken)
follows-stable list (Coarse at row ∷ taken) follows = row-stable (Coarse at row) list taken refl follows (λ l. follows-stable l taken)

module _ {G : Type 0} {feed : Ghosts G} where
  -- a turn that ran on sends into the lane that it sent into
  pub run-lane : (origin turn : Turn G feed) → HasRun origin turn → turn_lane turn ≡ turn_lane origin
  run-lane origin turn has = ∥∥₁_elim has (hlevel props) (λ ran. ran.lane)

  -- what was taken of the lane of a turn that came home
  pub unseated : (origin turn : Turn G feed) (taken left : List Item) → HasRun origin turn → sent_of turn ≡ taken ++ left → Unseated origin taken turn.feed
  unseated origin turn taken left has is = λ told before stands. (
    λ list tells. follows-stable list taken (∥∥₁_map has (λ ran.
        follows-front list taken (left ++ held_items turn.held) (subst (λ g. Follows list g) given ((ran.stands told before stands).follows list tells)))),
    λ faulted. ∥∥₁_elim has (hlevel props) (λ ran. (ran.stands told before stands).rose
        (subst (λ g. Contains g Faulted) (sym given) (Contains-append_left taken (left ++ held_items turn.held) Faulted faulted))),
  )
    where
      given : given_of turn ≡ taken ++ (left ++ held_items turn.held)
      given = ap (λ s. s ++ held_items turn.held) is ∙ append_assoc taken left (held_items turn.held)
