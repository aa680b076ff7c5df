-- Turns by the numbers of their feeds, while they are put down, taken away and pumped.
use Rattle.std.proofs.Common.{◌≡◌, ℕ, zero, suc, ◌+◌, ◌<◌, ◌≤◌, Bool, true, false, List, [], ◌∷◌, ◌++◌, length, get_or, set, take, drop, inl, inr, refl, sym, ap, ◌∙◌, subst, length-append, drop-cons, drop_of_length-le, arith}
use Rattle.std.specs.Prelude.{cond, if◌then◌else◌, ◌==◌, ◌⊎◌, Option, Some, None, MatchOption}
use Rattle.std.specs.List.{All, AllZip, HoldsAt, filter, insert, remove}
use Rattle.std.proofs.lemmas.Bool.{eq-eqb, eqb-true}
use Rattle.std.proofs.lemmas.List.{append-nil, take-append-drop, get_or-set_same, set-get_or}
use Rattle.std.proofs.lemmas.List.Elements.{All-more, All-same, filter-append, length_all_zip}
use Rattle.std.proofs.Math.Seq.{map-set, take-length}
use Rattle.feed_queue.specs.Lanes.{WasFull}
use Rattle.lean_items.specs.declared.feed_no.FeedNo.{FeedNo}
use Rattle.lean_items.specs.declared.feeds.Feed.{Ghosts}
use Rattle.lean_items.specs.declared.item.Item.{Item}
use Rattle.work_scheduler.specs.declared.placing.Placing.{Placing}
use Rattle.work_scheduler.specs.declared.turn.Turn.{Turn}
use Rattle.work_scheduler.specs.declared.turning.Pumped.{Pumped}
use Rattle.work_scheduler.specs.Placings.{numbered, all_sent, GrewAt, PlacedOn, IsStuck, OnePumped}
use Rattle.work_scheduler.specs.Turns.{sent_of, room_of_lane, is_done, RanOn, SentMore}
use Rattle.work_scheduler.proofs.TurnLemmas.{ran-refl, ran-then}

-- a list that no item was added to
pub grew-none : (place n : ℕ) (old new : List (List Item)) → n ≡ 0 → GrewAt place n old new → new ≡ old
grew-none place n old new none grew =
    let nothing : grew.0 ≡ [] = empty grew.0 (grew.1 ∙ none) in
    grew.2 ∙ ap (λ l. set old place (get_or old place [] ++ l)) nothing ∙ ap (λ l. set old place l) (append-nil (get_or old place [])) ∙ set-get_or old place []
  where
    empty : (items : List Item) → length items ≡ 0 → items ≡ []
    empty [] e = refl
    empty (x ∷ xs) e = absurd (omega (arith, e))

module _ {X : Type 0} where
  -- a vector that was lent whole and came back
  pub written : (n : ℕ) (old new : List X) → n ≡ length old → length new ≡ length old → take n (new ++ drop (length new) old) ≡ new
  written n old new whole long =
      let none : drop (length new) old ≡ [] = drop_of_length-le old {i = length new} (omega (arith, long)) in
      ap (λ l. take n (new ++ l)) none ∙ ap (λ l. take n l) (append-nil new) ∙ ap (λ m. take m new) (whole ∙ sym long) ∙ take-length new

  pub all-whole : (P : X → Type 0) (xs : List X) (n : ℕ) → n ≡ length xs → All P (take n xs) → All P xs
  all-whole P xs n whole before = All-same P xs (take n xs) (sym (ap (λ m. take m xs) whole ∙ take-length xs)) before

  pub all-more : (P : X → Type 0) (xs : List X) (i : ℕ) → i < length xs → All P (take i xs) → HoldsAt P xs i → All P (take (i + 1) xs)
  all-more P xs i within before at k d lt = All-more P xs i d within before (at d) k d lt

  -- an element that was put where none of its kind is
  put-cases : (b : Bool) (front back all : List X) (x : X) → front ++ back ≡ all → (b ≡ true → all ≡ [])
      → front ++ cond b (x ∷ back) back ≡ (if b then x ∷ [] else all)
  put-cases false front back all x parts none = parts
  put-cases true [] back all x parts none = ap (λ l. x ∷ l) (parts ∙ none refl)
  put-cases true (y ∷ front) back all x parts none = (let e : (y ∷ (front ++ back)) ≡ [] = parts ∙ none refl in absurd cc)

  pub once-cases : (b : Bool) (x : X) (all : List X) → length all ≤ 1 → length (if b then x ∷ [] else all) ≤ 1
  once-cases true x all once = omega arith
  once-cases false x all once = once

  -- an element that is the only one of its kind was taken away
  gone-cases : (b : Bool) (front back all : List X) (x : X) → all ≡ front ++ cond b (x ∷ back) back → (b ≡ true → length all ≤ 1)
      → front ++ back ≡ (if b then [] else all)
  gone-cases false front back all x parts once = sym parts
  gone-cases true [] [] all x parts once = refl
  gone-cases true [] (z ∷ back) all x parts once = (let long = ap length parts in let few = once refl in absurd (omega (arith, long, few)))
  gone-cases true (y ∷ front) back all x parts once =
      (let long = ap length parts ∙ length-append (y ∷ front) (x ∷ back) in let few = once refl in absurd (omega (arith, long, few)))

  alone-cases : (front back all : List X) (x : X) → all ≡ front ++ x ∷ back → length all ≤ 1 → all ≡ x ∷ []
  alone-cases [] [] all x parts once = parts
  alone-cases [] (z ∷ back) all x parts once = (let long = ap length parts in absurd (omega (arith, long, once)))
  alone-cases (y ∷ front) back all x parts once = (let long = ap length parts ∙ length-append (y ∷ front) (x ∷ back) in absurd (omega (arith, long, once)))

  pub gone-once : (b : Bool) (all : List X) → length all ≤ 1 → length (if b then [] else all) ≤ 1
  gone-once true all once = omega arith
  gone-once false all once = once

  split-at : (xs : List X) (i : ℕ) (d : X) → i < length xs → xs ≡ take i xs ++ get_or xs i d ∷ drop (suc i) xs
  split-at xs i d within = sym (take-append-drop i xs) ∙ ap (λ l. take i xs ++ l) (drop-cons xs i d within)

module _ {G : Type 0} {feed : Ghosts G} where
  pub zip-still : (turns : List (Placing G feed)) → AllZip PlacedOn turns turns
  zip-still [] = tt
  zip-still (p ∷ turns) = ((refl, ran-refl p.turn), zip-still turns)

  pub zip-then : (a b c : List (Placing G feed)) → AllZip PlacedOn a b → AllZip PlacedOn b c → AllZip PlacedOn a c
  zip-then [] [] [] ab bc = tt
  zip-then [] [] (z ∷ c) ab bc = absurd bc
  zip-then [] (y ∷ b) c ab bc = absurd ab
  zip-then (x ∷ a) [] c ab bc = absurd ab
  zip-then (x ∷ a) (y ∷ b) [] ab bc = absurd bc
  zip-then (x ∷ a) (y ∷ b) (z ∷ c) ab bc = ((bc.0.0 ∙ ab.0.0, ran-then x.turn y.turn z.turn ab.0.1 bc.0.1), zip-then a b c ab.1 bc.1)

  pub zip-set : (turns : List (Placing G feed)) (place : ℕ) (d p : Placing G feed) → place < length turns → PlacedOn (get_or turns place d) p
      → AllZip PlacedOn turns (set turns place p)
  zip-set [] place d p within on = absurd (omega (arith, within))
  zip-set (x ∷ turns) zero d p within on = (on, zip-still turns)
  zip-set (x ∷ turns) (suc place) d p within on = ((refl, ran-refl x.turn), zip-set turns place d p (omega (arith, within)) on)

  sent-at : (turns : List (Placing G feed)) (place : ℕ) (d : Placing G feed) → place < length turns
      → get_or (all_sent turns) place [] ≡ sent_of (get_or turns place d).turn
  sent-at [] place d within = absurd (omega (arith, within))
  sent-at (x ∷ turns) zero d within = refl
  sent-at (x ∷ turns) (suc place) d within = sent-at turns place d (omega (arith, within))

  pub grew-set : (turns : List (Placing G feed)) (place : ℕ) (d p : Placing G feed) (n : ℕ) → place < length turns
      → SentMore n (sent_of (get_or turns place d).turn) (sent_of p.turn) → GrewAt place n (all_sent turns) (all_sent (set turns place p))
  grew-set turns place d p n within more = (
    more.0,
    more.1,
    map-set (λ (q : Placing G feed). sent_of q.turn) turns place p
        ∙ ap (λ l. set (all_sent turns) place l) (more.2 ∙ ap (λ l. l ++ more.0) (sym (sent-at turns place d within))),
  )

  pub sent-set : (turns : List (Placing G feed)) (place : ℕ) (d p : Placing G feed) → place < length turns
      → sent_of p.turn ≡ sent_of (get_or turns place d).turn → all_sent (set turns place p) ≡ all_sent turns
  sent-set turns place d p within same =
      map-set (λ (q : Placing G feed). sent_of q.turn) turns place p
      ∙ ap (λ l. set (all_sent turns) place l) (same ∙ sym (sent-at turns place d within)) ∙ set-get_or (all_sent turns) place []

  -- a turn that sent nothing has sent all, or its lane was full
  pub stuck-turn : (old new : Turn G feed) (pumped : Pumped) (batch : ℕ) → 1 ≤ batch → pumped.sent ≡ 0
      → (pumped.sent < batch → (pumped.ended ≡ true) ⊎ (pumped.full ≡ true))
      → (pumped.full ≡ true → WasFull (room_of_lane old) (sent_of new)) → pumped.ended ≡ is_done new → RanOn old new
      → (is_done new ≡ true) ⊎ WasFull (room_of_lane new) (sent_of new)
  stuck-turn old new pumped batch some none short full ended ran =
      let less : pumped.sent < batch = omega (arith, some, none) in
      elim (short less) [
        | inl over ↦ inl (sym ended ∙ over)
        | inr at_full ↦ inr (subst (λ n. WasFull n (sent_of new)) (sym ran.capacity) (full at_full))
      ]

  pub stuck-set : (turns : List (Placing G feed)) (place : ℕ) (p : Placing G feed) → place < length turns → IsStuck p → HoldsAt IsStuck (set turns place p) place
  stuck-set turns place p within stuck d = subst IsStuck (sym (get_or-set_same turns place p d within)) stuck

  length-cond : (b c : Bool) (p q : Placing G feed) (l m : List (Placing G feed)) → b ≡ c → length l ≡ length m
      → length (cond b (p ∷ l) l) ≡ length (cond c (q ∷ m) m)
  length-cond true true p q l m e long = omega (arith, long)
  length-cond true false p q l m e long = absurd cc
  length-cond false true p q l m e long = absurd cc
  length-cond false false p q l m e long = long

  -- as many turns of each feed as before
  pub once-zip : (k : ℕ) (a b : List (Placing G feed)) → AllZip PlacedOn a b → length (numbered k a) ≡ length (numbered k b)
  once-zip k [] [] ab = refl
  once-zip k [] (y ∷ b) ab = absurd ab
  once-zip k (x ∷ a) [] ab = absurd ab
  once-zip k (x ∷ a) (y ∷ b) ab =
      length-cond (x.feed.0 == k) (y.feed.0 == k) x y (numbered k a) (numbered k b) (ap (λ (n : FeedNo). n.0 == k) (sym ab.0.0)) (once-zip k a b ab.1)

  -- a turn was put among others, of which none is of its feed
  pub numbered-put : (turns : List (Placing G feed)) (place : ℕ) (p : Placing G feed) → numbered p.feed.0 turns ≡ [] → (k : ℕ)
      → numbered k (insert turns place p) ≡ (if p.feed.0 == k then p ∷ [] else numbered k turns)
  numbered-put turns place p none k =
      let test = λ (q : Placing G feed). q.feed.0 == k in
      filter-append test (take place turns) (p ∷ drop place turns)
      ∙ put-cases (p.feed.0 == k) (numbered k (take place turns)) (numbered k (drop place turns)) (numbered k turns) p
      (sym (filter-append test (take place turns) (drop place turns)) ∙ ap (filter test) (take-append-drop place turns))
      (λ same. subst (λ n. numbered n turns ≡ []) (eqb-true p.feed.0 k same) none)

  pub numbered-split : (turns : List (Placing G feed)) (place : ℕ) (d : Placing G feed) → place < length turns → (k : ℕ)
      → numbered k turns ≡ numbered k (take place turns) ++ numbered k (get_or turns place d ∷ drop (suc place) turns)
  numbered-split turns place d within k =
      let test = λ (q : Placing G feed). q.feed.0 == k in
      ap (filter test) (split-at turns place d within) ∙ filter-append test (take place turns) (get_or turns place d ∷ drop (suc place) turns)

  -- the only turn of a feed was taken away
  pub numbered-gone : (turns : List (Placing G feed)) (place : ℕ) (d : Placing G feed) (number : ℕ) → place < length turns → (get_or turns place d).feed.0 ≡ number
      → length (numbered number turns) ≤ 1 → (k : ℕ) → numbered k (remove turns place) ≡ (if number == k then [] else numbered k turns)
  numbered-gone turns place d number within is once k =
      let test = λ (q : Placing G feed). q.feed.0 == k in
      let x : Placing G feed = get_or turns place d in
      filter-append test (take place turns) (drop (suc place) turns)
      ∙ gone-cases (x.feed.0 == k) (numbered k (take place turns)) (numbered k (drop (suc place) turns)) (numbered k turns) x
      (numbered-split turns place d within k)
      (λ same. subst (λ n. length (numbered n turns) ≤ 1) (sym is ∙ eqb-true x.feed.0 k same) once)
      ∙ ap (λ n. if n == k then [] else numbered k turns) is

  pub numbered-alone : (turns : List (Placing G feed)) (place : ℕ) (d : Placing G feed) (number : ℕ) → place < length turns → (get_or turns place d).feed.0 ≡ number
      → length (numbered number turns) ≤ 1 → numbered number turns ≡ get_or turns place d ∷ []
  numbered-alone turns place d number within is once =
      let x : Placing G feed = get_or turns place d in
      let own : (x.feed.0 == number) ≡ true = eq-eqb x.feed.0 number is in
      let rest : List (Placing G feed) = numbered number (drop (suc place) turns) in
      alone-cases (numbered number (take place turns)) rest (numbered number turns) x
      (numbered-split turns place d within number ∙ ap (λ b. numbered number (take place turns) ++ cond b (x ∷ rest) rest) own) once

  pub same-placing : (p : Placing G feed) (number : FeedNo) → p.feed.0 ≡ number.0 → p ≡ record { feed = number; turn = p.turn }
  same-placing p number is = λ i. record { feed = record { 0 = is i }; turn = p.turn }

  pub pumped-then : (old mid new : List (Placing G feed)) (pumped : Pumped) → AllZip PlacedOn old mid → all_sent mid ≡ all_sent old
      → OnePumped pumped mid new → OnePumped pumped old new
  pumped-then old mid new pumped ran same one = (
    one.0,
    (let long = length_all_zip PlacedOn old mid ran in omega (arith, one.1, long)),
    subst (λ s. GrewAt one.0 pumped.sent s (all_sent new)) same one.2,
  )

  pub answer-then : (old mid new : List (Placing G feed)) (answer : Option Pumped) → AllZip PlacedOn old mid → all_sent mid ≡ all_sent old
      → MatchOption answer ((all_sent new ≡ all_sent mid) × All IsStuck new) (λ pumped. OnePumped pumped mid new)
      → MatchOption answer ((all_sent new ≡ all_sent old) × All IsStuck new) (λ pumped. OnePumped pumped old new)
  answer-then old mid new None ran same all = (all.0 ∙ same, all.1)
  answer-then old mid new (Some pumped) ran same one = pumped-then old mid new pumped ran same one
