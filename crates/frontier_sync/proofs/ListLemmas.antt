-- What was taken of a feed in the list that it follows.
use Rattle.std.proofs.Common.{◌≡◌, ◌⊎◌, ℤ, true, false, List, length, arith, [], ◌∷◌, ◌++◌, refl, sym, ap, ◌∙◌, subst, inl, inr, append_assoc, append-nil}
use Rattle.std.specs.List.{All}
use Rattle.std.proofs.lemmas.Bool.{true≢false}
use Rattle.std.proofs.lemmas.List.Elements.{All-head, All-tail}
use Rattle.lean_items.specs.declared.item.Item.{Item}
use Rattle.lean_items.specs.declared.item.Item.TheVariants.{Faulted}
use Rattle.lean_items.specs.Fits.{end_or, Rises}
use Rattle.lean_items.specs.Given.{is_last, IsRow}
use Rattle.lean_items.specs.Taken.{Follows}
use Rattle.frontier_sync.specs.Rising.{EndsOnce}

abbrev tail-of : List Item → List Item
tail-of [] = []
tail-of (x ∷ xs) = xs

abbrev head-of : Item → List Item → Item
head-of d [] = d
head-of d (x ∷ xs) = x

some-none : (x : Item) (xs : List Item) → x ∷ xs ≡ [] → ⊥
some-none x xs e = (let n : length (x ∷ xs) ≡ 0 = ap length e in absurd (omega arith))

-- a list's last item and what stands before it
pub last-same : (xs ys : List Item) (x y : Item) → xs ++ x ∷ [] ≡ ys ++ y ∷ [] → (xs ≡ ys) × (x ≡ y)
last-same [] [] x y e = (refl, ap (head-of x) e)
last-same [] (b ∷ []) x y e = absurd (some-none y [] (sym (ap tail-of e)))
last-same [] (b ∷ c ∷ ys) x y e = absurd (some-none c (ys ++ y ∷ []) (sym (ap tail-of e)))
last-same (a ∷ []) [] x y e = absurd (some-none x [] (ap tail-of e))
last-same (a ∷ c ∷ xs) [] x y e = absurd (some-none c (xs ++ x ∷ []) (ap tail-of e))
last-same (a ∷ xs) (b ∷ ys) x y e =
    let more = last-same xs ys x y (ap tail-of e) in
    (ap (λ zs. a ∷ zs) more.0 ∙ ap (λ z. z ∷ ys) (ap (head-of a) e), more.1)

-- where a list ends in an item, either nothing was put behind its front, or what was put there ends in it
pub split-last : (xs ys rows : List Item) (z : Item) → xs ++ ys ≡ rows ++ z ∷ [] → (ys ≡ []) ⊎ ((zs : List Item) × (ys ≡ zs ++ z ∷ []) × (rows ≡ xs ++ zs))
split-last [] ys rows z e = inr (rows, e, refl)
split-last (x ∷ xs) ys [] z e = inl (no-more xs ys (ap tail-of e))
  where
    no-more : (xs ys : List Item) → xs ++ ys ≡ [] → ys ≡ []
    no-more [] ys e = e
    no-more (x ∷ xs) ys e = absurd (some-none x (xs ++ ys) e)
split-last (x ∷ xs) ys (r ∷ rows) z e = step (split-last xs ys rows z (ap tail-of e))
  where
    step : (ys ≡ []) ⊎ ((zs : List Item) × (ys ≡ zs ++ z ∷ []) × (rows ≡ xs ++ zs)) → (ys ≡ []) ⊎ ((zs : List Item) × (ys ≡ zs ++ z ∷ []) × (r ∷ rows ≡ (x ∷ xs) ++ zs))
    step (inl none) = inl none
    step (inr (zs, is, rest)) = inr (zs, is, ap (λ a. a ∷ rows) (sym (ap (head-of x) e)) ∙ ap (λ bs. x ∷ bs) rest)

-- what was taken before follows the list too
pub follows-front : (list xs ys : List Item) → Follows list (xs ++ ys) → Follows list xs
follows-front list xs ys (inl (rest, is)) = inl (ys ++ rest, is ∙ append_assoc xs ys rest)
follows-front list xs ys (inr (rows, rest, is, list_is, all)) = step (split-last xs ys rows Faulted is)
  where
    step : (ys ≡ []) ⊎ ((zs : List Item) × (ys ≡ zs ++ Faulted ∷ []) × (rows ≡ xs ++ zs)) → Follows list xs
    step (inl none) = inr (rows, rest, sym (append-nil xs) ∙ ap (λ zs. xs ++ zs) (sym none) ∙ is, list_is, all)
    step (inr (zs, e, parts)) = inl (zs ++ rest, list_is ∙ ap (λ bs. bs ++ rest) parts ∙ append_assoc xs zs rest)

-- What was taken behind a head that is no failed read stands behind it in the list, but for a failed read at its end.
pub record Stays (list given : List Item) (head : Item) (taken : List Item) : Type 0 where
  pub rest : List Item
  pub is : list ≡ given ++ (head ∷ taken ++ rest)

pub record Breaks (list given : List Item) (head : Item) (taken : List Item) : Type 0 where
  pub rest : List Item
  pub rows : List Item
  pub taken_is : taken ≡ rows ++ Faulted ∷ []
  pub is : list ≡ given ++ (head ∷ rows ++ rest)
  pub all : All IsRow (head ∷ rows)

all-behind : (P : Item → Type 0) (xs ys : List Item) → All P (xs ++ ys) → All P ys
all-behind P [] ys all = all
all-behind P (x ∷ xs) ys all = all-behind P xs ys (All-tail P x (xs ++ ys) all)

pub follows-head : (list given : List Item) (head : Item) (taken : List Item) → (head ≡ Faulted → ⊥) → Follows list ((given ++ head ∷ []) ++ taken)
    → Stays list given head taken ⊎ Breaks list given head taken
follows-head list given head taken sound (inl (rest, is)) =
    inl (record { rest = rest; is = is ∙ ap (λ xs. xs ++ rest) (append_assoc given (head ∷ []) taken) ∙ append_assoc given (head ∷ taken) rest })
follows-head list given head taken sound (inr (rows, rest, is, list_is, all)) = step (split-last (given ++ head ∷ []) taken rows Faulted is)
  where
    step : (taken ≡ []) ⊎ ((zs : List Item) × (taken ≡ zs ++ Faulted ∷ []) × (rows ≡ (given ++ head ∷ []) ++ zs)) → Stays list given head taken ⊎ Breaks list given head taken
    step (inl none) = absurd (sound (last-same given rows head Faulted (sym (append-nil (given ++ head ∷ [])) ∙ ap (λ xs. (given ++ head ∷ []) ++ xs) (sym none) ∙ is)).1)
    step (inr (zs, e, parts)) =
        let whole : rows ≡ given ++ (head ∷ zs) = parts ∙ append_assoc given (head ∷ []) zs in
        inr (record {
          rest = rest;
          rows = zs;
          taken_is = e;
          is = list_is ∙ ap (λ xs. xs ++ rest) whole ∙ append_assoc given (head ∷ zs) rest;
          all = all-behind IsRow given (head ∷ zs) (subst (λ xs. All IsRow xs) whole all);
        })

-- a failed read behind rows
pub once-fault : (rows : List Item) → All IsRow rows → EndsOnce (rows ++ Faulted ∷ [])
once-fault [] all = (λ last. refl, tt)
once-fault (x ∷ rows) all =
    (λ last. absurd (no-row x (All-head IsRow x rows all) last), once-fault rows (All-tail IsRow x rows all))
  where
    no-row : (x : Item) → is_last x ≡ false → is_last x ≡ true → ⊥
    no-row x row last = true≢false (sym last ∙ row)

pub rises-fault : (after : ℤ) (rows : List Item) → Rises after rows → Rises after (rows ++ Faulted ∷ [])
rises-fault after [] r = (refl, tt)
rises-fault after (x ∷ rows) r = (r.0, rises-fault (end_or after x) rows r.1)
