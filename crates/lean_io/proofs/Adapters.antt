use Rattle.std.proofs.Common.{ℕ, ◌+◌, ◌≡◌, true, false, List, Option, Some, None, Result, Ok, Err, IfOk, OnOk, OnErr, refl, ap, ◌∙◌, arith}
use Rattle.std.proofs.lemmas.Result.{IfOk-weaker, on_ok_weaker, on_err_weaker}
use Rattle.lean_io.specs.Told.{Files, Rose}
use Rattle.lean_io.specs.Counts.{raised}
use Rattle.lean_io.specs.DirHand.{DirState, DirHandState, given, failed, new_hand, SameFile}

-- a count that was raised by one rose
rose_when_raised : (before now : ℕ) → now ≡ raised before 1 → Rose before now
rose_when_raised before now e = omega (arith, e)

-- what a sink that tells nothing tells
abbrev pub no_bytes : Option (List ℕ)
no_bytes = None

-- what a folder or a hand that tells nothing tells
abbrev pub no_files : Option Files
no_files = None

module _ {T E : Type 0} where
  pub bytes_untold : (r : Result T E) → IfOk r (λ _. no_bytes ≡ no_bytes)
  bytes_untold (Ok _) = refl
  bytes_untold (Err _) = tt

  pub bytes_untold_at_err : (r : Result T E) → OnErr r (no_bytes ≡ no_bytes)
  bytes_untold_at_err (Ok _) = tt
  bytes_untold_at_err (Err _) = refl

  pub untold : (r : Result T E) (P : T → Files → Type 0) → IfOk r (λ x. (f : Files) → no_files ≡ Some f → P x f)
  untold (Ok _) P = λ f e. cc
  untold (Err _) P = tt

  pub rose : (r : Result T E) (before now : ℕ) → OnErr r (now ≡ raised before 1) → OnErr r (Rose before now)
  rose r before now = on_err_weaker r (rose_when_raised before now)

  pub hand_rose : (r : Result T E) (before now : DirHandState) → OnErr r (now ≡ failed before) → OnErr r (Rose before.faults now.faults)
  hand_rose r before now = on_err_weaker r (λ (e : now ≡ failed before). rose_when_raised before.faults now.faults (ap (λ (h : DirHandState). h.faults) e))

  pub hand_closed : (r : Result T E) (before now : DirHandState) → OnErr r (now ≡ failed before) → OnErr r (now.is_open ≡ false)
  hand_closed r before now = on_err_weaker r (λ (e : now ≡ failed before). ap (λ (h : DirHandState). h.is_open) e)

  pub hand_stays : (r : Result T E) (before now : DirHandState) → before.is_open ≡ true → OnOk r (SameFile before now) → OnOk r (now.is_open ≡ true)
  hand_stays r before now is = on_ok_weaker r (λ (s : SameFile before now). s.is_open ∙ is)

module _ {E : Type 0} where
  pub hand_untold : (r : Result DirHandState E) → IfOk r (λ h. no_files ≡ no_files)
  hand_untold (Ok _) = refl
  hand_untold (Err _) = tt

  pub hand_new : (r : Result DirHandState E) → IfOk r (λ h. h ≡ new_hand) → IfOk r (λ h. (h.faults ≡ 0) × (h.is_open ≡ false))
  hand_new r = IfOk-weaker r (λ h. h ≡ new_hand) (λ h. (h.faults ≡ 0) × (h.is_open ≡ false))
      (λ h e. (ap (λ (s : DirHandState). s.faults) e, ap (λ (s : DirHandState). s.is_open) e))

  pub hand_out : (r : Result DirHandState E) (before now : DirState) → OnOk r (now ≡ given before) → OnOk r (now.hands ≡ before.hands + 1)
  hand_out r before now = on_ok_weaker r (λ (e : now ≡ given before). ap (λ (d : DirState). d.hands) e)

  pub hand_same : (r : Result DirHandState E) (before now : DirState) → OnOk r (now ≡ given before) → OnErr r (now ≡ before) → now.faults ≡ before.faults
  hand_same (Ok _) before now e none = ap (λ (d : DirState). d.faults) e
  hand_same (Err _) before now none e = ap (λ (d : DirState). d.faults) e
