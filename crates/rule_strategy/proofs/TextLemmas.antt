-- What the test for UTF-8 means.
use Rattle.std.proofs.Common.{◌≡◌, ℕ, Bool, true, false, List, IsUtf8, refl}
use Rattle.std.specs.Str.{is_utf8}
use Rattle.std.proofs.lemmas.Str.{is_utf8-from_IsUtf8, IsUtf8-from_is_utf8}

pub passes : (bytes : List ℕ) → IsUtf8 bytes → is_utf8 bytes ≡ true
passes bytes h = is_utf8-from_IsUtf8 bytes h

fails_at : (b : Bool) (bytes : List ℕ) → is_utf8 bytes ≡ b → (IsUtf8 bytes → ⊥) → is_utf8 bytes ≡ false
fails_at true bytes e broken = absurd (broken (IsUtf8-from_is_utf8 bytes e))
fails_at false bytes e broken = e

pub fails : (bytes : List ℕ) → (IsUtf8 bytes → ⊥) → is_utf8 bytes ≡ false
fails bytes broken = fails_at _ bytes refl broken

pub ruleset utf8_tests = (passes, fails)
