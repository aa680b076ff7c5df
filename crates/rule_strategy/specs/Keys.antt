-- The keys that a fault names.
use Rattle.std.specs.Prelude.{ℕ, List}
use Rattle.rule_strategy.specs.declared.key.Held.{Held}
use Rattle.rule_strategy.specs.declared.key.Held.TheVariants.{Known, Read}

abbrev pub key_of : Held → List ℕ
key_of (Known name) = name.now
key_of (Read bytes) = bytes.items
