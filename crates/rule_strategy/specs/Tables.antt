-- The rows of a table: the value that stands under a key, or the first fault.
use Rattle.std.specs.Prelude.{ℕ, suc, Bool, true, false, nat_le, if◌then◌else◌, List, bytes_eq, length, Option, Some, None, option_map, ⊤, Ok, Err}
use Rattle.std.specs.List.{list_any}
use Rattle.toml.specs.Data.{Data, Items, no_items, item, Members, no_members, member, get_member, as_str, as_array, as_table}
use Rattle.rule_strategy.specs.declared.fault.PlanFault.TheVariants.{Missing, Unknown, Value, Limit}
use Rattle.rule_strategy.specs.Answers.{Answer, ◌>>=◌, pure}

-- the keys of a table are among these: the first by byte order that is none of them is unknown
unfoldable pub only : List (List ℕ) → Members → Answer ⊤
only keys no_members = Ok tt
only keys (member key d others) = if list_any (bytes_eq key) keys then only keys others else Err (Unknown key)

abbrev pub or_missing : {A : Type 0} → List ℕ → Option A → Answer A
or_missing key None = Err (Missing key)
or_missing key (Some default) = Ok default

abbrev pub or_wrong : {A : Type 0} → List ℕ → Option A → Answer A
or_wrong key None = Err (Value key)
or_wrong key (Some a) = Ok a

-- a key with a default, or, where there is none, a required key
abbrev pub value_or : {A : Type 0} → List ℕ → (Data → Option A) → Option A → Option Data → Answer A
value_or key kind default None = or_missing key default
value_or key kind default (Some d) = or_wrong key (kind d)

unfoldable pub row : {A : Type 0} → List ℕ → (Data → Option A) → Option A → Members → Answer A
row key kind default table = value_or key kind default (get_member key table)

-- a key that may be missing
abbrev pub value_if : {A : Type 0} → List ℕ → (Data → Option A) → Option Data → Answer (Option A)
value_if key kind None = Ok None
value_if key kind (Some d) = or_wrong key (option_map Some (kind d))

unfoldable pub optional : {A : Type 0} → List ℕ → (Data → Option A) → Members → Answer (Option A)
optional key kind table = value_if key kind (get_member key table)

-- the tables of an array, which may be missing, and of which there may be so many
abbrev pub length_of : Items → ℕ
length_of no_items = 0
length_of (item d others) = suc (length_of others)

abbrev pub if_few : List ℕ → ℕ → Option Items → Answer Items
if_few key most None = Err (Value key)
if_few key most (Some items) = if nat_le (length_of items) most then Ok items else Err (Limit key)

abbrev pub items_if : List ℕ → ℕ → Option Data → Answer Items
items_if key most None = Ok no_items
items_if key most (Some d) = if_few key most (as_array d)

unfoldable pub array_row : List ℕ → ℕ → Members → Answer Items
array_row key most table = items_if key most (get_member key table)

unfoldable pub table_of : List ℕ → Data → Answer Members
table_of key d = or_wrong key (as_table d)

-- a text of at most 1,000 bytes, which is required
abbrev pub most_text : ℕ
most_text = 1000

abbrev pub if_short : List ℕ → Option (List ℕ) → Answer (List ℕ)
if_short key None = Err (Value key)
if_short key (Some text) = if nat_le (length text) most_text then Ok text else Err (Limit key)

abbrev pub text_or : List ℕ → Option Data → Answer (List ℕ)
text_or key None = Err (Missing key)
text_or key (Some d) = if_short key (as_str d)

unfoldable pub text_row : List ℕ → Members → Answer (List ℕ)
text_row key table = text_or key (get_member key table)

-- a known key that is not taken here is unknown, at its place in the order
abbrev pub none_or : List ℕ → Option Data → Answer (Option (List ℕ))
none_or key None = Ok None
none_or key (Some d) = Err (Unknown key)

unfoldable pub none_row : List ℕ → Members → Answer (Option (List ℕ))
none_row key table = none_or key (get_member key table)

-- a text where it is taken
unfoldable pub text_if : Bool → List ℕ → Members → Answer (Option (List ℕ))
text_if false key table = none_row key table
text_if true key table = do
  text ← text_row key table
  pure (Some text)
