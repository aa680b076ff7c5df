-- The hours file and the algorithm file of a made folder.
use Rattle.std.specs.Prelude.{ℕ, ◌+◌, List, [], ◌∷◌, ◌++◌, codes, decimal}
use Rattle.std.specs.List.{flat_map, range_with_len}

-- a text of lines
abbrev pub text : List (List ℕ) → List ℕ
text lines = flat_map (λ line. line ++ 10 ∷ []) lines

-- the line of a weekday on which the exchange is open from 09:30 to 16:00
abbrev pub open_on : List ℕ → List ℕ
open_on weekday =
    codes "      \"" ++ weekday ++ codes "\": [{\"start\": \"09:30:00\", \"end\": \"16:00:00\", \"state\": \"market\"}]"

unfoldable pub hours_text : List ℕ
hours_text =
    text (codes "{" ∷ codes "  \"entries\": {" ∷ codes "    \"Equity-usa-[*]\": {" ∷ [])
    ++ text ((open_on (codes "monday") ++ codes ",") ∷ (open_on (codes "tuesday") ++ codes ",") ∷ (open_on (codes "wednesday") ++ codes ",") ∷ [])
    ++ text ((open_on (codes "thursday") ++ codes ",") ∷ open_on (codes "friday") ∷ [])
    ++ text (codes "    }" ∷ codes "  }" ∷ codes "}" ∷ [])

-- the symbol of a security
abbrev pub symbol_of : ℕ → List ℕ
symbol_of security = codes "S" ++ decimal security

unfoldable pub settings_text : List ℕ
settings_text =
    text (codes "start = \"20131007\"" ∷ codes "end = \"20131018\"" ∷ codes "cash = \"1000000\"" ∷ [])
    ++ text (codes "fee-per-share = \"0.005\"" ∷ codes "fee-minimum = \"1\"" ∷ codes "slippage = 10" ∷ [])

-- the part of a security
unfoldable pub security_text : ℕ → List ℕ
security_text security =
    codes "[[securities]]\nsymbol = \"" ++ symbol_of security ++ codes "\"\nresolution = \"minute\"\nperiod = 15\n"

unfoldable pub rules_text : List ℕ
rules_text =
    text (codes "[[rules]]" ∷ codes "when = \"sma(4) > sma(12) and position == 0 and orders == 0\"" ∷ codes "do = \"order\"" ∷ [])
    ++ text (codes "kind = \"market\"" ∷ codes "quantity = \"100\"" ∷ [])
    ++ text (codes "[[rules]]" ∷ codes "when = \"sma(4) < sma(12) and position > 0\"" ∷ codes "do = \"order\"" ∷ [])
    ++ text (codes "kind = \"market\"" ∷ codes "quantity = \"0 - position\"" ∷ [])
    ++ text (codes "[[rules]]" ∷ codes "when = \"position > 0 and orders == 0\"" ∷ codes "do = \"order\"" ∷ [])
    ++ text (codes "kind = \"limit\"" ∷ codes "quantity = \"0 - position\"" ∷ codes "price = \"close + 1\"" ∷ [])
    ++ text (codes "[[rules]]" ∷ codes "when = \"position == 0 and orders > 0\"" ∷ codes "do = \"cancel\"" ∷ [])

-- the numbers of the securities
unfoldable pub securities : List ℕ
securities = range_with_len 0 16

unfoldable pub plan_text : List ℕ
plan_text = settings_text ++ flat_map security_text securities ++ rules_text
