-- Files that are put one after the other.
use Rattle.std.proofs.Common.{◌≡◌, ℕ, ◌+◌, ◌-◌, ◌<◌, Bool, true, false, cond, List, filter, [], ◌∷◌, ◌++◌, take, drop, Option, Some, None, option_map, String, Vec, string_bytes, bytes_eq, codes, refl, sym, ap, ◌∙◌}
use Rattle.std.specs.Global.{Global}
use Rattle.std.specs.String.{string_cmp}
use Rattle.std.specs.List.{flat_map, range_with_len}
use Rattle.std.specs.Map.{lookup}
use Rattle.std.specs.Ordering.{is_eq, nat_cmp}
use Rattle.std.specs.Cmp.Lexicographic.{slice_cmp}
use Rattle.std.specs.BTreeMap.{BTreeMap, Updates, get_by_text}
use Rattle.std.proofs.lemmas.Map.Text.{btree_map_updates_text}
use Rattle.lean_io.specs.Told.{Files}
use Rattle.lean_io.specs.MemFolder.{map_files}
use Rattle.lean_fixed.specs.declared.resolution.Resolution.TheVariants.{Minute}
use Rattle.lean_items.specs.declared.feed_key.FeedKind.TheVariants.{Equity}
use Rattle.feed_paths.specs.Paths.{path_of}
use Rattle.equity_csv.specs.declared.row.Row.{Row}
use Rattle.data_maker.specs.MadeFiles.{File, with_file, with_files, row_line, minute_files, with_days, days, is_workday, security_files, hours_file, plan_file, made_files, files_of}
use Rattle.data_maker.specs.Texts.{symbol_of, securities, hours_text, plan_text}
use Rattle.data_maker.specs.Walk.{seed, first_price}
use Rattle.data_maker.proofs.Ranges.{range-more}

map-cond : (b : Bool) (v : Vec ℕ Global) (x : Option (Vec ℕ Global))
    → option_map (λ (w : Vec ℕ Global). w.items) (cond b (Some v) x) ≡ cond b (Some v.items) (option_map (λ (w : Vec ℕ Global). w.items) x)
map-cond true v x = refl
map-cond false v x = refl

-- what a map tells after an insertion
pub files-put : (old new : BTreeMap (String Global) (Vec ℕ Global)) (path : String Global) (bytes : Vec ℕ Global)
    → Updates string_cmp old new path (Some bytes)
    → map_files new ≡ with_file (map_files old) (record { path = string_bytes path; bytes = bytes.items })
unfolding with_file
files-put old new path bytes u =
    λ i q. (ap (λ o. option_map (λ (w : Vec ℕ Global). w.items) o) (btree_map_updates_text (string_bytes path) old new (Some bytes) u q)
    ∙ map-cond (bytes_eq (string_bytes path) q) bytes (get_by_text old q)) i

-- the files of two lists
pub with-append : (files : Files) (first second : List File) → with_files files (first ++ second) ≡ with_files (with_files files first) second
with-append files [] second = refl
with-append files (file ∷ more) second = with-append (with_file files file) more second

-- the files of one number were put
pub parts-more : (part : ℕ → List File) (files new want : Files) (end a : ℕ) → a < end → new ≡ with_files files (part a)
    → with_files files (flat_map part (range_with_len a (end - a))) ≡ want
    → with_files new (flat_map part (range_with_len (a + 1) (end - (a + 1)))) ≡ want
parts-more part files new want end a h put before =
    ap (λ f. with_files f (flat_map part (range_with_len (a + 1) (end - (a + 1))))) put
    ∙ sym (with-append files (part a) (flat_map part (range_with_len (a + 1) (end - (a + 1)))))
    ∙ ap (λ r. with_files files (flat_map part r)) (sym (range-more end a h))
    ∙ before

-- the file of a day was put
pub day-put : (old new : Files) (path bytes symbol : List ℕ) (day : ℕ) (days : List ℕ) (rows left : List Row)
    → new ≡ with_file old (record { path = path; bytes = bytes })
    → path ≡ path_of (Equity symbol Minute) day
    → bytes ≡ flat_map row_line (take 390 rows)
    → left ≡ drop 390 rows
    → with_files new (minute_files symbol days left) ≡ with_files old (minute_files symbol (day ∷ days) rows)
day-put old new path bytes symbol day days rows left put at of rest =
    ap (λ f. with_files f (minute_files symbol days left)) put
    ∙ ap (λ p. with_files (with_file old (record { path = p; bytes = bytes })) (minute_files symbol days left)) at
    ∙ ap (λ b. with_files (with_file old (record { path = path_of (Equity symbol Minute) day; bytes = b })) (minute_files symbol days left)) of
    ∙ ap (λ rs. with_files (with_file old (record { path = path_of (Equity symbol Minute) day; bytes = flat_map row_line (take 390 rows) })) (minute_files symbol days rs)) rest

-- before the first day the files of a security are those of all days
pub security-begins : (files : Files) (symbol : List ℕ) (random price number security : ℕ)
    → symbol ≡ symbol_of security → random ≡ seed number security → price ≡ first_price security
    → with_days files symbol random price (filter is_workday (range_with_len 15985 12)) ≡ with_files files (security_files number security)
unfolding security_files days
security-begins files symbol random price number security s r p =
    ap (λ x. with_days files x random price days) s
    ∙ ap (λ x. with_days files (symbol_of security) x price days) r
    ∙ ap (λ x. with_days files (symbol_of security) (seed number security) x days) p

-- a day was passed
pub days-more : (files new want : Files) (symbol : List ℕ) (random price new_random new_price : ℕ) (end a : ℕ) → a < end
    → ((later : List ℕ) → with_days new symbol new_random new_price (filter is_workday later) ≡ with_days files symbol random price (filter is_workday (a ∷ later)))
    → with_days files symbol random price (filter is_workday (range_with_len a (end - a))) ≡ want
    → with_days new symbol new_random new_price (filter is_workday (range_with_len (a + 1) (end - (a + 1)))) ≡ want
days-more files new want symbol random price new_random new_price end a h passed before =
    passed (range_with_len (a + 1) (end - (a + 1)))
    ∙ ap (λ (r : List ℕ). with_days files symbol random price (filter is_workday r)) (sym (range-more end a h))
    ∙ before

-- nothing is told by a map without entries
pub files-none : (files : BTreeMap (String Global) (Vec ℕ Global)) → files.entries ≡ [] → map_files files ≡ (λ path. None)
files-none files e = λ i path. option_map (λ (w : Vec ℕ Global). w.items) (lookup (λ k. is_eq (slice_cmp nat_cmp path (string_bytes k))) (e i))

-- all files were put
pub all-put : (number : ℕ) (none first second third : Files) (hours_path hours plan_path plan : List ℕ)
    → none ≡ (λ path. None)
    → hours_path ≡ codes "market-hours/market-hours-database.json" → hours ≡ hours_text
    → plan_path ≡ codes "demo.toml" → plan ≡ plan_text
    → first ≡ with_file none (record { path = hours_path; bytes = hours })
    → second ≡ with_files first (flat_map (security_files number) securities)
    → third ≡ with_file second (record { path = plan_path; bytes = plan })
    → third ≡ files_of (made_files number)
unfolding made_files hours_file plan_file
all-put number none first second third hours_path hours plan_path plan n hp h pp p a b d =
    let parts = flat_map (security_files number) securities in
    d
    ∙ ap (λ f. with_file f (record { path = plan_path; bytes = plan })) b
    ∙ ap (λ x. with_file (with_files first parts) (record { path = x; bytes = plan })) pp
    ∙ ap (λ x. with_file (with_files first parts) (record { path = codes "demo.toml"; bytes = x })) p
    ∙ sym (with-append first parts (plan_file ∷ []))
    ∙ ap (λ f. with_files f (parts ++ plan_file ∷ [])) a
    ∙ ap (λ f. with_files (with_file f (record { path = hours_path; bytes = hours })) (parts ++ plan_file ∷ [])) n
    ∙ ap (λ x. with_files (with_file (λ path. None) (record { path = x; bytes = hours })) (parts ++ plan_file ∷ [])) hp
    ∙ ap (λ x. with_files (with_file (λ path. None) (record { path = codes "market-hours/market-hours-database.json"; bytes = x })) (parts ++ plan_file ∷ [])) h
