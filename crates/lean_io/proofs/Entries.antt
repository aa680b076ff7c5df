use Rattle.std.proofs.Common.{ℕ, ◌+◌, ◌≡◌, ◌<◌, true, false, List, length, drop, get_or, Some, option_map, cond, refl, sym, ap, ◌∙◌, string_bytes, bytes_eq}
use Rattle.std.specs.Map.{lookup}
use Rattle.std.specs.Ordering.{is_eq, nat_cmp}
use Rattle.std.specs.Cmp.Lexicographic.{slice_cmp}
use Rattle.std.proofs.lemmas.List.{at_drop_more}
use Rattle.std.proofs.lemmas.Option.{slice_get-get_or}
use Rattle.std.proofs.lemmas.Slice.Eq.{bytes_eq-Decides}
use Rattle.std.proofs.lemmas.Map.Text.{is_eq-slice_cmp}
use Rattle.lean_io.specs.MemFolder.{Entry, entry_files, path_at, bytes_at}

-- the entries from a place on tell the file of the entry there, or else what those after it tell
files_from : (entries : List Entry) (path : List ℕ) (i : ℕ) (d : Entry) → i < length entries
    → entry_files (drop i entries) path ≡ option_map (λ v. v.items) (cond (bytes_eq path (string_bytes (get_or entries i d).0)) (Some (get_or entries i d).1) (lookup (λ k. is_eq (slice_cmp nat_cmp path (string_bytes k))) (drop (i + 1) entries)))
files_from entries path i d h =
    at_drop_more (λ es. entry_files es path) entries i d h
    ∙ ap (λ b. option_map (λ v. v.items) (cond b (Some (get_or entries i d).1) (lookup (λ k. is_eq (slice_cmp nat_cmp path (string_bytes k))) (drop (i + 1) entries)))) (is_eq-slice_cmp path (string_bytes (get_or entries i d).0))

-- an entry of the path, with none before it, is the path's file
pub files-found : (entries : List Entry) (path : List ℕ) (i : ℕ) (d : Entry) → i < length entries
    → entry_files entries path ≡ entry_files (drop i entries) path
    → bytes_eq path (string_bytes (get_or entries i d).0) ≡ true
    → entry_files entries path ≡ bytes_at entries i
files-found entries path i d h before at_place =
    before ∙ files_from entries path i d h ∙ rw (at_place, slice_get-get_or entries i d h) refl

-- an entry of another path is passed over
pub files-passed : (entries : List Entry) (path : List ℕ) (i : ℕ) (d : Entry) → i < length entries
    → entry_files entries path ≡ entry_files (drop i entries) path
    → bytes_eq path (string_bytes (get_or entries i d).0) ≡ false
    → entry_files entries path ≡ entry_files (drop (i + 1) entries) path
files-passed entries path i d h before at_place = before ∙ files_from entries path i d h ∙ rw at_place refl

-- its path is the path that was sought
pub path-found : (entries : List Entry) (path : List ℕ) (i : ℕ) (d : Entry) → i < length entries
    → bytes_eq path (string_bytes (get_or entries i d).0) ≡ true
    → path_at entries i ≡ Some path
path-found entries path i d h at_place =
    rw (slice_get-get_or entries i d h) (ap (λ (p : List ℕ). Some p) (sym ((bytes_eq-Decides path (string_bytes (get_or entries i d).0)).0 at_place)))
