-- Which files have to be re-resolved that see others than before.
use Rattle.std.specs.Prelude.{◌≡◌, ◌≢◌, ◌⊎◌, ℕ, ◌<◌, ◌++◌, Bool, true, false, List, [], ◌∷◌, length, get_or, slice_get, Option, Some, None}
use Rattle.std.specs.List.{All, Contains}
use Rattle.proto_base.specs.Words.{word_key}
use Rattle.proto_names_table.specs.declared.ids.Meant.{Meant}
use Rattle.proto_names_affected.specs.Marking.{IsMarked}
use Rattle.proto_names_affected.specs.KindRows.{is_below_type}
use Rattle.proto_names_rules.specs.Joined.{joined, ArePlain}
use Rattle.proto_names_rules.specs.Linked.{is_package}
use Rattle.proto_names_rules.specs.Names.{Name, Word}
use Rattle.proto_names_table.specs.Search.{is_seen}
use Rattle.proto_names_table.specs.Tables.{names_of}
use Rattle.proto_names_table.specs.declared.table.Row.{Row}
use Rattle.proto_names_table.specs.declared.table.Table.{Table}

-- by the marks before a file was not seen, and by those now it is
abbrev pub IsNewlySeen : List Bool → List Bool → ℕ → Type 0
IsNewlySeen before now file = (get_or before file false ≡ false) × (get_or now file false ≡ true)

-- the name of a row is a package's
abbrev pub is_package_row : Option Row → Bool
is_package_row None = false
is_package_row (Some r) = is_package r.symbol.kind

-- so is the name of the row with this index
abbrev pub is_package_at : Table → ℕ → Bool
is_package_at t row = is_package_row (slice_get t.rows.items row)

-- a file that declares the name of a row is seen
abbrev pub is_seen_row : List Bool → Option Row → Bool
is_seen_row seen None = false
is_seen_row seen (Some r) = is_seen seen r

-- so is one that declares the name of the row with this index
abbrev pub is_seen_at : Table → List Bool → ℕ → Bool
is_seen_at t seen row = is_seen_row seen (slice_get t.rows.items row)

-- the key of the last word of the row's name is among these
abbrev pub HasLastWord : Table → List ℕ → ℕ → Type 0
HasLastWord t keys row =
    (front : Name) (word : Word) → ArePlain (front ++ word ∷ [])
    → get_or (names_of t) row [] ≡ joined (front ++ word ∷ []) → Contains keys (word_key word)

-- the name of a row of the table, if it does not stand right below a type's, is among these
-- packages, or the key of its last word among these keys
abbrev pub IsGathered : Table → List ℕ → List ℕ → ℕ → Type 0
IsGathered t packages keys row =
    row < length t.rows.items → is_below_type t row ≡ false
    → Contains packages row ⊎ HasLastWord t keys row

-- there are the packages and the keys that there were, and all packages are rows of the table
pub record AreMoreGathered (t : Table) (packages keys more_packages more_keys : List ℕ)
    : Type 0 where
  pub packages_stay : (row : ℕ) → Contains packages row → Contains more_packages row
  pub keys_stay : (key : ℕ) → Contains keys key → Contains more_keys key
  pub within : All (λ row. row < length t.rows.items) more_packages

-- none of these references begins with a word that has the key of the last word of the row's name
abbrev pub NoneBegins : Table → List Meant → ℕ → Type 0
NoneBegins t ms row =
    (front : Name) (word : Word) → ArePlain (front ++ word ∷ [])
    → get_or (names_of t) row [] ≡ joined (front ++ word ∷ [])
    → (m : Meant) → Contains ms m → m.first ≢ word_key word

-- the name of a row of the table, if it does not stand right below a type's, is one of a file's
-- own, or none of its references begins with a word of the key of its last word
abbrev pub IsOwnOrApart : Table → List ℕ → List Meant → ℕ → Type 0
IsOwnOrApart t own ms row =
    row < length t.rows.items → is_below_type t row ≡ false
    → Contains own row ⊎ NoneBegins t ms row

-- a file with these rows and these references, which sees others than before by these marks, still
-- sees what each reference means; and so it is with each name of a file that it newly sees
pub record IsKeptInSight (t : Table) (rows : List (List ℕ)) (own : List ℕ) (ms : List Meant)
    (before now : List Bool) : Type 0 where
  pub none_hidden : All (λ m. is_seen_at t now m.row ≡ true) ms
  pub none_shown : (file : ℕ) → IsNewlySeen before now file
      → All (IsOwnOrApart t own ms) (get_or rows file [])

-- the file is marked, or it is so
abbrev pub IsSightMarked : List Bool → Table → List (List ℕ) → List (List Meant)
    → List (List Bool) → List (List Bool) → ℕ → Type 0
IsSightMarked marks t rows meant before now file =
    IsMarked marks file
    ⊎ IsKeptInSight t rows (get_or rows file []) (get_or meant file []) (get_or before file [])
    (get_or now file [])
