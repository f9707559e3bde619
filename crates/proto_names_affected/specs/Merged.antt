-- References by rising files: two lists of them as one.
use Rattle.std.specs.Prelude.{ℕ, ◌≤◌, Bool, false, nat_lt, if◌then◌else◌, List, [], ◌∷◌, ◌++◌, get_or}
use Rattle.std.specs.List.{AllPairs}
use Rattle.proto_names_table.specs.declared.ids.RefId.{RefId}

-- the file of the reference is one of those that are marked
abbrev pub is_of_marked_file : List Bool → RefId → Bool
is_of_marked_file marks r = get_or marks r.file false

-- the references stand by rising files
abbrev pub ReferencesAreRising : List RefId → Type 0
ReferencesAreRising rs = AllPairs (λ a b. a.file ≤ b.file) rs

-- the first references, as far as they are of files before this one
abbrev pub references_before : ℕ → List RefId → List RefId
references_before file [] = []
references_before file (r ∷ rs) = if nat_lt r.file file then r ∷ references_before file rs else []

-- the references behind these
abbrev pub references_from : ℕ → List RefId → List RefId
references_from file [] = []
references_from file (r ∷ rs) = if nat_lt r.file file then references_from file rs else r ∷ rs

-- two lists by rising files as one: before each reference of the first those of the second that
-- are of earlier files
abbrev pub merged : List RefId → List RefId → List RefId
merged [] ys = ys
merged (x ∷ xs) ys = references_before x.file ys ++ x ∷ merged xs (references_from x.file ys)
