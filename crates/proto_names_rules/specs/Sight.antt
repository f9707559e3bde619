-- When a file sees by second imports what it sees by first ones.
use Rattle.std.specs.Prelude.{◌≡◌, ◌↔◌, ℕ, true, List}
use Rattle.std.specs.List.{Contains}
use Rattle.proto_names_rules.specs.Linked.{ImportsAreOfFiles}
use Rattle.proto_names_rules.specs.Names.{Import, Sees, Workspace, sees}

-- the imports of a file are the same among both
abbrev pub SameImports : List Import → List Import → ℕ → Type 0
SameImports old new file =
    (i : Import) → i.from ≡ file → Contains old i ↔ Contains new i

-- its public imports are the same among both
abbrev pub SamePublic : List Import → List Import → ℕ → Type 0
SamePublic old new file =
    (i : Import) → i.from ≡ file → i.is_public ≡ true → Contains old i ↔ Contains new i

-- where a file's own imports are the same, and the public ones of each file that it saw, it sees
-- what it saw
abbrev pub SightIsKept : Type 0
SightIsKept =
    (old new : List Import) (f : ℕ) → SameImports old new f
    → ((g : ℕ) → Sees old f g → SamePublic old new g)
    → (g : ℕ) → Sees old f g ↔ Sees new f g

-- the same of the tests, in workspaces whose imports are between their files
abbrev pub SightIsTested : Type 0
SightIsTested =
    (w v : Workspace) → ImportsAreOfFiles w → ImportsAreOfFiles v
    → (f : ℕ) → SameImports w.imports v.imports f
    → ((g : ℕ) → Sees w.imports f g → SamePublic w.imports v.imports g)
    → (g : ℕ) → sees v f g ≡ sees w f g
