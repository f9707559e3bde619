-- Where some files are edited and some are re-resolved, which are marked: what is then known of
-- all others.
use Rattle.std.specs.Prelude.{◌≡◌, ℕ, ◌<◌, Bool, true, false, List, [], ◌∷◌, ◌++◌, get_or, length, Some}
use Rattle.std.specs.List.{Contains, AllPairs}
use Rattle.proto_names_rules.specs.Linked.{AreApart, IsLinked, IsNested}
use Rattle.proto_names_rules.specs.Names.{Name, Reference, Symbol, Word, Workspace, may_resolve_to, meaning, sees}
use Rattle.proto_names_rules.specs.Kept.{Declares, DifferAt, IsFlawless, may_fit}

-- the file is not marked
abbrev pub IsUnmarked : List Bool → ℕ → Type 0
IsUnmarked marks file = get_or marks file false ≡ false

-- the name is empty, or the file declares it
abbrev pub IsScopeOf : Workspace → ℕ → Name → Type 0
IsScopeOf w file name =
    0 < length name → (u : Symbol) × Contains w.symbols u × (u.name ≡ name) × (u.file ≡ file)

-- the scope of each reference is one of its own file
abbrev pub ScopesAreOwn : Workspace → Type 0
ScopesAreOwn w = (r : Reference) → Contains w.references r → IsScopeOf w r.file r.scope

-- files at these places are edited, and these are marked; a file that is not marked
pub record AreMarked (key : Word → ℕ) (places : List ℕ) (w v : Workspace) (marks : List Bool)
    : Type 0 where
  pub edited : (file : ℕ) → Contains places file → get_or marks file false ≡ true
  -- has no reference to a type or an extension whose file it sees no more,
  pub none_hidden : (r : Reference) (s : Symbol) → Contains w.references r
      → IsUnmarked marks r.file → meaning w r ≡ Some s.name → Contains w.symbols s
      → may_resolve_to r.wants s.kind ≡ true → sees w r.file s.file ≡ true
      → sees v r.file s.file ≡ true
  -- none to one that went,
  pub none_gone : (r : Reference) (s : Symbol) → Contains w.references r → IsUnmarked marks r.file
      → meaning w r ≡ Some s.name → Contains w.symbols s → Contains places s.file
      → may_resolve_to r.wants s.kind ≡ true → Contains v.symbols s
  -- none whose first word has the key of the last word of a name that may fit there and that came
  -- right below the empty name or one that the file declares,
  pub none_came : (r : Reference) (first : Word) (rest : List Word) → Contains w.references r
      → IsUnmarked marks r.file → r.words ≡ first ∷ rest
      → (s : Symbol) (front : Name) (last : Word) → Contains v.symbols s
      → Contains places s.file → may_fit r.wants s.kind ≡ true → s.name ≡ front ++ last ∷ []
      → key last ≡ key first → IsScopeOf v r.file front → Contains w.symbols s
  -- and none whose first word has the key of such a name in a file that it sees and did not see,
  -- unless it declares that name itself
  pub none_shown : (r : Reference) (first : Word) (rest : List Word) → Contains w.references r
      → IsUnmarked marks r.file → r.words ≡ first ∷ rest
      → (s : Symbol) (front : Name) (last : Word) → Contains v.symbols s
      → sees v r.file s.file ≡ true → sees w r.file s.file ≡ false → may_fit r.wants s.kind ≡ true
      → s.name ≡ front ++ last ∷ [] → key last ≡ key first → IsScopeOf v r.file front
      → Declares v r.file s

-- then what the references of these files mean is the same
abbrev pub UnmarkedMeanTheSame : Type 0
UnmarkedMeanTheSame =
    (key : Word → ℕ) (places : List ℕ) (w v : Workspace) (marks : List Bool)
    → IsLinked w → IsNested v.symbols → ScopesAreOwn v → DifferAt places w v
    → AreMarked key places w v marks
    → (r : Reference) → Contains v.references r → IsUnmarked marks r.file
    → meaning v r ≡ meaning w r

-- and the second workspace is linked, where no name clashes and the references of marked files are
-- flawless
abbrev pub MarkedDecide : Type 0
MarkedDecide =
    (key : Word → ℕ) (places : List ℕ) (w v : Workspace) (marks : List Bool)
    → IsLinked w → IsNested v.symbols → ScopesAreOwn v → AllPairs AreApart v.symbols
    → DifferAt places w v → AreMarked key places w v marks
    → ((r : Reference) → Contains v.references r → get_or marks r.file false ≡ true
    → IsFlawless v r)
    → IsLinked v
