-- How a reference begins that a rename captures.
use Rattle.std.specs.Prelude.{◌≡◌, ℕ, ◌<◌, [], ◌∷◌, ◌++◌, length, take, Some}
use Rattle.std.specs.List.{Contains}
use Rattle.proto_base.specs.Texts.{Text}
use Rattle.proto_names_rules.specs.Edits.{Renaming, Collides, IsCaptured, target}
use Rattle.proto_names_rules.specs.Linked.{IsLinked, IsRenaming}
use Rattle.proto_names_rules.specs.Names.{Name, Reference, Symbol, Word, Workspace, hit}
use Rattle.proto_names_rules.specs.Skeleton.{IsWoven, Skeleton, Used, reference_of, workspace_of}

-- each front of the scope is declared, but for the empty one
abbrev pub IsDeclaredScope : Workspace → Reference → Type 0
IsDeclaredScope w r =
    (front back : Name) → front ++ back ≡ r.scope → 0 < length front
    → (u : Symbol) × Contains w.symbols u × (u.name ≡ front)

-- the first word of the reference is
pub data BeginsSo (e : Renaming) (w : Workspace) (r : Reference) : Type 0 where
  -- the new word,
  by_new : take 1 r.words ≡ e.new ∷ [] → BeginsSo e w r
  -- or the new word of the entry that goes along,
  by_entry : (p : Word × Word) → e.entry ≡ Some p → take 1 r.words ≡ p.1 ∷ [] → BeginsSo e w r
  -- or the old word, which at its hit stands for what is renamed
  by_old : (k : ℕ) → hit w r ≡ Some k → take 1 r.words ≡ e.old ∷ []
      → take k r.scope ++ take 1 r.words ≡ target e → BeginsSo e w r

-- so it is with each reference in declared scopes that a rename without a collision captures
abbrev pub CapturesBeginSo : Type 0
CapturesBeginSo =
    (e : Renaming) (w : Workspace) → IsLinked w → IsRenaming e w → (Collides e w → ⊥)
    → (r : Reference) → IsDeclaredScope w r → IsCaptured e w r → BeginsSo e w r

-- the scopes of references are declared in what trees give
abbrev pub ScopesAreDeclared : Type 0 → Type 0
ScopesAreDeclared X =
    (text : X → Text) (entry : Word → Word) (k : Skeleton X) → IsWoven k
    → (u : Used X) → Contains k.used u
    → IsDeclaredScope (workspace_of text entry k) (reference_of text entry u)
