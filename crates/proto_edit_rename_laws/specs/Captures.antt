-- A captured reference begins, as rewritten, with the new word or the new entry's.
use Rattle.std.specs.Prelude.{◌≡◌, ◌≢◌, ◌⊎◌, ℕ, List, [], ◌∷◌, ◌++◌, take, Some}
use Rattle.std.specs.List.{Contains}
use Rattle.proto_base.specs.Texts.{Text}
use Rattle.proto_names_rules.specs.Edits.{Renaming, Collides, IsCaptured, rewritten}
use Rattle.proto_names_rules.specs.Linked.{IsLinked, IsRenaming}
use Rattle.proto_names_rules.specs.Names.{Reference, Symbol, Workspace, hit}

-- each front of the scope is declared
abbrev pub HasScope : Workspace → Reference → Type 0
HasScope w r = (a b : List Text)
    → a ++ b ≡ r.scope
    → a ≢ []
    → (s : Symbol) × Contains w.symbols s × (s.name ≡ a)

-- the new name, or that of the new entry
abbrev pub IsNewWord : Renaming → Text → Type 0
IsNewWord e q = (q ≡ e.new) ⊎ ((p : Text × Text) × (e.entry ≡ Some p) × (q ≡ p.1))

-- In linked files a captured reference begins, as rewritten, with such a word.
abbrev pub CapturesBeginAnew : Type 0
CapturesBeginAnew = (e : Renaming) (w : Workspace) (r : Reference) (k : ℕ)
    → IsLinked w
    → IsRenaming e w
    → (Collides e w → ⊥)
    → HasScope w r
    → hit w r ≡ Some k
    → IsCaptured e w r
    → (q : Text) × (take 1 (rewritten e (take k r.scope) r.words) ≡ q ∷ []) × IsNewWord e q
