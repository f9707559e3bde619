-- What is shown under the new names of a rename, where nothing collides: below the target's parent
-- the target and its entry, elsewhere what has the name now.
use Rattle.std.specs.Prelude.{◌≡◌, ◌≢◌, ℕ, Bool, false, ◌&&◌, ◌||◌, if◌then◌else◌, List, [], ◌∷◌, ◌++◌, Option, Some, None}
use Rattle.std.specs.List.{Contains}
use Rattle.std.specs.Str.{bytes_eq}
use Rattle.proto_base.specs.Texts.{Text}
use Rattle.proto_names_rules.specs.declared.kind.Kind.{Kind}
use Rattle.proto_names_rules.specs.Edits.{Renaming, Collides, ren, shows_mapped, target}
use Rattle.proto_names_rules.specs.Linked.{IsLinked, IsRenaming}
use Rattle.proto_names_rules.specs.Names.{Symbol, Workspace, same_name, shows}
use Rattle.proto_edit_rename_laws.specs.Captures.{IsNewWord}

-- the old entry, under its new name
abbrev pub shows_entry : Workspace → ℕ → (Kind → Bool) → List Text → Option (Text × Text)
    → Text → Bool
shows_entry w f good scope None q = false
shows_entry w f good scope (Some p) q = bytes_eq q p.1 && shows w f good (scope ++ p.0 ∷ [])

-- the target or its entry, under its new name
abbrev pub shows_beside : Renaming → Workspace → ℕ → (Kind → Bool) → List Text → Text → Bool
shows_beside e w f good scope q =
    (bytes_eq q e.new && shows w f good (target e)) || shows_entry w f good scope e.entry q

-- right below the scope
abbrev pub shows_anew : Renaming → Workspace → ℕ → (Kind → Bool) → List Text → Text → Bool
shows_anew e w f good scope q =
    if same_name scope e.parent
    then shows_beside e w f good scope q
    else shows w f good (scope ++ q ∷ [])

-- something is declared under this name
abbrev pub IsDeclaredName : Workspace → List Text → Type 0
IsDeclaredName w name = (name ≢ []) × ((s : Symbol) × Contains w.symbols s × (s.name ≡ name))

-- Of what has a new name below a declared scope, only the target and its entry had another name.
abbrev pub ShownIsAnew : Type 0
ShownIsAnew = (e : Renaming) (w : Workspace)
    → IsLinked w
    → IsRenaming e w
    → (Collides e w → ⊥)
    → (scope : List Text)
    → IsDeclaredName w scope
    → (q : Text)
    → IsNewWord e q
    → (f : ℕ) (good : Kind → Bool)
    → shows_mapped e w f good (ren e scope ++ q ∷ []) ≡ shows_anew e w f good scope q
