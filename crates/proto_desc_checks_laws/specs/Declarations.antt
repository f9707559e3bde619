-- What the blocks of a tree hold is declared, and a block's fields stand in order.
use Rattle.std.specs.Prelude.{◌≡◌, ◌⊎◌, ℕ, ◌<◌, true, List, [], ◌∷◌, ◌++◌, is_some}
use Rattle.std.specs.List.{AllPairs, Contains}
use Rattle.proto_text.specs.Tokens.{Lexeme}
use Rattle.proto_tree.specs.declared.piece.Extending.{Extending}
use Rattle.proto_tree.specs.declared.piece.Header.{Header}
use Rattle.proto_tree.specs.declared.piece.Header.TheVariants as header
use Rattle.proto_tree.specs.declared.piece.Heading.{Heading}
use Rattle.proto_tree.specs.declared.tree.Value.{Value as ValueParts}
use Rattle.proto_tree.specs.Tree.{Tree, Spells}
use Rattle.proto_tree.specs.Words.{classes_in}
use Rattle.proto_names_rules.specs.declared.kind.Kind.TheVariants.{Message, Entry, Enum, Service, Field, Oneof, Value, Method, Extension}
use Rattle.proto_names_rules.specs.Skeleton.{Source, Token, EntryOf}
use Rattle.proto_names_rules.specs.Tree.{Placed, file_placed, place}
use Rattle.proto_names_outline.specs.FromTree.{items_in}
use Rattle.proto_ast.specs.Parts.{BlockOf, FieldOf, blocks_in, fields_in, values_in}
use Rattle.proto_base.specs.declared.profile.Profile.{Profile}

-- a field is declared below a path, and the entry of a map field beside it
abbrev pub IsDeclaredField : List Placed → List (Source ℕ) → FieldOf → Type 0
IsDeclaredField declared path f =
    Contains declared (place path (Token f.name) Field)
    × (is_some f.map_key ≡ true → Contains declared (place path (EntryOf f.name) Entry))

-- an extension is declared below a path, as what it is
abbrev pub IsDeclaredExtension : List Placed → List (Source ℕ) → FieldOf → Type 0
IsDeclaredExtension declared path f = Contains declared (place path (Token f.name) Extension)

-- A block is declared: a message with its fields below it, a oneof and an enum with what they hold
-- beside them. Of an `extend` block, which is no declaration itself, its extensions are. No other
-- block has fields or values.
abbrev pub IsDeclared : List Placed → Header → Tree → Type 0
IsDeclared declared (header.Message h) within =
    (path : List (Source ℕ)) × Contains declared (place path (Token h.name) Message)
    × ((f : FieldOf) → Contains (fields_in within) f
    → IsDeclaredField declared (path ++ Token h.name ∷ []) f)
    × (values_in within ≡ [])
IsDeclared declared (header.Oneof h) within =
    (path : List (Source ℕ)) × Contains declared (place path (Token h.name) Oneof)
    × ((f : FieldOf) → Contains (fields_in within) f → IsDeclaredField declared path f)
    × (values_in within ≡ [])
IsDeclared declared (header.Enum h) within =
    (path : List (Source ℕ)) × Contains declared (place path (Token h.name) Enum)
    × ((v : ValueParts) → Contains (values_in within) v
    → Contains declared (place path (Token v.name) Value))
    × (fields_in within ≡ [])
IsDeclared declared (header.Service h) within =
    (path : List (Source ℕ)) × Contains declared (place path (Token h.name) Service)
    × (fields_in within ≡ []) × (values_in within ≡ [])
IsDeclared declared (header.Method s) within =
    (path : List (Source ℕ)) × Contains declared (place path (Token s.name) Method)
    × (fields_in within ≡ []) × (values_in within ≡ [])
IsDeclared declared (header.Extend e) within =
    (path : List (Source ℕ))
    × ((f : FieldOf) → Contains (fields_in within) f → IsDeclaredExtension declared path f)
    × (values_in within ≡ [])

-- Each block of a tree that was read is declared,
abbrev pub BlocksAreDeclared : Type 0
BlocksAreDeclared =
    (profile : Profile) (tree : Tree) (ls : List Lexeme) → Spells tree (classes_in profile 0 ls)
    → (b : BlockOf) → Contains (blocks_in tree) b
    → IsDeclared (file_placed (items_in tree)) b.header b.within

-- a field of a block is declared below a path: as a field, or as an extension in an `extend` block
abbrev pub IsDeclaredIn : List Placed → List (Source ℕ) → BlockOf → FieldOf → Type 0
IsDeclaredIn declared path b f =
    IsDeclaredField declared path f
    ⊎ ((e : Extending) × (b.header ≡ header.Extend e) × IsDeclaredExtension declared path f)

-- so each field of a block is,
abbrev pub FieldsAreDeclared : Type 0
FieldsAreDeclared =
    (profile : Profile) (tree : Tree) (ls : List Lexeme) → Spells tree (classes_in profile 0 ls)
    → (b : BlockOf) (f : FieldOf) → Contains (blocks_in tree) b → Contains (fields_in b.within) f
    → (path : List (Source ℕ)) × IsDeclaredIn (file_placed (items_in tree)) path b f

-- and each value, beside its enum.
abbrev pub ValuesAreDeclared : Type 0
ValuesAreDeclared =
    (profile : Profile) (tree : Tree) (ls : List Lexeme) → Spells tree (classes_in profile 0 ls)
    → (b : BlockOf) (v : ValueParts) → Contains (blocks_in tree) b → Contains (values_in b.within) v
    → (h : Heading) × (path : List (Source ℕ)) × (b.header ≡ header.Enum h)
    × Contains (file_placed (items_in tree)) (place path (Token h.name) Enum)
    × Contains (file_placed (items_in tree)) (place path (Token v.name) Value)

-- The name tokens of a block's fields rise.
abbrev pub FieldNamesRise : Type 0
FieldNamesRise =
    (profile : Profile) (tree : Tree) (ls : List Lexeme) → Spells tree (classes_in profile 0 ls)
    → (b : BlockOf) → Contains (blocks_in tree) b
    → AllPairs (λ f g. f.name < g.name) (fields_in b.within)
