-- Two scenes that read the same at moved tokens.
use Rattle.std.specs.Prelude.{◌≡◌, ◌≢◌, ℕ, List, ◌++◌, map, option_map, slice_get}
use Rattle.std.specs.List.{Contains}
use Rattle.proto_tree.specs.declared.tree.Reference.{Reference}
use Rattle.proto_tree.specs.Moved.{Move, move_reference}
use Rattle.proto_ast.specs.Scenes.{MeantOf, Scene, meant_by}
use Rattle.proto_desc_checks_laws.specs.Imports.{IsMoved}

-- the second scene reads at moved tokens what the first reads, and
-- moved references mean the same names
pub record IsMovedScene (g : Move) (a b : Scene) : Type 0 where
  pub same : IsMoved g a b
  pub names : (r : Reference)
      → option_map (λ m. m.name) (meant_by b (move_reference g r))
      ≡ option_map (λ m. m.name) (meant_by a r)

-- what a reference means, whose first token is another
abbrev pub move_meant : Move → MeantOf → MeantOf
move_meant g m = record { token = g m.token; name = m.name; enum = m.enum }

-- The second scene has each token of the first at its moved index, and what the references of the
-- first mean; others of its references begin at tokens of its own.
pub record HasTokens (g : Move) (a b : Scene) : Type 0 where
  pub profile : a.profile ≡ b.profile
  pub version : a.is_proto3 ≡ b.is_proto3
  pub caps : a.cap ≡ b.cap
  pub apart : (i j : ℕ) → g i ≡ g j → i ≡ j
  pub stays : (i : ℕ) → slice_get b.lexemes (g i) ≡ slice_get a.lexemes i
  pub front : List MeantOf
  pub more : List MeantOf
  pub back : List MeantOf
  pub was : a.means ≡ front ++ back
  pub is : b.means ≡ map (move_meant g) front ++ (more ++ map (move_meant g) back)
  pub own : (m : MeantOf) → Contains more m → (i : ℕ) → m.token ≢ g i

-- So it reads the same.
abbrev pub ScenesAreMoved : Type 0
ScenesAreMoved = (g : Move) (a b : Scene) → HasTokens g a b → IsMovedScene g a b
