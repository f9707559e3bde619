-- What a change of imports leaves of the flaws of a file: all of them, at their tokens.
use Rattle.std.specs.Prelude.{◌≡◌, ℕ, map}
use Rattle.proto_tree.specs.declared.piece.Statement.TheVariants as statement
use Rattle.proto_tree.specs.declared.tree.Reference.{Reference}
use Rattle.proto_tree.specs.Moved.{Move, move_reference, move_tree}
use Rattle.proto_tree.specs.Tree.{Tree, End, Leaf, Block}
use Rattle.proto_ast.specs.Scenes.{Scene, enum_meant, meant_by, text, value}
use Rattle.proto_desc_numbers.specs.declared.flaw.Flaw.{Flaw}
use Rattle.proto_desc_checks.specs.FileFlaws.{file_flaws, is_of_options}

-- the second scene reads at the other index of each token what the first reads at the token
pub record IsMoved (g : Move) (a b : Scene) : Type 0 where
  pub profile : a.profile ≡ b.profile
  pub version : a.is_proto3 ≡ b.is_proto3
  pub caps : a.cap ≡ b.cap
  pub texts : (t : ℕ) → text b (g t) ≡ text a t
  pub strings : (t : ℕ) → value b (g t) ≡ value a t
  pub enums : (r : Reference) → enum_meant b (move_reference g r) ≡ enum_meant a r
  pub options : (r : Reference)
      → is_of_options (meant_by b (move_reference g r)) ≡ is_of_options (meant_by a r)

-- a file without its imports
abbrev pub without_imports : Tree → Tree
without_imports End = End
without_imports (Leaf (statement.Import i) rest) = without_imports rest
without_imports (Leaf s rest) = Leaf s (without_imports rest)
without_imports (Block h opens within closes rest) =
    Block h opens within closes (without_imports rest)

-- the same flaw, at the other index of its token
abbrev pub reindexed_flaw : Move → Flaw → Flaw
reindexed_flaw g f = record { token = g f.token; kind = f.kind }

-- Where the rest of a file is that of another with its tokens moved, so are the flaws.
abbrev pub ImportsMoveFlaws : Type 0
ImportsMoveFlaws = (g : Move) (a b : Scene) (s t : Tree) → IsMoved g a b
    → without_imports t ≡ move_tree g (without_imports s)
    → file_flaws b t ≡ map (reindexed_flaw g) (file_flaws a s)
