-- The place of an added import, by the last `;` of each kind.
use Rattle.std.specs.Prelude.{ℕ, suc, Option, Some, None}
use Rattle.proto_tree.specs.declared.piece.Statement.{Statement}
use Rattle.proto_tree.specs.declared.piece.Statement.TheVariants as statement
use Rattle.proto_tree.specs.Tree.{Tree, End, Leaf, Block}
use Rattle.proto_edit_statements.specs.FieldPlaces.{or_else}
use Rattle.proto_edit_statements.specs.declared.import_places.LastEnds.{LastEnds}

-- with one statement more
abbrev pub with_statement : LastEnds → Statement → LastEnds
with_statement e (statement.Syntax s) = record {
  syntax = Some s.semicolon;
  packaged = e.packaged;
  import = e.import;
}
with_statement e (statement.Package p) = record {
  syntax = e.syntax;
  packaged = Some p.semicolon;
  import = e.import;
}
with_statement e (statement.Import i) = record {
  syntax = e.syntax;
  packaged = e.packaged;
  import = Some i.semicolon;
}
with_statement e _ = e

-- the last of each kind of a tree, which follow on others
abbrev pub ends_in : LastEnds → Tree → LastEnds
ends_in e End = e
ends_in e (Leaf s rest) = ends_in (with_statement e s) rest
ends_in e (Block h i within j rest) = ends_in e rest

-- the `;` of the syntax, of the package and of the last import of a file
abbrev pub ends_of : Tree → LastEnds
ends_of t = ends_in (record { syntax = None; packaged = None; import = None }) t

-- that of the import; with none, of the package; with neither, of the syntax
abbrev pub behind_all : LastEnds → Option ℕ
behind_all e = or_else (or_else e.import e.packaged) e.syntax

-- the token behind a `;`; the first one, where there is none
abbrev pub place_behind : Option ℕ → ℕ
place_behind None = 0
place_behind (Some i) = suc i
