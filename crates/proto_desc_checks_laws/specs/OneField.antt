-- A token names one field, or an option of one field.
use Rattle.std.specs.Prelude.{◌≡◌, List}
use Rattle.std.specs.List.{Contains}
use Rattle.proto_text.specs.Tokens.{Lexeme}
use Rattle.proto_tree.specs.Tree.{Tree, Spells}
use Rattle.proto_tree.specs.Words.{classes_in}
use Rattle.proto_ast.specs.Parts.{BlockOf, FieldOf, OptionOf, blocks_in, fields_in}
use Rattle.proto_base.specs.declared.profile.Profile.{Profile}

-- two fields are of one statement, whether or not that is read as one of a oneof
pub record IsSameField (f g : FieldOf) : Type 0 where
  pub name : f.name ≡ g.name
  pub kind : f.kind ≡ g.kind
  pub number : f.number ≡ g.number
  pub options : f.options ≡ g.options

-- Fields of a tree whose names are one token are one field.
abbrev pub NamesAreOfOneField : Type 0
NamesAreOfOneField =
    (profile : Profile) (tree : Tree) (ls : List Lexeme) → Spells tree (classes_in profile 0 ls)
    → (b d : BlockOf) (f g : FieldOf) → Contains (blocks_in tree) b → Contains (blocks_in tree) d
    → Contains (fields_in b.within) f → Contains (fields_in d.within) g
    → f.name ≡ g.name → IsSameField f g

-- Fields of a tree that have options whose names are one token are one field.
abbrev pub OptionsAreOfOneField : Type 0
OptionsAreOfOneField =
    (profile : Profile) (tree : Tree) (ls : List Lexeme) → Spells tree (classes_in profile 0 ls)
    → (b d : BlockOf) (f g : FieldOf) (x y : OptionOf)
    → Contains (blocks_in tree) b → Contains (blocks_in tree) d
    → Contains (fields_in b.within) f → Contains (fields_in d.within) g
    → Contains f.options x → Contains g.options y → x.name ≡ y.name → IsSameField f g
