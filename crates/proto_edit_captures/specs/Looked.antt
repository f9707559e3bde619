-- What is looked up in a link: the declaration of a name, and the entry of a map field.
use Rattle.std.specs.Prelude.{◌≡◌, ◌≢◌, ℕ, false, get_or, Some}
use Rattle.proto_base.specs.Texts.{Text}
use Rattle.proto_names_rules.specs.Grown.{At, at}
use Rattle.proto_names_rules.specs.declared.kind.Kind.{Kind}
use Rattle.proto_names_rules.specs.declared.kind.Kind.TheVariants.{Entry}
use Rattle.proto_names.specs.Linking.{LinkOf, NameOf, name_at, name_text}
use Rattle.proto_edit_rules.specs.Rename.{may_rename}
use Rattle.proto_edit_captures.specs.declared.rename_target.NoTarget.{NoTarget}
use Rattle.proto_edit_captures.specs.declared.rename_target.NoTarget.TheVariants.{Unknown, NotAllowed, NoMemory}

-- where a name of a link is declared first
abbrev pub first_place : NameOf → At
first_place n = at (get_or n.files 0 0) n.token

-- the name with this text is of the kind, and declared there
pub record HasDeclared (l : LinkOf) (text : Text) (kind : Kind) (place : At) : Type 0 where
  pub row : ℕ
  pub found : NameOf
  pub is : name_at l row ≡ Some found
  pub text_is : found.text ≡ text
  pub kind_is : found.kind ≡ kind
  pub place_is : first_place found ≡ place

-- some name has the text
abbrev pub HasText : LinkOf → Text → Type 0
HasText l text = (row : ℕ) × (name_text l row ≡ Some text)

-- the name is of a kind that may not be renamed
pub record HasUnmoved (l : LinkOf) (text : Text) : Type 0 where
  pub row : ℕ
  pub found : NameOf
  pub is : name_at l row ≡ Some found
  pub text_is : found.text ≡ text
  pub kind_is : may_rename found.kind ≡ false

-- why a link has no declaration of this name that may be renamed
abbrev pub IsNotDeclared : LinkOf → Text → NoTarget → Type 0
IsNotDeclared l name Unknown = (row : ℕ) → name_text l row ≢ Some name
IsNotDeclared l name NotAllowed = HasUnmoved l name
IsNotDeclared l name NoMemory = Unit {0}

-- an entry that stands at this token of this file
abbrev pub IsEntryThere : Kind → ℕ → ℕ → ℕ → ℕ → Type 0
IsEntryThere kind its_file its_token file token = (kind ≡ Entry)
    × (its_file ≡ file)
    × (its_token ≡ token)
