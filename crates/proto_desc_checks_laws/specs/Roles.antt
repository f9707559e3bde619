-- What sentences and options read besides names stands at tokens of other roles.
use Rattle.std.specs.Prelude.{◌≡◌, ◌⊎◌, ℕ, ◌+◌, Bool, true, false, List, codes}
use Rattle.std.specs.List.{Contains}
use Rattle.proto_text.specs.Tokens.{Lexeme}
use Rattle.proto_tree.specs.declared.tree.Constant.{Constant}
use Rattle.proto_tree.specs.declared.tree.Constant.TheVariants as constant
use Rattle.proto_tree.specs.declared.tree.Value.{Value}
use Rattle.proto_tree.specs.Roles.{HasRole, Role, is_number, is_scalar, is_value, labels, names, names_option, refers}
use Rattle.proto_tree.specs.Tree.{Tree, Spells}
use Rattle.proto_tree.specs.Words.{classes_in}
use Rattle.proto_ast.specs.Options.{is_named}
use Rattle.proto_ast.specs.Parts.{BlockOf, FieldOf, OptionOf, blocks_in, fields_in, values_in}
use Rattle.proto_ast.specs.Scenes.{Scene, text}
use Rattle.proto_desc_checks_laws.specs.Renamed.{asked_tokens}
use Rattle.proto_base.specs.declared.profile.Profile.{Profile}

-- ---- options

-- the value of an option, the token of whose name is given, stands at a token of its role: a word
-- two tokens behind the name, or a number
abbrev pub ValueHasRole : Tree → ℕ → Constant → Type 0
ValueHasRole tree name (constant.Word w) = HasRole tree is_value w × (name + 2 ≡ w)
ValueHasRole tree name (constant.Number n) = HasRole tree is_number n.number
ValueHasRole tree name (constant.Text j) = Unit {0}

-- The options of fields have names, and words or numbers for values.
abbrev pub FieldOptionsHaveRoles : Type 0
FieldOptionsHaveRoles =
    (profile : Profile) (tree : Tree) (ls : List Lexeme) → Spells tree (classes_in profile 0 ls)
    → (b : BlockOf) (f : FieldOf) (o : OptionOf)
    → Contains (blocks_in tree) b → Contains (fields_in b.within) f → Contains f.options o
    → HasRole tree names_option o.name × ValueHasRole tree o.name o.value

-- The numbers of enums' values are numbers.
abbrev pub ValueNumbersAreNumbers : Type 0
ValueNumbersAreNumbers =
    (profile : Profile) (tree : Tree) (ls : List Lexeme) → Spells tree (classes_in profile 0 ls)
    → (b : BlockOf) (v : Value) → Contains (blocks_in tree) b → Contains (values_in b.within) v
    → HasRole tree is_number v.number.number

-- ---- the tokens that sentences read besides names

-- the roles of tokens that sentences read besides names, but for words that are values
abbrev pub is_asked : Role → Bool
is_asked labels = true
is_asked is_scalar = true
is_asked is_number = true
is_asked names_option = true
is_asked _ = false

-- a token is the word of an option that is no default
pub record IsOtherValue (scene : Scene) (tree : Tree) (token : ℕ) : Type 0 where
  pub option : OptionOf
  pub name : HasRole tree names_option option.name
  pub value : HasRole tree is_value token
  pub behind : option.name + 2 ≡ token
  pub no_default : is_named (text scene) (codes "default") option ≡ false

-- Each is a label, a scalar type, a number, an option's name, or the value of an option that is no
-- default.
abbrev pub AskedTokensHaveRoles : Type 0
AskedTokensHaveRoles =
    (profile : Profile) (scene : Scene) (tree : Tree) (ls : List Lexeme)
    → Spells tree (classes_in profile 0 ls) → (token : ℕ) → Contains (asked_tokens scene tree) token
    → ((role : Role) × (is_asked role ≡ true) × HasRole tree role token)
    ⊎ IsOtherValue scene tree token

-- ---- what a rename may change is not among them

-- the roles of tokens that a rename may change, but for defaults
abbrev pub is_of_declarations : Role → Bool
is_of_declarations names = true
is_of_declarations refers = true
is_of_declarations _ = false

-- Names and words of references are not asked for,
abbrev pub NamesAreNotAsked : Type 0
NamesAreNotAsked =
    (profile : Profile) (scene : Scene) (tree : Tree) (ls : List Lexeme)
    → Spells tree (classes_in profile 0 ls)
    → (role : Role) (token : ℕ) → is_of_declarations role ≡ true → HasRole tree role token
    → Contains (asked_tokens scene tree) token → ⊥

-- and no words that are defaults.
abbrev pub DefaultsAreNotAsked : Type 0
DefaultsAreNotAsked =
    (profile : Profile) (scene : Scene) (tree : Tree) (ls : List Lexeme)
    → Spells tree (classes_in profile 0 ls)
    → (b : BlockOf) (f : FieldOf) (o : OptionOf)
    → Contains (blocks_in tree) b → Contains (fields_in b.within) f → Contains f.options o
    → is_named (text scene) (codes "default") o ≡ true
    → (word : ℕ) → o.value ≡ constant.Word word → Contains (asked_tokens scene tree) word → ⊥
