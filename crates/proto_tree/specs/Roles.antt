-- What a token is to the grammar, by what its place in the tree wants.
use Rattle.std.specs.Prelude.{◌≡◌, ℕ, ◌<◌, List, length}
use Rattle.std.specs.List.{Contains}
use Rattle.proto_text.specs.Tokens.{Lexeme}
use Rattle.proto_tree.specs.declared.class.Class.TheVariants as class
use Rattle.proto_tree.specs.declared.class.Expected.{Expected}
use Rattle.proto_tree.specs.declared.class.Expected.TheVariants as want
use Rattle.proto_tree.specs.Flat.{Mark}
use Rattle.proto_tree.specs.Tree.{Tree, Spells, flat}
use Rattle.proto_base.specs.declared.profile.Profile.{Profile}
use Rattle.proto_base.specs.declared.profile.Profile.TheVariants as profile
use Rattle.proto_tree.specs.Words.{classes_in}

-- A token names what is declared, is a word of a reference or of the name of an extension, names an
-- option or is a word behind such a name or in a value in braces, is a word that is an option's
-- value, a label, a scalar type, a number, or something else.
pub data Role : Type 0 where
  names : Role
  refers : Role
  names_option : Role
  is_value : Role
  labels : Role
  is_scalar : Role
  is_number : Role
  is_other : Role

-- the role of a token by what its place wants
abbrev pub role_of : Expected → Role
role_of want.Name = names
role_of want.ValueName = names
role_of (want.One class.Name) = refers
role_of want.Word = refers
role_of want.OptionName = names_option
role_of want.Constant = is_value
role_of want.Label = labels
role_of (want.One class.Scalar) = is_scalar
role_of (want.One class.Number) = is_number
role_of _ = is_other

-- the token stands in the tree where one of this role is wanted
abbrev pub HasRole : Tree → Role → ℕ → Type 0
HasRole tree role token =
    (m : Mark) × Contains (flat tree) m × (m.at ≡ token) × (role_of m.want ≡ role)

-- A token that has a role in a tree is one of the text.
abbrev pub RolesAreOfTokensIn : Profile → Type 0
RolesAreOfTokensIn p =
    (tree : Tree) (ls : List Lexeme) (role : Role) (token : ℕ) → Spells tree (classes_in p 0 ls)
    → HasRole tree role token → token < length ls

-- the same in the core language
abbrev pub RolesAreOfTokens : Type 0
RolesAreOfTokens = RolesAreOfTokensIn profile.Core

-- Each token of the text has a role.
abbrev pub TokensHaveRolesIn : Profile → Type 0
TokensHaveRolesIn p =
    (tree : Tree) (ls : List Lexeme) (token : ℕ) → Spells tree (classes_in p 0 ls)
    → token < length ls
    → (role : Role) × HasRole tree role token

-- the same in the core language
abbrev pub TokensHaveRoles : Type 0
TokensHaveRoles = TokensHaveRolesIn profile.Core

-- It has no other one.
abbrev pub RolesAreOneIn : Profile → Type 0
RolesAreOneIn p =
    (tree : Tree) (ls : List Lexeme) (a b : Role) (token : ℕ) → Spells tree (classes_in p 0 ls)
    → HasRole tree a token → HasRole tree b token → a ≡ b

-- the same in the core language
abbrev pub RolesAreOne : Type 0
RolesAreOne = RolesAreOneIn profile.Core
