-- The tokens of what a tree declares and of its references, by their roles.
use Rattle.std.specs.Prelude.{◌≡◌, ℕ, ◌<◌, List, ◌∷◌, ◌++◌, length, get_or, Some}
use Rattle.std.specs.List.{Contains}
use Rattle.proto_base.specs.declared.profile.Profile.{Profile}
use Rattle.proto_text.specs.Tokens.{Lexeme}
use Rattle.proto_tree.specs.References.{word_token}
use Rattle.proto_tree.specs.Roles.{HasRole, names, refers}
use Rattle.proto_tree.specs.Tree.{Tree, Spells}
use Rattle.proto_tree.specs.Words.{classes_in}
use Rattle.proto_names_rules.specs.Skeleton.{Used}
use Rattle.proto_names_rules.specs.Tree.{Placed, file_placed}
use Rattle.proto_names_outline.specs.FromTree.{file_names, items_in}
use Rattle.proto_names_outline.specs.Listing.{last_token, whole}

-- The token of a declaration is a name,
abbrev pub DeclaredTokensAreNames : Type 0
DeclaredTokensAreNames =
    (profile : Profile) (tree : Tree) (ls : List Lexeme) → Spells tree (classes_in profile 0 ls)
    → (p : Placed) → Contains (file_placed (items_in tree)) p
    → (token : ℕ) → last_token (whole p) ≡ Some token → HasRole tree names token

-- each token of a reference's words refers,
abbrev pub UsedTokensRefer : Type 0
UsedTokensRefer =
    (profile : Profile) (tree : Tree) (ls : List Lexeme) → Spells tree (classes_in profile 0 ls)
    → (u : Used ℕ) → Contains (file_names tree).used u
    → (token : ℕ) → Contains u.tokens token → HasRole tree refers token

-- so none is both.
abbrev pub NamesAreNoUses : Type 0
NamesAreNoUses =
    (profile : Profile) (tree : Tree) (ls : List Lexeme) → Spells tree (classes_in profile 0 ls)
    → (p : Placed) → Contains (file_placed (items_in tree)) p
    → (token : ℕ) → last_token (whole p) ≡ Some token
    → (u : Used ℕ) → Contains (file_names tree).used u → Contains u.tokens token → ⊥

-- A token is one word of one reference.
abbrev pub TokensAreUsedOnce : Type 0
TokensAreUsedOnce =
    (profile : Profile) (tree : Tree) (ls : List Lexeme) → Spells tree (classes_in profile 0 ls)
    → (u v : Used ℕ) → Contains (file_names tree).used u → Contains (file_names tree).used v
    → (xs ys zs ws : List ℕ) (token : ℕ)
    → u.tokens ≡ xs ++ token ∷ ys → v.tokens ≡ zs ++ token ∷ ws → (u ≡ v) × (xs ≡ zs)

-- Each word of a reference stands at the token of its number.
abbrev pub UsedWordsStandApart : Type 0
UsedWordsStandApart =
    (profile : Profile) (tree : Tree) (ls : List Lexeme) → Spells tree (classes_in profile 0 ls)
    → (u : Used ℕ) → Contains (file_names tree).used u
    → (number other : ℕ) → number < length u.tokens
    → get_or u.tokens number other ≡ word_token u.first u.is_absolute number
