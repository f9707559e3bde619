-- The custom options of a tree where its tokens are moved, and where statements come in or go.
use Rattle.std.specs.List.{Contains}
use Rattle.std.specs.Prelude.{◌≡◌, ℕ, List, [], length, map, Option}
use Rattle.proto_base.specs.Texts.{Text}
use Rattle.proto_base.specs.declared.profile.Profile.{Profile}
use Rattle.proto_custom_options.specs.CustomOptions.{CustomOf, custom_tokens, custom_words, customs_below, customs_in}
use Rattle.proto_edit_rename_laws.specs.Imports.{without_imports}
use Rattle.proto_text.specs.Segments.{moved}
use Rattle.proto_text.specs.Tokens.{lexeme_at}
use Rattle.proto_text.specs.declared.lexer.Token.{Token}
use Rattle.proto_tree.specs.Moved.{Move, move_custom, move_tree}
use Rattle.proto_tree.specs.Tree.{Tree, End}
use Rattle.proto_tree.specs.declared.context.Context.TheVariants as context
use Rattle.proto_tree.specs.declared.piece.Statement.{Statement}
use Rattle.proto_tree.specs.declared.tree.Custom.{Custom}
use Rattle.proto_edit_rules.specs.Statements.{first_token}
use Rattle.proto_edit_statement_laws.specs.Deletions.{IsDeleted, own, reservation_place}
use Rattle.proto_edit_statement_laws.specs.Exchanges.{IsExchanged}
use Rattle.proto_edit_statement_laws.specs.Lists.{HasMore, IsAny}

-- ---- tokens that move

-- a custom option by other tokens
abbrev pub move_custom_of : Move → CustomOf → CustomOf
move_custom_of g c = record { message = c.message; custom = move_custom g c.custom }

-- Its words, and the tokens of its path and of its value, are moved ones.
abbrev pub OptionsMoveTokens : Type 0
OptionsMoveTokens = (g : Move) (c : Custom)
    → (custom_words (move_custom g c) ≡ map g (custom_words c))
    × (custom_tokens (move_custom g c) ≡ map g (custom_tokens c))

-- A moved tree has the options of the first, by moved tokens.
abbrev pub TreesMoveOptions : Type 0
TreesMoveOptions = (g : Move) (t : Tree)
    → customs_in (move_tree g t) ≡ map (move_custom_of g) (customs_in t)

-- So has one that besides its imports is the first, moved.
abbrev pub ImportsMoveOptions : Type 0
ImportsMoveOptions = (g : Move) (s t : Tree)
    → without_imports t ≡ move_tree g (without_imports s)
    → customs_in t ≡ map (move_custom_of g) (customs_in s)

-- ---- statements that come in

-- A tree into which items are put has the options of the first, moved, and those of the items at one
-- place.
abbrev pub OptionsComeIn : Type 0
OptionsComeIn = (g : Move) (b t u : Tree)
    → IsExchanged g End b context.Start t u
    → HasMore IsAny (map (move_custom_of g) (customs_in t)) (customs_in u)

-- Where the items have none, it has the moved ones alone.
abbrev pub NoOptionsComeIn : Type 0
NoOptionsComeIn = (g : Move) (b t u : Tree)
    → ((message : Text) → customs_below message b ≡ [])
    → IsExchanged g End b context.Start t u
    → customs_in u ≡ map (move_custom_of g) (customs_in t)

-- ---- deletions

-- an option is one of the first tree, its tokens moved back by the one map and on by the other
pub record IsKeptOption (g k : Move) (t : Tree) (d : CustomOf) : Type 0 where
  pub middle : CustomOf
  pub was : Contains (customs_in t) (move_custom_of g middle)
  pub is : d ≡ move_custom_of k middle

-- Each option after a deletion was there before it.
abbrev pub DeletionsKeepOptions : Type 0
DeletionsKeepOptions =
    (profile : Profile) (text : Text) (tokens : List Token) (t : Tree) (s : Statement)
    (o : Option ℕ) (number : ℕ) (name result : Text) (after : List Token) (u : Tree)
    → IsDeleted profile text tokens t s o number name result after u
    → (d : CustomOf) → Contains (customs_in u) d
    → IsKeptOption (moved (first_token s) (first_token s) (length (own s (map (lexeme_at text) tokens))))
    (moved (reservation_place s o) (reservation_place s o) 6) t d
