-- The deletion of a field: where its statement stands, what comes in
-- its place, and what is read then.
use Rattle.std.specs.Prelude.{◌≡◌, ℕ, suc, ◌-◌, ◌<◌, ◌^◌, List, [], ◌∷◌, ◌++◌, take, drop, map, Option, Some, None}
use Rattle.std.specs.Str.{IsUtf8}
use Rattle.proto_base.specs.Texts.{Text}
use Rattle.proto_base.specs.declared.profile.Profile.{Profile}
use Rattle.proto_text.specs.declared.class.Class.TheVariants.{Letter}
use Rattle.proto_text.specs.declared.lexer.Token.{Token}
use Rattle.proto_text.specs.Edits.{Puts}
use Rattle.proto_text.specs.Pieces.{IsRun}
use Rattle.proto_text.specs.Tokens.{Lexeme, lexeme_at}
use Rattle.proto_tree.specs.declared.piece.Statement.{Statement}
use Rattle.proto_tree.specs.Reads.{ReadsIn}
use Rattle.proto_tree.specs.Tree.{Tree, End, Leaf}
use Rattle.proto_edit_statement_laws.specs.Insertions.{IsInsertion}
use Rattle.proto_edit_statement_laws.specs.Statements.{reservation, reservation_tokens}
use Rattle.proto_edit_rules.specs.DeleteField.{IsFieldOf, StandsAt, deletion}
use Rattle.proto_edit_rules.specs.Statements.{first_token, next_token}

-- ---- what is read

-- the tokens of a statement, among those of its text
abbrev pub own : Statement → List Lexeme → List Lexeme
own s ls = take (next_token s - first_token s) (drop (first_token s) ls)

-- the tokens of a text without those of a statement
abbrev pub without : Statement → List Lexeme → List Lexeme
without s ls = take (first_token s) ls ++ drop (next_token s) ls

-- where the reservation stands among the tokens without the statement: in its
-- place, or behind the `}` of its oneof
abbrev pub reservation_place : Statement → Option ℕ → ℕ
reservation_place s None = first_token s
reservation_place s (Some close) = suc close - (next_token s - first_token s)

-- A deletion is of one tree, which has neither the field nor the reservation: the old tree is that
-- tree with the field put in, and the new one is that tree with the reservation put in.
pub record IsDeleted
    (profile : Profile) (text : Text) (tokens : List Token) (t : Tree) (s : Statement)
    (o : Option ℕ) (number : ℕ) (name result : Text) (after : List Token) (u : Tree)
    : Type 0 where
  pub put : Puts 0 text (deletion text tokens s o number name ∷ []) result
  pub utf8 : IsUtf8 text → IsUtf8 result
  pub reads : ReadsIn profile result after u
  pub middle : Tree
  pub old : IsInsertion profile (first_token s) (Leaf s End) (own s (map (lexeme_at text) tokens))
      middle (without s (map (lexeme_at text) tokens)) t (map (lexeme_at text) tokens)
  pub new : IsInsertion profile (reservation_place s o) (reservation (reservation_place s o))
      (reservation_tokens number name) middle (without s (map (lexeme_at text) tokens)) u
      (map (lexeme_at result) after)

-- Where a field of a number below 2^64 is deleted, a tree is read of what comes out.
abbrev pub DeletionsAreOfOneTree : Type 0
DeletionsAreOfOneTree =
    (profile : Profile) (text : Text) (tokens : List Token) (t : Tree) (s : Statement)
    (o : Option ℕ) (number : ℕ) (name : Text)
    → ReadsIn profile text tokens t
    → StandsAt s o t
    → number < 2 ^ 64
    → IsRun Letter name
    → (result : Text) × (after : List Token) × (u : Tree)
    × IsDeleted profile text tokens t s o number name result after u

-- A token names the field of one statement.
abbrev pub FieldsStandOnce : Type 0
FieldsStandOnce =
    (profile : Profile) (text : Text) (tokens : List Token) (t : Tree) (s x : Statement)
    (o p : Option ℕ) (name number other : ℕ)
    → ReadsIn profile text tokens t
    → StandsAt s o t
    → StandsAt x p t
    → IsFieldOf s name number
    → IsFieldOf x name other
    → (s ≡ x) × (o ≡ p)
