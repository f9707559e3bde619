-- The three trees of a deletion: the one that has neither the field nor the
-- reservation, the old one and the new one.
use Rattle.std.specs.Prelude.{◌≡◌, ◌≢◌, ℕ, ◌+◌, List, [], ◌∷◌, length, map, Option}
use Rattle.std.specs.List.{Contains}
use Rattle.proto_base.specs.Texts.{Text}
use Rattle.proto_text.specs.declared.lexer.Token.{Token}
use Rattle.proto_text.specs.Segments.{moved}
use Rattle.proto_text.specs.Tokens.{lexeme_at}
use Rattle.proto_tree.specs.declared.piece.Header.TheVariants as header
use Rattle.proto_tree.specs.declared.piece.Heading.{Heading}
use Rattle.proto_tree.specs.declared.piece.Statement.{Statement}
use Rattle.proto_tree.specs.Moved.{Move}
use Rattle.proto_tree.specs.Reads.{ReadsIn}
use Rattle.proto_tree.specs.Tree.{Tree}
use Rattle.proto_ast.specs.Parts.{BlockOf, blocks_in, fields_in}
use Rattle.proto_edit_statement_laws.specs.Deletions.{IsDeleted, own, reservation_place}
use Rattle.proto_edit_rules.specs.DeleteField.{StandsAt}
use Rattle.proto_edit_rules.specs.Statements.{first_token}
use Rattle.proto_edit_statement_described.specs.Deletions.{IsDeletedIn, Reservation, WrittenField, written_name, statement_of}
use Rattle.proto_base.specs.declared.profile.Profile.{Profile}

-- no oneof of the tree has the field of this name token alone
abbrev pub HasFellows : Tree → ℕ → Type 0
HasFellows t token = (h : Heading) (b : BlockOf)
    → Contains (blocks_in t) b
    → b.header ≡ header.Oneof h
    → map (λ f. f.name) (fields_in b.within) ≢ token ∷ []

-- the tokens of a reservation that begins with this index
abbrev pub reservation_at : ℕ → Reservation
reservation_at i = record {
  keyword = i;
  number = i + 1;
  semicolon = i + 2;
  again = i + 3;
  name = i + 4;
  last = i + 5;
}

-- where the tokens of the tree without both stand in the old one, and in the new one
abbrev pub to_old : Text → List Token → Statement → Move
to_old text tokens s =
    moved (first_token s) (first_token s) (length (own s (map (lexeme_at text) tokens)))

-- how tokens move where the reservation of six tokens comes in
abbrev pub to_new : Statement → Option ℕ → Move
to_new s o = moved (reservation_place s o) (reservation_place s o) 6

-- Where a field is deleted that is not alone in its oneof, the old tree is the one without both
-- with the field put in among the members of a message, or of a oneof of it, and the new one is the
-- one without both with the reservation put in.
abbrev pub TreesAreDeleted : Type 0
TreesAreDeleted =
    (profile : Profile) (text : Text) (tokens : List Token) (t : Tree) (w : WrittenField)
    (o : Option ℕ) (number : ℕ) (name result : Text) (after : List Token) (u : Tree)
    → ReadsIn profile text tokens t
    → HasFellows t (written_name w)
    → StandsAt (statement_of w) o t
    → (d : IsDeleted profile text tokens t (statement_of w) o number name result after u)
    → IsDeletedIn (to_old text tokens (statement_of w)) (to_new (statement_of w) o) w
    (reservation_at (reservation_place (statement_of w) o)) d.middle t u
