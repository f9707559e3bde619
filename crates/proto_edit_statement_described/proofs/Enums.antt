-- The enums of a file that loses a field: each is read as before.
use Rattle.std.proofs.Common.{◌≡◌, ℕ, ◌==◌, inl, inr, Bool, not, List, [], ◌∷◌, map, Option, slice_get, refl, sym, ◌∙◌, ap, eq-eqb, ne_eqb}
use Rattle.std.proofs.lemmas.Bool.{cases_eq}
use Rattle.proto_text.proofs.Common.{word_at, Lexeme}
use Rattle.proto_tree.specs.declared.piece.Header.{Header}
use Rattle.proto_tree.specs.declared.piece.Header.TheVariants as header
use Rattle.proto_tree.specs.declared.tree.Value.{Value}
use Rattle.proto_tree.proofs.Common.{Move, move_header, move_tree, move_value, Tree}
use Rattle.proto_ast.proofs.Common.{number_value, values_in, EnumOf}
use Rattle.proto_edit_statement_described.proofs.Common.{enum_within, is_enum_at, starts_past_zero, IsDeletedIn, Reservation, WrittenField}
use Rattle.proto_desc_checks_laws.proofs.MovedParts.{maps_kept, values_moved}
use Rattle.proto_edit_statement_described.proofs.FoundBlocks.{are_found, first_read}
use Rattle.proto_edit_statement_described.proofs.MovedScenes.{text_in, word_by}

-- tokens that are alike have one text
pub same_words : (ls ms : List Lexeme) (i j : ℕ) → slice_get ms j ≡ slice_get ls i → word_at ms j ≡ word_at ls i
same_words ls ms i j e = word_by ms j ∙ ap text_in e ∙ sym (word_by ls i)

-- the enum of a token, as it is read of a tree
abbrev pub read_enum : List Lexeme → Bool → ℕ → Tree → Option EnumOf
read_enum ls proto3 token x = first_read (is_enum_at token) (enum_within ls proto3) x

-- tokens that stay apart are told apart
pub same_test : (g : Move) → ((i j : ℕ) → g i ≡ g j → i ≡ j) → (i j : ℕ) → (g i == g j) ≡ (i == j)
same_test g apart i j = elim (cases_eq i j) [
  | inl e ↦ eq-eqb (g i) (g j) (ap g e) ∙ sym (eq-eqb i j e)
  | inr n ↦ ne_eqb (g i) (g j) (λ h. n (apart i j h)) ∙ sym (ne_eqb i j n)
]

-- ---- moved tokens

module _ (g : Move) (apart : (i j : ℕ) → g i ≡ g j → i ≡ j) (without lexemes : List Lexeme) (stays : (i : ℕ) → slice_get lexemes (g i) ≡ slice_get without i) (proto3 : Bool) (token : ℕ) where
  same_header : (h : Header) → is_enum_at (g token) (move_header g h) ≡ is_enum_at token h
  same_header (header.Enum h) = same_test g apart h.name token
  same_header whole = refl

  same_word : (i : ℕ) → word_at lexemes (g i) ≡ word_at without i
  same_word i = same_words without lexemes i (g i) (stays i)

  same_start : (vs : List Value) → starts_past_zero (word_at lexemes) (map (move_value g) vs) ≡ starts_past_zero (word_at without) vs
  same_start [] = refl
  same_start (v ∷ vs) = ap (λ (x : List ℕ). not (number_value x == 0)) (same_word v.number.number)

  same_enum : (x : Tree) → enum_within lexemes proto3 (move_tree g x) ≡ enum_within without proto3 x
  same_enum x =
      let values : map (λ (v : Value). word_at lexemes v.name) (map (move_value g) (values_in x)) ≡ map (λ (v : Value). word_at without v.name) (values_in x) =
      maps_kept (move_value g) (λ (v : Value). word_at without v.name) (λ (v : Value). word_at lexemes v.name) (λ v. same_word v.name) (values_in x) in
      λ i. record {
        is_proto3 = proto3;
        starts_past_zero = (ap (starts_past_zero (word_at lexemes)) (values_moved g x) ∙ same_start (values_in x)) i;
        values = (ap (map (λ (v : Value). word_at lexemes v.name)) (values_moved g x) ∙ values) i;
      }

-- ---- the three trees

pub enums_are_same : (g k : Move) → ((i j : ℕ) → g i ≡ g j → i ≡ j) → ((i j : ℕ) → k i ≡ k j → i ≡ j) → (without olds news : List Lexeme)
    → ((i : ℕ) → slice_get olds (g i) ≡ slice_get without i) → ((i : ℕ) → slice_get news (k i) ≡ slice_get without i) → (proto3 : Bool) (token : ℕ) (w : WrittenField) (r : Reservation) (x t u : Tree) → IsDeletedIn g k w r x t u
    → (read_enum olds proto3 (g token) t ≡ read_enum without proto3 token x) × (read_enum news proto3 (k token) u ≡ read_enum without proto3 token x)
enums_are_same g k old_apart new_apart without olds news old new proto3 token w r =
    are_found g k w r (is_enum_at token) (is_enum_at (g token)) (is_enum_at (k token)) (enum_within without proto3) (enum_within olds proto3) (enum_within news proto3)
    (same_header g old_apart without olds old proto3 token) (same_header k new_apart without news new proto3 token)
    (same_enum g old_apart without olds old proto3 token) (same_enum k new_apart without news new proto3 token)
    (λ y. refl) (λ y x t u sw. inl refl) (λ y x t u sw. inl refl)
