-- The names that a tree declares are words (for the crates above).
use Rattle.std.proofs.Common.{◌≡◌, ◌∙◌, ℕ, ◌<◌, true, List, [], length, get_or, map, Some, refl, sym, subst}
use Rattle.std.specs.List.{Contains}
use Rattle.proto_text.specs.declared.class.Class.TheVariants.{Letter}
use Rattle.proto_text.specs.declared.kind.PieceKind.TheVariants.{Solid}
use Rattle.proto_text.specs.declared.kind.TokenKind.{TokenKind}
use Rattle.proto_text.specs.declared.kind.TokenKind.TheVariants.{Word}
use Rattle.proto_text.specs.declared.lexer.Token.{Token}
use Rattle.proto_text.proofs.Common.{IsRun, IsLexeme, words, Lexeme, lexeme_at, tokens_are_lexemes}
use Rattle.proto_tree.specs.declared.class.Class.TheVariants as class
use Rattle.proto_tree.specs.declared.class.Expected.{Expected}
use Rattle.proto_tree.specs.declared.class.Expected.TheVariants as want
use Rattle.proto_tree.proofs.Common.{is_word, fits, Mark, Tree, flat, class_by, words_only, place_of_word, ReadsIn, trees_are_numbered_in, marks_fit_in}
use Rattle.proto_names_outline.specs.Common.{items_in, whole, last_token}
use Rattle.proto_names_rules.specs.Tree.{Placed, file_placed}
use Rattle.proto_names_outline.proofs.MarkedNames.{declared_worded}
use Rattle.proto_names_outline.proofs.MarkedTokens.{Are, are_from, Known}
use Rattle.proto_names_outline.proofs.PackageFirst.{same_declared}
use Rattle.proto_names_outline.proofs.ReadTrees.{same_word, tree_span, word_is}
use Rattle.proto_base.specs.declared.profile.Profile.{Profile}
use Rattle.proto_tree.specs.Words.{class_as}
use Rattle.proto_tree.specs.declared.class.Class.{Class}

module _ (profile : Profile) (text : List ℕ) (tokens : List Token) (tree : Tree) (reads : ReadsIn profile text tokens tree) where
  abbrev W : ℕ → Type 0
  W i = IsRun Letter (words text tokens i)

  -- of strings nothing is asked here
  abbrev S : ℕ → Type 0
  S i = Unit {0}

  module _ (m : Mark) (other : Lexeme) (c : Contains (flat tree) m) where
    abbrev l : Lexeme
    l = get_or (map (lexeme_at text) tokens) m.at other

    abbrev k : Class
    k = class_as profile (class_by l.kind l.text)

    fit : (m.at < length (map (lexeme_at text) tokens)) × (fits m.want k ≡ true)
    fit = marks_fit_in profile tree (map (lexeme_at text) tokens) m other reads.spells c

    as_word : is_word k ≡ true → W m.at
    as_word h =
        let lexeme : IsLexeme (Solid l.kind) l.text = tokens_are_lexemes text tokens reads.tokens_are m.at other fit.0 in
        subst (IsRun Letter) (sym (word_is (map (lexeme_at text) tokens) m.at other fit.0))
        (subst (λ (t : TokenKind). IsLexeme (Solid t) l.text) (words_only l.kind l.text (sym (same_word profile (class_by l.kind l.text)) ∙ h)) lexeme)

    as_wanted : (w : Expected) → fits w k ≡ true → Known W W S w m.at
    as_wanted (want.One class.Name) f = as_word (place_of_word (want.One class.Name) class.Name k refl f refl)
    as_wanted want.Word f = as_word f
    as_wanted want.Name f = as_word f
    as_wanted want.ValueName f = as_word (place_of_word want.ValueName class.Name k refl f refl)
    as_wanted _ f = tt

    known : Known W W S m.want m.at
    known = as_wanted m.want fit.1

  are : Are W W S 0 (flat tree)
  are = are_from W W S 0 (flat tree) (trees_are_numbered_in profile tree (map (lexeme_at text) tokens) reads.spells) (λ m. known m (record { kind = Word; text = [] }))

  -- a declaration is named by a word
  pub placed_worded : (p : Placed) → Contains (file_placed (items_in tree)) p → (t : ℕ) → last_token (whole p) ≡ Some t → W t
  placed_worded p c =
      let span = tree_span profile text tokens tree reads in
      declared_worded W W S tree 0 are p ((same_declared (items_in tree) span.0 span.1 span.2 p).1 c)
