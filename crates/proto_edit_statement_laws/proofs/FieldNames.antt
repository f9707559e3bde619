-- The name of a field is a word (for the crates above).
use Rattle.std.proofs.Common.{◌≡◌, inl, inr, ℕ, ◌<◌, true, Option, List, length, map, get_or, refl, sym, ap, subst, ◌∙◌}
use Rattle.std.proofs.lemmas.List.{get_or-map, length-map}
use Rattle.proto_text.specs.declared.class.Class.TheVariants.{Letter}
use Rattle.proto_text.specs.declared.kind.PieceKind.TheVariants.{Solid}
use Rattle.proto_text.specs.declared.kind.TokenKind.{TokenKind}
use Rattle.proto_text.specs.declared.kind.TokenKind.TheVariants.{Word}
use Rattle.proto_text.specs.declared.lexer.Token.{Token}
use Rattle.proto_text.proofs.Common.{IsLexeme, IsRun, text_at, words, Lexeme, lexeme_at, word_at_token, token_is_lexeme}
use Rattle.proto_tree.specs.declared.class.Expected.TheVariants as want
use Rattle.proto_tree.specs.declared.piece.Statement.{Statement}
use Rattle.proto_tree.proofs.Common.{is_word, Mark, mark, HasStatement, ReadsIn, Tree, class_by, marks_fit_in, statements_have_marks, words_only}
use Rattle.proto_edit_statement_laws.proofs.Common.{IsFieldOf, StandsAt, InMessage, InOneof, Deeper, PastLeaf, PastBlock, StandsIn, First, AfterLeaf, AfterBlock, name_mark}
use Rattle.proto_tree.specs.Words.{class_as}
use Rattle.proto_base.specs.declared.profile.Profile.{Profile}
use Rattle.proto_names_outline.proofs.ReadTrees.{same_word}

in_items : {s : Statement} (t : Tree) → StandsIn s t → HasStatement s t
in_items _ (First rest) = inl refl
in_items _ (AfterLeaf x rest h) = inr (in_items rest h)
in_items _ (AfterBlock k i within j rest h) = inr (in_items rest h)

in_tree : {s : Statement} {o : Option ℕ} (t : Tree) → StandsAt s o t → HasStatement s t
in_tree _ (InMessage h i within j rest at) = inl (in_items within at)
in_tree _ (InOneof h i within j rest at) = inl (in_items within at)
in_tree _ (Deeper _ h i within j rest at) = inl (in_tree within at)
in_tree _ (PastLeaf _ x rest at) = inr (in_tree rest at)
in_tree _ (PastBlock _ h i within j rest at) = inr (in_tree rest at)

pub name_is_word : (profile : Profile) (text : List ℕ) (tokens : List Token) (t : Tree) (s : Statement) {o : Option ℕ} (name number : ℕ) → ReadsIn profile text tokens t → StandsAt s o t → IsFieldOf s name number → IsRun Letter (words text tokens name)
name_is_word profile text tokens t s name number reads stands is =
    let blank : Token = record { kind = Word; span = record { start = 0; end = 0 } } in
    let x : Token = get_or tokens name blank in
    let m : Mark = mark want.Name name in
    let fit = marks_fit_in profile t (map (lexeme_at text) tokens) m (lexeme_at text blank) reads.spells (statements_have_marks s t m (in_tree t stands) (name_mark s name number is)) in
    let inside : name < length tokens = subst (λ (n : ℕ). name < n) (length-map tokens (lexeme_at text)) fit.0 in
    let same : get_or (map (lexeme_at text) tokens) name (lexeme_at text blank) ≡ lexeme_at text x = get_or-map (lexeme_at text) tokens name blank (lexeme_at text blank) inside in
    let class_is : is_word (class_by x.kind (text_at text x.span)) ≡ true = sym (same_word profile (class_by x.kind (text_at text x.span))) ∙ ap (λ (l : Lexeme). is_word (class_as profile (class_by l.kind l.text))) (sym same) ∙ fit.1 in
    let lexeme : IsLexeme (Solid Word) (text_at text x.span) = subst (λ (k : TokenKind). IsLexeme (Solid k) (text_at text x.span)) (words_only x.kind (text_at text x.span) class_is) (token_is_lexeme text tokens name blank reads.tokens_are inside) in
    subst (IsRun Letter) (sym (word_at_token text tokens name blank inside)) lexeme
