-- Which pieces and tokens are of the core language: all but a `:` (for the crates above).
use Rattle.std.proofs.Common.{◌≡◌, ◌⊎◌, inl, inr, ℕ, Bool, true, false, not, ◌==◌, eqb-true, List, [], ◌∷◌, ◌++◌, map, refl, sym, ap, subst, ◌∙◌, arith}
use Rattle.std.specs.List.{Contains}
use Rattle.proto_base.proofs.Common.{Contains-append_cases, Contains-append_left, Contains-append_right, contains_cases, contains_head}
use Rattle.proto_base.specs.declared.profile.Profile.TheVariants as profile
use Rattle.proto_text.specs.Common.{PieceKind, Blank, LineComment, BlockComment, Solid, TokenKind, Word, Number, Text, Punctuation, Token, Class, Space, Letter, Digit, Quote, Mark, class_of, Piece, IsLexeme, ArePieces, Lexeme, lexeme_if, lexemes, lexeme_at, AreAllowed, may_begin, Profile, IsWord, SameButWords, WordsMayChangeIn, CoreTokensHaveNoColon, TokensWithoutColon, colon_lexeme}
use Rattle.proto_text.proofs.Reading.{tokens_read_pieces}
use Rattle.proto_text.proofs.WordChange.{made_again}

colon_is_mark : class_of 58 ≡ Mark
unfolding class_of
colon_is_mark = refl

may : (b : ℕ) (bytes : List ℕ) → ((b == 58) ≡ true → ⊥) → may_begin profile.Core (b ∷ bytes) ≡ true
may b bytes none = go (b == 58) refl where
  go : (t : Bool) → (b == 58) ≡ t → not t ≡ true
  go true e = absurd (none e)
  go false e = refl

not_space : Mark ≡ Space → ⊥
not_space e = cc

not_letter : Mark ≡ Letter → ⊥
not_letter e = cc

not_digit : Mark ≡ Digit → ⊥
not_digit e = cc

not_quote : Mark ≡ Quote → ⊥
not_quote e = cc

word_is_no_mark : Solid Word ≡ Solid Punctuation → ⊥
word_is_no_mark e = cc

-- a byte of another class is no `:`
other_class : (b : ℕ) (c : Class) (bytes : List ℕ) → class_of b ≡ c → (Mark ≡ c → ⊥) → may_begin profile.Core (b ∷ bytes) ≡ true
other_class b c bytes is differ = may b bytes (λ e. differ (sym colon_is_mark ∙ ap class_of (sym (eqb-true b 58 e)) ∙ is))

abbrev Begins : List ℕ → Type 0
Begins bytes = may_begin profile.Core bytes ≡ true

-- a piece is a `:`, or may begin in the core language
piece_may : (kind : PieceKind) (bytes : List ℕ) → IsLexeme kind bytes → (kind ≡ Solid Punctuation → bytes ≡ 58 ∷ [] → ⊥) → Begins bytes
piece_may Blank bytes is none = subst Begins (sym is.1) (other_class is.0 Space [] is.2 not_space)
piece_may LineComment bytes is none = subst Begins (sym is.1) refl
piece_may BlockComment bytes is none = subst Begins (sym is.1) refl
piece_may (Solid Word) [] is none = absurd is
piece_may (Solid Word) (b ∷ bytes) is none = other_class b Letter bytes is.0 not_letter
piece_may (Solid Number) [] is none = absurd is.0
piece_may (Solid Number) (b ∷ bytes) is none = other_class b Digit bytes is.0.0 not_digit
piece_may (Solid Text) bytes is none = subst Begins (sym is.2.1) (other_class is.0 Quote (is.1 ++ is.0 ∷ []) is.2.0 not_quote)
piece_may (Solid Punctuation) bytes is none = subst Begins (sym is.1) (may is.0 [] (λ e. none refl (is.1 ∙ ap (λ (b : ℕ). b ∷ []) (eqb-true is.0 58 e))))

colon_there : (kind : PieceKind) (bytes : List ℕ) (others : List Lexeme) → kind ≡ Solid Punctuation → bytes ≡ 58 ∷ [] → Contains (lexeme_if kind bytes ++ others) colon_lexeme
colon_there kind bytes others k b = Contains-append_left (lexeme_if kind bytes) others colon_lexeme (subst (λ (w : List ℕ). Contains (lexeme_if kind w) colon_lexeme) (sym b) (subst (λ (x : PieceKind). Contains (lexeme_if x (58 ∷ [])) colon_lexeme) (sym k) (contains_head colon_lexeme [])))

all_core : (ps : List Piece) (rest : List ℕ) → ArePieces ps rest → (Contains (lexemes ps) colon_lexeme → ⊥) → AreAllowed profile.Core ps
all_core [] rest are none = tt
all_core (p ∷ ps) rest are none = (
  piece_may p.kind p.bytes are.0 (λ k b. none (colon_there p.kind p.bytes (lexemes ps) k b)),
  all_core ps rest are.2 (λ c. none (Contains-append_right (lexeme_if p.kind p.bytes) (lexemes ps) colon_lexeme c)),
)

abbrev ReadsAs : List ℕ → List Token → List Lexeme → Type 0
ReadsAs text tokens ls = map (lexeme_at text) tokens ≡ ls

pub tokens_without_colon : TokensWithoutColon
tokens_without_colon text tokens are none =
    let read : ReadsAs text tokens (lexemes are.0) = ap (map (lexeme_at text)) are.2 ∙ tokens_read_pieces text are.0 are.1 in
    (are.0, (are.1, all_core are.0 [] are.1.0 (λ c. none (subst (λ (ls : List Lexeme). Contains ls colon_lexeme) (sym read) c))), are.2)

-- ---- none is a `:`

contains_nil : {X : Type 0} (x : X) → Contains [] x → ⊥
contains_nil x c = omega (arith, c.1)

false_not_true : false ≡ true → ⊥
false_not_true e = cc

abbrev lexeme : TokenKind → List ℕ → Lexeme
lexeme kind text = record { kind = kind; text = text }

no_colon_of : (kind : PieceKind) (bytes : List ℕ) → Begins bytes → Contains (lexeme_if kind bytes) colon_lexeme → ⊥
no_colon_of Blank bytes may c = contains_nil colon_lexeme c
no_colon_of LineComment bytes may c = contains_nil colon_lexeme c
no_colon_of BlockComment bytes may c = contains_nil colon_lexeme c
no_colon_of (Solid kind) bytes may c = elim (contains_cases (lexeme kind bytes) colon_lexeme [] c) [
  | inl e ↦ false_not_true (subst Begins (ap (λ (l : Lexeme). l.text) e) may)
  | inr d ↦ contains_nil colon_lexeme d
]

no_colon : (ps : List Piece) → AreAllowed profile.Core ps → Contains (lexemes ps) colon_lexeme → ⊥
no_colon [] may c = contains_nil colon_lexeme c
no_colon (p ∷ ps) may c = elim (Contains-append_cases (lexeme_if p.kind p.bytes) (lexemes ps) colon_lexeme c) [
  | inl d ↦ no_colon_of p.kind p.bytes may.0 d
  | inr d ↦ no_colon ps may.1 d
]

pub core_tokens_have_no_colon : CoreTokensHaveNoColon
core_tokens_have_no_colon text tokens are c =
    let read : ReadsAs text tokens (lexemes are.0) = ap (map (lexeme_at text)) are.2 ∙ tokens_read_pieces text are.0 are.1.0 in
    no_colon are.0 are.1.1 (subst (λ (ls : List Lexeme). Contains ls colon_lexeme) read c)

-- ---- other words in place of words

word_may : (p : Profile) (q : Piece) → IsWord q → may_begin p q.bytes ≡ true
word_may profile.AsWritten q is = refl
word_may profile.Core q is = piece_may (Solid Word) q.bytes is.1 (λ e f. word_is_no_mark e)

words_may : (p : Profile) (ps qs : List Piece) → SameButWords ps qs → AreAllowed p ps → AreAllowed p qs
words_may p [] [] s may = tt
words_may p [] (r ∷ qs) s may = absurd s
words_may p (q ∷ ps) [] s may = absurd s
words_may p (q ∷ ps) (r ∷ qs) s may = (one s.0, words_may p ps qs s.1 may.1)
  where
    one : (q ≡ r) ⊎ (IsWord q × IsWord r) → may_begin p r.bytes ≡ true
    one (inl e) = subst (λ (x : Piece). may_begin p x.bytes ≡ true) e may.0
    one (inr is) = word_may p r is.1

pub words_may_change : (p : Profile) → WordsMayChangeIn p
words_may_change p text ps qs is same = (made_again text ps qs is.0 same, words_may p ps qs same is.1)
