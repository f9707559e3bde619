-- Tokens begin and end between characters (for the crates above).
use Rattle.std.proofs.Common.{◌≡◌, ℕ, ◌+◌, ◌<◌, ◌≤◌, false, ◌||◌, eqb, List, [], ◌∷◌, ◌++◌, length, get_or, All, refl, sym, ap, subst, ◌∙◌, arith, inl, inr, append_assoc, Result, Ok, Err, IfOk, IsCharBoundary, append-nil, length-append}
use Rattle.proto_base.proofs.Common.{Vec, AllByRecursion, cases_lt, nat_tests, get_or_at, All-from_recursion, IsCharBoundary-end, IsCharBoundary-before_ascii}
use Rattle.proto_text.specs.Common.{TextFault, Class, Space, Letter, Digit, Quote, Mark, Other, Word, Number, Text, Punctuation, PieceKind, Blank, LineComment, BlockComment, Solid, Token, class_of, is_space, is_letter, is_digit, is_mark, Piece, IsLexeme, pieces_text, ArePieces, token_at, tokens_from, AreTokens, IsLexed, IsSpan, Profile}
use Rattle.proto_text.proofs.WordChange.{not_empty}

no_space : (b : ℕ) → 128 ≤ b → is_space b ≡ false
no_space b h = grind (arith, nat_tests)

no_letter : (b : ℕ) → 128 ≤ b → is_letter b ≡ false
no_letter b h = grind (arith, nat_tests)

no_digit : (b : ℕ) → 128 ≤ b → is_digit b ≡ false
no_digit b h = grind (arith, nat_tests)

no_quote : (b : ℕ) → 128 ≤ b → (eqb b 34 || eqb b 39) ≡ false
no_quote b h = grind (arith, nat_tests)

no_slash : (b : ℕ) → 128 ≤ b → eqb b 47 ≡ false
no_slash b h = grind (arith, nat_tests)

no_mark : (b : ℕ) → 128 ≤ b → is_mark b ≡ false
no_mark b h = grind (arith, nat_tests)

high_is_other : (b : ℕ) → 128 ≤ b → class_of b ≡ Other
unfolding class_of
high_is_other b h = rw (no_space b h, no_letter b h, no_digit b h, no_quote b h, no_mark b h, no_slash b h) refl

pub classed_is_low : (b : ℕ) (class : Class) → class_of b ≡ class → (class ≡ Other → ⊥) → b < 128
classed_is_low b class e apart =
    elim (cases_lt b 128) [
      | inl lt ↦ lt
      | inr le ↦ absurd (apart (sym e ∙ high_is_other b le))
    ]

space≢other : Space ≡ Other → ⊥
space≢other e = cc

letter≢other : Letter ≡ Other → ⊥
letter≢other e = cc

digit≢other : Digit ≡ Other → ⊥
digit≢other e = cc

quote≢other : Quote ≡ Other → ⊥
quote≢other e = cc

mark≢other : Mark ≡ Other → ⊥
mark≢other e = cc

head_of : (a b : ℕ) (x y : List ℕ) → a ∷ x ≡ b ∷ y → a ≡ b
head_of a b x y e = cc

low_as : (a b : ℕ) → a ≡ b → b < 128 → a < 128
low_as a b e lt = omega arith

lexeme_low : (kind : PieceKind) (b : ℕ) (more : List ℕ) → IsLexeme kind (b ∷ more) → b < 128
lexeme_low Blank b more is = low_as b is.0 (head_of b is.0 more [] is.1) (classed_is_low is.0 Space is.2 space≢other)
lexeme_low LineComment b more is = low_as b 47 (head_of b 47 more (47 ∷ is.0) is.1) (omega arith)
lexeme_low BlockComment b more is = low_as b 47 (head_of b 47 more (42 ∷ (is.0 ++ 42 ∷ 47 ∷ [])) is.1) (omega arith)
lexeme_low (Solid Word) b more is = classed_is_low b Letter is.0 letter≢other
lexeme_low (Solid Number) b more is = classed_is_low b Digit is.0.0 digit≢other
lexeme_low (Solid Text) b more is = low_as b is.0 (head_of b is.0 more (is.1 ++ is.0 ∷ []) is.2.1) (classed_is_low is.0 Quote is.2.0 quote≢other)
lexeme_low (Solid Punctuation) b more is = low_as b is.0 (head_of b is.0 more [] is.1) (classed_is_low is.0 Mark is.2 mark≢other)

boundary_at : (text front piece rest : List ℕ) (kind : PieceKind) → IsLexeme kind piece → text ≡ front ++ (piece ++ rest) → IsCharBoundary text (length front)
boundary_at text front [] rest kind is e = absurd (not_empty kind is)
boundary_at text front (b ∷ more) rest kind is e =
    let low = lexeme_low kind b more is in
    let here : get_or text (length front) 0 ≡ b = ap (λ (t : List ℕ). get_or t (length front) 0) e ∙ get_or_at front b (more ++ rest) 0 (length front) refl in
    let len : length text ≡ length front + length (b ∷ (more ++ rest)) = ap length e ∙ length-append front (b ∷ (more ++ rest)) in
    IsCharBoundary-before_ascii text (length front) (omega arith) (omega arith)

pub boundary : (text front : List ℕ) (ps : List Piece) → ArePieces ps [] → text ≡ front ++ pieces_text ps → IsCharBoundary text (length front)
boundary text front [] h e = subst (IsCharBoundary text) (ap length (e ∙ append-nil front)) (IsCharBoundary-end text)
boundary text front (p ∷ ps) h e = boundary_at text front p.bytes (pieces_text ps) p.kind h.0 e

token_span : (text : List ℕ) (kind : PieceKind) (at n : ℕ) (more : List Token) → IsCharBoundary text at → IsCharBoundary text (at + n) → AllByRecursion (λ t. IsSpan text t.span) more → AllByRecursion (λ t. IsSpan text t.span) (token_at kind at n ++ more)
token_span text Blank at n more a b h = h
token_span text LineComment at n more a b h = h
token_span text BlockComment at n more a b h = h
token_span text (Solid kind) at n more a b h = (record { ordered = omega arith; starts = a; ends = b }, h)

spans : (text front : List ℕ) (ps : List Piece) → ArePieces ps [] → text ≡ front ++ pieces_text ps → AllByRecursion (λ t. IsSpan text t.span) (tokens_from (length front) ps)
spans text front [] h e = tt
spans text front (p ∷ ps) h e =
    let next : text ≡ (front ++ p.bytes) ++ pieces_text ps = e ∙ sym (append_assoc front p.bytes (pieces_text ps)) in
    let len = length-append front p.bytes in
    let others = subst (λ (n : ℕ). AllByRecursion (λ t. IsSpan text t.span) (tokens_from n ps)) len (spans text (front ++ p.bytes) ps h.2 next) in
    token_span text p.kind (length front) (length p.bytes) (tokens_from (length front + length p.bytes) ps) (boundary text front (p ∷ ps) h e) (subst (IsCharBoundary text) len (boundary text (front ++ p.bytes) ps h.2 next)) others

pub token_spans : (text : List ℕ) (tokens : List Token) → AreTokens text tokens → All (λ t. IsSpan text t.span) tokens
token_spans text tokens are =
    let whole : text ≡ [] ++ pieces_text are.0 = are.1.1 ∙ append-nil (pieces_text are.0) in
    All-from_recursion (λ t. IsSpan text t.span) tokens (subst (AllByRecursion (λ t. IsSpan text t.span)) (sym are.2) (spans text [] are.0 are.1.0 whole))

pub result_spans : (profile : Profile) (text : List ℕ) (result : Result (Vec Token) TextFault) → IsLexed profile text result → IfOk result (λ tokens. All (λ t. IsSpan text t.span) tokens.items)
result_spans profile text (Ok tokens) h = token_spans text tokens.items (h.0, h.1.0, h.2)
result_spans profile text (Err e) h = tt
