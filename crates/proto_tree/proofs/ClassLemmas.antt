-- The classes of tokens, one by one.
use Rattle.std.proofs.Common.{◌≡◌, ℕ, zero, suc, ◌+◌, ◌<◌, ◌≤◌, List, [], ◌∷◌, ◌++◌, length, take, map, get_or, refl, ap, ◌∙◌, arith, length-append}
use Rattle.proto_text.specs.declared.kind.PieceKind.{PieceKind}
use Rattle.proto_text.specs.declared.kind.PieceKind.TheVariants.{Blank, LineComment, BlockComment, Solid}
use Rattle.proto_text.specs.declared.lexer.Token.{Token}
use Rattle.proto_text.proofs.Common.{Piece, IsLexeme, pieces_text, ArePieces, text_at, token_at, tokens_from, lexeme_at, AreTokens, not_empty}
use Rattle.proto_tree.specs.Common.{Lexeme, class_by, classes_in, classed_in, place_at, Profile, class_as}

abbrev pub class_at : Profile → List ℕ → ℕ → Token → Lexeme
class_at p text n t = record { class = class_as p (class_by t.kind (text_at text t.span)); at = n }

-- the classes of the first i tokens, and of one more
one_more : (p : Profile) (text : List ℕ) (n i : ℕ) (tokens : List Token) (d : Token) → i < length tokens
    → classes_in p n (map (lexeme_at text) (take (i + 1) tokens)) ≡ classes_in p n (map (lexeme_at text) (take i tokens)) ++ class_at p text (n + i) (get_or tokens i d) ∷ []
one_more p text n i [] d lt = absurd (omega arith)
one_more p text n zero (t ∷ tokens) d lt = let e : n + 0 ≡ n = omega arith in rw e refl
one_more p text n (suc i) (t ∷ tokens) d lt =
    let e : suc n + i ≡ n + suc i = omega arith in
    let k : suc i + 1 ≡ suc (i + 1) = omega arith in
    rw k (ap (λ (ls : List Lexeme). class_at p text n t ∷ ls) (one_more p text (suc n) i tokens d (omega arith) ∙ ap (λ (m : ℕ). classes_in p (suc n) (map (lexeme_at text) (take i tokens)) ++ class_at p text m (get_or tokens i d) ∷ []) e))

pub next_class : (p : Profile) (text : List ℕ) (i : ℕ) (tokens : List Token) (d : Token) → i < length tokens
    → classed_in p text (take (i + 1) tokens) ≡ classed_in p text (take i tokens) ++ class_at p text i (get_or tokens i d) ∷ []
next_class p text i tokens d lt = one_more p text 0 i tokens d lt ∙ ap (λ (m : ℕ). classed_in p text (take i tokens) ++ class_at p text m (get_or tokens i d) ∷ []) zero_more
  where
    zero_more : 0 + i ≡ i
    zero_more = omega arith

-- ---- places

pub place_in : (text : List ℕ) (tokens : List Token) (k : ℕ) (d : Token) → k < length tokens → place_at text tokens k ≡ (get_or tokens k d).span.start
place_in text [] k d lt = absurd (omega arith)
place_in text (t ∷ tokens) zero d lt = refl
place_in text (t ∷ tokens) (suc k) d lt = place_in text tokens k d (omega arith)

pub place_end : (text : List ℕ) (tokens : List Token) (k : ℕ) → length tokens ≤ k → place_at text tokens k ≡ length text
place_end text [] k le = refl
place_end text (t ∷ tokens) zero le = absurd (omega arith)
place_end text (t ∷ tokens) (suc k) le = place_end text tokens k (omega arith)

-- ---- a text has no more tokens than bytes

one_token : (kind : PieceKind) (at n : ℕ) → length (token_at kind at n) ≤ 1
one_token Blank at n = omega arith
one_token LineComment at n = omega arith
one_token BlockComment at n = omega arith
one_token (Solid kind) at n = omega arith

solid : (kind : PieceKind) (bytes : List ℕ) → IsLexeme kind bytes → 1 ≤ length bytes
solid kind [] is = absurd (not_empty kind is)
solid kind (b ∷ bytes) is = omega arith

few_from : (at : ℕ) (ps : List Piece) (rest : List ℕ) → ArePieces ps rest → length (tokens_from at ps) ≤ length (pieces_text ps)
few_from at [] rest h = omega arith
few_from at (p ∷ ps) rest h =
    omega (arith, one_token p.kind at (length p.bytes), solid p.kind p.bytes h.0, few_from (at + length p.bytes) ps rest h.2, length-append (token_at p.kind at (length p.bytes)) (tokens_from (at + length p.bytes) ps), length-append p.bytes (pieces_text ps))

pub few_tokens : (text : List ℕ) (tokens : List Token) → AreTokens text tokens → length tokens ≤ length text
few_tokens text tokens are =
    omega (arith, few_from 0 are.0 [] are.1.0, ap length are.2, ap length are.1.1, length-append (pieces_text are.0) [])
