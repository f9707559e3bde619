-- What the errors of the lexer and of the parser say of a file (for the crates above).
use Rattle.std.proofs.Common.{◌≡◌, ℕ, List, refl, sym, ap, subst, inl, inr, ⊎_elim, arith, ◌⊎◌, String, Global, string_bytes}
use Rattle.proto_text.specs.declared.fault.LexFault.{LexFault}
use Rattle.proto_text.specs.declared.fault.LexFault.TheVariants as lex
use Rattle.proto_text.specs.declared.fault.TextFault.{TextFault}
use Rattle.proto_text.specs.declared.fault.TextFault.TheVariants as text
use Rattle.proto_text.specs.declared.lexer.Token.{Token}
use Rattle.proto_text.proofs.Common.{IsFaultIn, IsLexErrorIn, one_token_list, no_fault_with_tokens_in, tokens_of_text}
use Rattle.proto_tree.specs.declared.parsing.ParseFault.{ParseFault}
use Rattle.proto_tree.specs.declared.parsing.ParseFault.TheVariants as grammar
use Rattle.proto_tree.specs.Reads.{IsParseFaultIn, is_fault_or_memory_in, IsSyntaxIn, IsTooDeepIn}
use Rattle.proto_base.specs.declared.fault.FaultKind.{FaultKind}
use Rattle.proto_base.specs.declared.fault.FaultKind.TheVariants as kind
use Rattle.proto_files.specs.Common.{FileOf, AreFileTokens, IsText, IsTextFault, IsGrammarFault, lex_kind, text_error, grammar_error, HasNone, IsFileError}

-- the lexer's fault, if the text has one at an offset
abbrev pub IsOnlyLexFault : FileOf → TextFault → Type 0
IsOnlyLexFault file e = (offset : ℕ) (fault : LexFault) → IsFaultIn file.profile file.bytes offset fault → (e ≡ text.At offset fault) ⊎ (e ≡ text.NoMemory)

same_fault : (a b : ℕ) (f g : LexFault) → (text.At a f ≡ text.At b g) ⊎ (text.At a f ≡ text.NoMemory) → (b ≡ a) × (lex_kind g ≡ lex_kind f)
same_fault a b f g (inl e) =
    let place : a ≡ b = cc in
    let fault : f ≡ g = cc in
    (sym place, ap lex_kind (sym fault))
same_fault a b f g (inr e) = absurd (cc)

is_lex_fault : (file : FileOf) (offset : ℕ) (fault : LexFault) → IsText file.bytes → IsFaultIn file.profile file.bytes offset fault → IsTextFault file offset (lex_kind fault)
is_lex_fault file offset lex.BadChar t h = (t, h)
is_lex_fault file offset lex.OpenComment t h = (t, h)
is_lex_fault file offset lex.OpenString t h = (t, h)
is_lex_fault file offset lex.BadEscape t h = (t, h)
is_lex_fault file offset lex.BadNumber t h = (t, h)

pub lex_error : (path : String Global) (file : FileOf) (fault : TextFault) → string_bytes path ≡ file.path → IsText file.bytes → IsLexErrorIn file.profile file.bytes fault → IsOnlyLexFault file fault → IsFileError IsTextFault file (text_error path fault)
lex_error path file text.TooLarge at t h o = absurd h
lex_error path file text.NotUtf8 at t h o = absurd h
lex_error path file text.NoMemory at t h o = tt
lex_error path file (text.At offset fault) at t h o = record { at_file = at; is_fault = is_lex_fault file offset fault t h; only = only }
  where
    only : (b : ℕ) (k : FaultKind) → IsTextFault file b k → (b ≡ offset) × (k ≡ lex_kind fault)
    only b kind.TooLarge f = absurd (omega (arith, t.short, f.1))
    only b kind.NotUtf8 f = absurd (f.2 t.utf8)
    only b kind.BadChar f = same_fault offset b fault lex.BadChar (o b lex.BadChar f.1)
    only b kind.OpenComment f = same_fault offset b fault lex.OpenComment (o b lex.OpenComment f.1)
    only b kind.OpenString f = same_fault offset b fault lex.OpenString (o b lex.OpenString f.1)
    only b kind.BadEscape f = same_fault offset b fault lex.BadEscape (o b lex.BadEscape f.1)
    only b kind.BadNumber f = same_fault offset b fault lex.BadNumber (o b lex.BadNumber f.1)
    only b _ f = absurd f

-- A text with tokens has no fault of the text.
pub no_text_fault : (file : FileOf) (tokens : List Token) → IsText file.bytes → AreFileTokens file tokens → HasNone IsTextFault file
no_text_fault file tokens t are offset kind.TooLarge f = absurd (omega (arith, t.short, f.1))
no_text_fault file tokens t are offset kind.NotUtf8 f = f.2 t.utf8
no_text_fault file tokens t are offset kind.BadChar f = no_fault_with_tokens_in file.profile file.bytes tokens offset lex.BadChar are f.1
no_text_fault file tokens t are offset kind.OpenComment f = no_fault_with_tokens_in file.profile file.bytes tokens offset lex.OpenComment are f.1
no_text_fault file tokens t are offset kind.OpenString f = no_fault_with_tokens_in file.profile file.bytes tokens offset lex.OpenString are f.1
no_text_fault file tokens t are offset kind.BadEscape f = no_fault_with_tokens_in file.profile file.bytes tokens offset lex.BadEscape are f.1
no_text_fault file tokens t are offset kind.BadNumber f = no_fault_with_tokens_in file.profile file.bytes tokens offset lex.BadNumber are f.1
no_text_fault file tokens t are offset _ f = absurd f

-- the parser's fault, if the tokens have one
abbrev pub IsOnlyParseFault : FileOf → List Token → ParseFault → Type 0
IsOnlyParseFault file tokens e = (fault : ParseFault) → IsParseFaultIn file.profile file.bytes tokens fault → (e ≡ fault) ⊎ (e ≡ grammar.NoMemory)

-- a fault of the grammar is one of the tokens that the text has
of_tokens : (file : FileOf) (tokens : List Token) → AreFileTokens file tokens → (P : List Token → Type 0) → (found : List Token) × AreFileTokens file found × P found → P tokens
of_tokens file tokens are P f = subst P (one_token_list file.bytes f.0 tokens (tokens_of_text file.profile file.bytes f.0 f.1) (tokens_of_text file.profile file.bytes tokens are)) f.2

pub parse_error : (path : String Global) (file : FileOf) (tokens : List Token) (fault : ParseFault) → string_bytes path ≡ file.path → AreFileTokens file tokens → is_fault_or_memory_in file.profile file.bytes tokens fault → IsOnlyParseFault file tokens fault → IsFileError IsGrammarFault file (grammar_error path fault)
parse_error path file tokens grammar.NoMemory at are h o = tt
parse_error path file tokens (grammar.Syntax offset) at are h o = record { at_file = at; is_fault = (tokens, are, h); only = only }
  where
    only : (b : ℕ) (k : FaultKind) → IsGrammarFault file b k → (b ≡ offset) × (k ≡ kind.Syntax)
    only b kind.Syntax f =
        ⊎_elim (λ e. let same : b ≡ offset = cc in (same, refl)) (λ e. absurd (cc)) (o (grammar.Syntax b) (of_tokens file tokens are (λ ts. IsSyntaxIn file.profile file.bytes ts b) f))
    only b kind.TooDeep f =
        ⊎_elim (λ e. absurd (cc)) (λ e. absurd (cc)) (o (grammar.TooDeep b) (of_tokens file tokens are (λ ts. IsTooDeepIn file.profile file.bytes ts b) f))
    only b _ f = absurd f
parse_error path file tokens (grammar.TooDeep offset) at are h o = record { at_file = at; is_fault = (tokens, are, h); only = only }
  where
    only : (b : ℕ) (k : FaultKind) → IsGrammarFault file b k → (b ≡ offset) × (k ≡ kind.TooDeep)
    only b kind.TooDeep f =
        ⊎_elim (λ e. let same : b ≡ offset = cc in (same, refl)) (λ e. absurd (cc)) (o (grammar.TooDeep b) (of_tokens file tokens are (λ ts. IsTooDeepIn file.profile file.bytes ts b) f))
    only b kind.Syntax f =
        ⊎_elim (λ e. absurd (cc)) (λ e. absurd (cc)) (o (grammar.Syntax b) (of_tokens file tokens are (λ ts. IsSyntaxIn file.profile file.bytes ts b) f))
    only b _ f = absurd f

-- Tokens without a fault of the parser have no fault of the grammar.
pub no_grammar_fault : (file : FileOf) (tokens : List Token) → AreFileTokens file tokens → ((fault : ParseFault) → IsParseFaultIn file.profile file.bytes tokens fault → ⊥) → HasNone IsGrammarFault file
no_grammar_fault file tokens are no_fault offset kind.Syntax f = no_fault (grammar.Syntax offset) (of_tokens file tokens are (λ ts. IsSyntaxIn file.profile file.bytes ts offset) f)
no_grammar_fault file tokens are no_fault offset kind.TooDeep f = no_fault (grammar.TooDeep offset) (of_tokens file tokens are (λ ts. IsTooDeepIn file.profile file.bytes ts offset) f)
no_grammar_fault file tokens are no_fault offset _ f = absurd f
