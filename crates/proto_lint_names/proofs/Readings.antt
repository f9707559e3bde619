-- What a reading of the code says is what is read of the file.
use Rattle.std.proofs.Common.{◌≡◌, ℕ, ◌<◌, Bool, true, false, ◌==◌, List, [], ◌∷◌, length, map, get_or, Option, Some, None, Bor, option_map, refl, ap, ◌∙◌, find, option_and_then, unwrap_or}
use Rattle.proto_base.specs.Texts.{or_nothing}
use Rattle.proto_text.specs.declared.lexer.Token.{Token}
use Rattle.proto_text.specs.Tokens.{AreTokens, Lexeme, lexeme_at}
use Rattle.proto_tree.specs.declared.tree.Separated.{Separated}
use Rattle.proto_tree.specs.References.{first_of}
use Rattle.proto_files.proofs.Common.{FileOf, file_at, ReadOf, AreRead, read_at, tokens_at}
use Rattle.proto_names.specs.Linking.{Meant}
use Rattle.proto_names.proofs.Common.{IsLinkOf, meant_by_link, LinkOf, row_at, name_text}
use Rattle.proto_lint_names.specs.Readings.{read_of_file, LintFile}

-- ---- what a reference means

pub first_is : (dot : Option ℕ) (words : Separated ℕ) → unwrap_or dot words.first ≡ first_of dot words
first_is None words = refl
first_is (Some d) words = refl

abbrev text_of_first : LinkOf → List Meant → ℕ → List ℕ
text_of_first l ms token = or_nothing (option_and_then (λ m. m.text) (find (λ m. m.token == token) (map (meant_by_link l) ms)))

abbrev pub text_of_row : LinkOf → Option ℕ → List ℕ
text_of_row l row = or_nothing (option_and_then (name_text l) row)

text_step : (l : LinkOf) (m : Meant) (ms : List Meant) (token : ℕ) (b : Bool) → (m.token == token) ≡ b → text_of_first l ms token ≡ text_of_row l (row_at ms token) → text_of_first l (m ∷ ms) token ≡ text_of_row l (row_at (m ∷ ms) token)
text_step l m ms token true e rest = simp e
text_step l m ms token false e rest = simp e rest

pub text_by_row : (l : LinkOf) (ms : List Meant) (token : ℕ) → text_of_first l ms token ≡ text_of_row l (row_at ms token)
text_by_row l [] token = refl
text_by_row l (m ∷ ms) token = text_step l m ms token (m.token == token) refl (text_by_row l ms token)

pub text_is : (t : Option (Bor (List ℕ))) (other : Bor (List ℕ)) → other.now ≡ [] → (unwrap_or t other).now ≡ or_nothing (option_map (λ s. s.now) t)
text_is None other e = e
text_is (Some s) other e = refl

-- ---- what is read of a file

pub read_is : (files : List FileOf) (reads : List ReadOf) → AreRead files reads → (l : LinkOf) → IsLinkOf files l → (file : ℕ) → file < length files
    → (text : List ℕ) → text ≡ (file_at files file).bytes → (tokens : List Token) → AreTokens (file_at files file).bytes tokens
    → (words : List Lexeme) → words ≡ map (lexeme_at text) tokens
    → (let r : LintFile = record { tokens = tokens; lexemes = words; means = map (meant_by_link l) (get_or l.meant file []) } in r) ≡ read_of_file files reads file
read_is files reads are l linked file within text same tokens lexed words spelled =
    let t = tokens_at files reads are file tokens within lexed in
    let w : words ≡ map (lexeme_at (file_at files file).bytes) (read_at reads file).tokens = spelled ∙ ap (λ (b : List ℕ). map (lexeme_at b) tokens) same ∙ ap (map (lexeme_at (file_at files file).bytes)) t in
    let m = ((linked reads are).means file within).texts in
    λ i. record { tokens = t i; lexemes = w i; means = m i }
