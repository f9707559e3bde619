-- What is read of one file is what is read of it, in any reading.
use Rattle.std.proofs.Common.{◌≡◌, ℕ, ◌<◌, Bool, List, length, map, sym, ap, ◌∙◌}
use Rattle.proto_text.specs.declared.lexer.Token.{Token}
use Rattle.proto_text.specs.Tokens.{Lexeme, lexeme_at}
use Rattle.proto_tree.specs.Tree.{Tree}
use Rattle.proto_files.proofs.Common.{FileOf, file_at, AreTokensOf, ReadOf, AreRead, read_at, IsTreeOf, same_tree}
use Rattle.proto_ast.specs.Scenes.{Scene, is_proto3, value_in}
use Rattle.proto_edit_captures.specs.SceneOf.{lexemes_of}
use Rattle.proto_edit_rename.specs.Members.{IsReadAs}

pub is_read_as : (files : List FileOf) (file : ℕ) → file < length files → (words : List Lexeme) → ((tokens : List Token) → AreTokensOf files file tokens → words ≡ map (lexeme_at (file_at files file).bytes) tokens)
    → (tree : Tree) → IsTreeOf (file_at files file) tree → (reads : List ReadOf) → AreRead files reads
    → (proto3 : Bool) → proto3 ≡ is_proto3 (value_in words) tree → (scene : Scene) → scene.lexemes ≡ words → scene.is_proto3 ≡ proto3 → IsReadAs files reads file scene
is_read_as files file within words spelled tree of_file reads are proto3 p scene l v =
    let words_are : words ≡ lexemes_of files reads file = spelled (read_at reads file).tokens (are.tokens file within) in
    record {
      lexemes = l ∙ words_are;
      version = v
          ∙ p
          ∙ ap (λ (ls : List Lexeme). is_proto3 (value_in ls) tree) words_are
          ∙ ap (λ (t : Tree). is_proto3 (value_in (lexemes_of files reads file)) t) (sym (same_tree files reads file tree are within of_file));
    }
