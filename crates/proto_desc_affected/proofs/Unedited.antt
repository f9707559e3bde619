-- What is read of a file that is not edited is what it was, and so are its enums.
use Rattle.std.proofs.Common.{◌≡◌, ℕ, ◌<◌, List, length, map, find, option_map, slice_get, sym, ◌∙◌, ap, ap₂, subst, arith, Contains}
use Rattle.proto_base.proofs.Common.{length-map}
use Rattle.proto_text.specs.Texts.{words}
use Rattle.proto_text.specs.Tokens.{Lexeme, lexeme_at}
use Rattle.proto_tree.specs.Reads.{ReadsIn}
use Rattle.proto_files.proofs.Common.{FileOf, ReadOf, file_at, one_reading, read_at}
use Rattle.proto_names_rules.specs.Grown.{At, at}
use Rattle.proto_names_imports.specs.Links.{text_of}
use Rattle.proto_ast.specs.Parts.{BlockOf, blocks_in}
use Rattle.proto_ast.specs.Scenes.{is_proto3, string_of}
use Rattle.proto_names_update.specs.Edited.{AreEdited}
use Rattle.proto_resolved.specs.SceneOf.{enum_at, enum_within, is_enum_at, is_proto3_file, lexemes_of}

module _ (places : List ℕ) (before : List FileOf) (was : List ReadOf) (files : List FileOf) (reads : List ReadOf) (are : AreEdited places before was files reads) where
  pub as_many : length before ≡ length files
  as_many = sym (length-map before (λ (f : FileOf). f.path)) ∙ ap length are.same.paths ∙ length-map files (λ (f : FileOf). f.path)

  module _ (file : ℕ) (within : file < length files) (left : Contains places file → ⊥) where
    pub same_file : file_at files file ≡ file_at before file
    same_file = sym (are.same.others file within left)

    pub same_reading : read_at reads file ≡ read_at was file
    same_reading =
        let there : ReadsIn (file_at before file).profile (file_at before file).bytes (read_at was file).tokens (read_at was file).tree = are.were_read.trees file (omega (arith, within, as_many)) in
        one_reading (file_at files file).profile (file_at files file).bytes (read_at reads file) (read_at was file) (are.are_read.trees file within)
        (subst (λ (f : FileOf). ReadsIn f.profile f.bytes (read_at was file).tokens (read_at was file).tree) (sym same_file) there)

    pub same_text : (i : ℕ) → text_of files reads (at file i) ≡ text_of before was (at file i)
    same_text i = ap₂ (λ (f : FileOf) (r : ReadOf). words f.bytes r.tokens i) same_file same_reading

    pub same_lexemes : lexemes_of files reads file ≡ lexemes_of before was file
    same_lexemes = ap₂ (λ (f : FileOf) (r : ReadOf). map (lexeme_at f.bytes) r.tokens) same_file same_reading

    pub same_version : is_proto3_file files reads file ≡ is_proto3_file before was file
    same_version = ap₂ (λ (ls : List Lexeme) (r : ReadOf). is_proto3 (λ token. string_of (slice_get ls token)) r.tree) same_lexemes same_reading

    same_enum : (i : ℕ) → enum_at files reads (at file i) ≡ enum_at before was (at file i)
    same_enum i = λ j. option_map (λ (b : BlockOf). enum_within (same_lexemes j) (same_version j) b.within) (find (λ (b : BlockOf). is_enum_at i b.header) (blocks_in (same_reading j).tree))

    pub same_enums : (a : At) → a.file ≡ file → enum_at files reads a ≡ enum_at before was a
    same_enums a e = ap (λ k. enum_at files reads (at k a.token)) e ∙ same_enum a.token ∙ sym (ap (λ k. enum_at before was (at k a.token)) e)
