-- What the code reads of a file is what is read of it, in any reading.
use Rattle.std.proofs.Common.{◌≡◌, ℕ, ◌<◌, Bool, List, length, map, Some, option_map, sym, ap, ◌∙◌, find}
use Rattle.indexmap.specs.IndexMap.{IndexMap}
use Rattle.proto_base.specs.declared.profile.Profile.{Profile}
use Rattle.proto_text.specs.declared.lexer.Token.{Token}
use Rattle.proto_text.specs.Tokens.{Lexeme, lexeme_at}
use Rattle.proto_tree.specs.Tree.{Tree}
use Rattle.proto_files.proofs.Common.{FileOf, file_at, AreTokensOf, ReadOf, AreRead, read_at, IsTreeOf, same_tree}
use Rattle.proto_names_rules.specs.Grown.{at}
use Rattle.proto_ast.proofs.Common.{past, blocks_in, MeantOf, Scene, is_proto3, value_in}
use Rattle.proto_resolved.specs.Common.{AreEnumsOf, enum_row_at, enum_at, enum_within, is_enum_at, is_proto3_file, lexemes_of, means_of, scene_of, EnumRow}

module _ (files : List FileOf) (file : ℕ) (within : file < length files) (words : List Lexeme) (spelled : (tokens : List Token) → AreTokensOf files file tokens → words ≡ map (lexeme_at (file_at files file).bytes) tokens) (tree : Tree) (of_file : IsTreeOf (file_at files file) tree) (reads : List ReadOf) (are : AreRead files reads) where
  words_are : words ≡ lexemes_of files reads file
  words_are = spelled (read_at reads file).tokens (are.tokens file within)

  pub proto3_is : is_proto3 (value_in words) tree ≡ is_proto3_file files reads file
  proto3_is =
      ap (λ (ls : List Lexeme). is_proto3 (value_in ls) tree) words_are
      ∙ ap (λ (t : Tree). is_proto3 (value_in (lexemes_of files reads file)) t) (sym (same_tree files reads file tree are within of_file))

  pub scene_is : (profile : Profile) → profile ≡ (file_at files file).profile → (proto3 : Bool) → proto3 ≡ is_proto3 (value_in words) tree → (means : List MeantOf) → means ≡ means_of files reads file
      → (scene : Scene) → scene ≡ (let s : Scene = record { lexemes = words; cap = Some past; profile = profile; is_proto3 = proto3; means = means } in s) → scene ≡ scene_of (Some past) files reads file
  scene_is profile q proto3 p means m scene is =
      let version : proto3 ≡ is_proto3_file files reads file = p ∙ proto3_is in
      let now : (let s : Scene = record { lexemes = words; cap = Some past; profile = profile; is_proto3 = proto3; means = means } in s) ≡ scene_of (Some past) files reads file =
      λ i. record { lexemes = words_are i; cap = Some past; profile = q i; is_proto3 = version i; means = m i } in
      is ∙ now

  pub rows_are : {S : Type 0} (proto3 : Bool) → proto3 ≡ is_proto3 (value_in words) tree → (rows : IndexMap ℕ EnumRow S) → AreEnumsOf words proto3 (blocks_in tree) rows → (token : ℕ) → enum_row_at rows token ≡ enum_at files reads (at file token)
  rows_are proto3 p rows h token =
      h token
      ∙ ap (λ (ls : List Lexeme). option_map (λ b. enum_within ls proto3 b.within) (find (λ b. is_enum_at token b.header) (blocks_in tree))) words_are
      ∙ ap (λ (q : Bool). option_map (λ b. enum_within (lexemes_of files reads file) q b.within) (find (λ b. is_enum_at token b.header) (blocks_in tree))) (p ∙ proto3_is)
      ∙ ap (λ (t : Tree). option_map (λ b. enum_within (lexemes_of files reads file) (is_proto3_file files reads file) b.within) (find (λ b. is_enum_at token b.header) (blocks_in t))) (sym (same_tree files reads file tree are within of_file))
