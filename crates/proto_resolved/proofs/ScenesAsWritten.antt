-- What is read of files as written is what is read of them in the core language, but for the language (for the crates above).
use Rattle.std.proofs.Common.{◌≡◌, ℕ, List, map, Option, Some, None, option_and_then, option_map, refl, ap, ◌∙◌, find}
use Rattle.proto_base.specs.Texts.{Text}
use Rattle.proto_text.specs.Tokens.{Lexeme, lexeme_at}
use Rattle.proto_files.proofs.Common.{FileOf, ReadOf, file_at, read_at}
use Rattle.proto_files.specs.Laws.{as_written}
use Rattle.proto_case.specs.Camel.{entry_name}
use Rattle.proto_names_rules.proofs.Common.{At, Declared, Used, joined, meaning, name_of, place_of, same_name}
use Rattle.proto_names.specs.Links.{used_named, uses_of}
use Rattle.proto_names_imports.proofs.FilesAsWritten.{bytes_same, names_same, skeleton_same, texts_same}
use Rattle.proto_ast.proofs.Common.{BlockOf, Scene, blocks_in, is_proto3, value_in}
use Rattle.proto_resolved.specs.Common.{enum_at, enum_named, enum_within, is_enum_at, is_proto3_file, lexemes_of, meaning_of, meant_as, means_of, scene_of}
use Rattle.proto_resolved.specs.SceneOf.{declared_as}

module _ (files : List FileOf) (reads : List ReadOf) where
  abbrev after : List FileOf
  after = map as_written files

  lexemes_same : (k : ℕ) → lexemes_of after reads k ≡ lexemes_of files reads k
  lexemes_same k = ap (λ (bytes : Text). map (lexeme_at bytes) (read_at reads k).tokens) (bytes_same files k)

  proto3_same : (k : ℕ) → is_proto3_file after reads k ≡ is_proto3_file files reads k
  proto3_same k = ap (λ (ls : List Lexeme). is_proto3 (value_in ls) (read_at reads k).tree) (lexemes_same k)

  -- ---- references

  pub declared_same : (name : List Text) → declared_as after reads name ≡ declared_as files reads name
  declared_same name = λ i. find (λ (d : Declared At). same_name (name_of (texts_same files reads i) entry_name d.path) name) (skeleton_same files reads i).declared

  pub meaning_same : (k : ℕ) (u : Used ℕ) → meaning_of after reads k u ≡ meaning_of files reads k u
  meaning_same k u = λ i. meaning (names_same files reads i) (used_named (texts_same files reads i) k u)

  enum_at_same : (a : At) → enum_at after reads a ≡ enum_at files reads a
  enum_at_same a = λ i. option_map (λ (b : BlockOf). enum_within (lexemes_same a.file i) (proto3_same a.file i) b.within) (find (λ (b : BlockOf). is_enum_at a.token b.header) (blocks_in (read_at reads a.file).tree))

  enum_same : (name : List Text) → enum_named after reads name ≡ enum_named files reads name
  enum_same name = λ i. option_and_then (λ (d : Declared At). enum_at_same (place_of d) i) (declared_same name i)

  named_same : (token : ℕ) (name : Option (List Text)) → meant_as after reads token name ≡ meant_as files reads token name
  named_same token None = refl
  named_same token (Some name) = λ i. record { token = token; name = joined name; enum = enum_same name i }

  meant_same : (k : ℕ) (u : Used ℕ) → meant_as after reads u.first (meaning_of after reads k u) ≡ meant_as files reads u.first (meaning_of files reads k u)
  meant_same k u = named_same u.first (meaning_of after reads k u) ∙ ap (meant_as files reads u.first) (meaning_same k u)

  means_same : (k : ℕ) → means_of after reads k ≡ means_of files reads k
  means_same k = λ i. map (λ (u : Used ℕ). meant_same k u i) (uses_of reads k)

  -- ---- files

  pub scene_same : (cap : Option ℕ) (k : ℕ) → scene_of cap after reads k ≡ (let s : Scene = record (scene_of cap files reads k) { profile = (file_at after k).profile } in s)
  scene_same cap k = λ i. record { lexemes = lexemes_same k i; cap = cap; profile = (file_at after k).profile; is_proto3 = proto3_same k i; means = means_same k i }
