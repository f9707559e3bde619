-- The enums of files, where the tokens of one file are moved.
use Rattle.std.proofs.Common.{◌≡◌, ◌≢◌, ℕ, ◌==◌, Bool, not, List, [], ◌∷◌, map, find, Option, Some, None, option_map, refl, sym, ◌∙◌, ap, ap₂, inl, inr, slice_get, eq-eqb, ne_eqb}
use Rattle.std.proofs.lemmas.Bool.{cases_eq}
use Rattle.proto_text.proofs.Common.{word_at, Lexeme}
use Rattle.proto_tree.specs.declared.piece.Header.{Header}
use Rattle.proto_tree.specs.declared.piece.Header.TheVariants as header
use Rattle.proto_tree.specs.declared.tree.Value.{Value}
use Rattle.proto_tree.proofs.Common.{Move, move_header, move_tree, move_value, Tree}
use Rattle.proto_files.proofs.Common.{ReadOf, FileOf}
use Rattle.proto_names_rules.specs.Grown.{At, at}
use Rattle.proto_ast.proofs.Common.{number_value, BlockOf, blocks_in, values_in, EnumOf, is_proto3, string_of}
use Rattle.proto_desc_checks_laws.proofs.MovedParts.{file_blocks_moved, find_moved, maps_kept, move_block_of, values_moved}
use Rattle.proto_edit_statement_described.proofs.Common.{enum_at, enum_within, is_enum_at, is_proto3_file, lexemes_of, starts_past_zero, tree_at, imports_keep_versions}
use Rattle.proto_edit_statement_described.specs.MovedFiles.{AreMoved}
use Rattle.proto_edit_statement_described.proofs.MovedTexts.{each_moved, moved_at, own_text}

module _ (files : List FileOf) (reads : List ReadOf) (after : List FileOf) (seen : List ReadOf) (place : ℕ) (g : Move) (h : AreMoved files reads after seen place g) where
  pub version_own : is_proto3_file after seen place ≡ is_proto3_file files reads place
  version_own =
      imports_keep_versions g (λ i. string_of (slice_get (lexemes_of files reads place) i)) (λ i. string_of (slice_get (lexemes_of after seen place) i)) (tree_at reads place) (tree_at seen place) (λ i. ap string_of (h.own i)) h.tree

  -- ---- an enum of the file

  pub same_test : (i j : ℕ) → (g i == g j) ≡ (i == j)
  same_test i j = elim (cases_eq i j) [
    | inl e ↦ eq-eqb (g i) (g j) (ap g e) ∙ sym (eq-eqb i j e)
    | inr n ↦ ne_eqb (g i) (g j) (λ q. n (h.apart i j q)) ∙ sym (ne_eqb i j n)
  ]

  is_enum_moved : (t : ℕ) (k : Header) → is_enum_at (g t) (move_header g k) ≡ is_enum_at t k
  is_enum_moved t (header.Enum x) = same_test x.name t
  is_enum_moved t whole = refl

  starts_moved : (vs : List Value) → starts_past_zero (word_at (lexemes_of after seen place)) (map (move_value g) vs) ≡ starts_past_zero (word_at (lexemes_of files reads place)) vs
  starts_moved [] = refl
  starts_moved (v ∷ vs) = ap (λ (w : List ℕ). not (number_value w == 0)) (own_text files reads after seen place g h v.number.number)

  enum_of : Bool → Bool → List (List ℕ) → EnumOf
  enum_of proto3 starts values = record { is_proto3 = proto3; starts_past_zero = starts; values = values }

  within_moved : (w : Tree) → enum_within (lexemes_of after seen place) (is_proto3_file after seen place) (move_tree g w) ≡ enum_within (lexemes_of files reads place) (is_proto3_file files reads place) w
  unfolding enum_of
  within_moved w =
      let new = word_at (lexemes_of after seen place) in
      let old = word_at (lexemes_of files reads place) in
      let values : map (λ (v : Value). new v.name) (values_in (move_tree g w)) ≡ map (λ (v : Value). old v.name) (values_in w) =
      ap (map (λ (v : Value). new v.name)) (values_moved g w) ∙ maps_kept (move_value g) (λ (v : Value). old v.name) (λ (v : Value). new v.name) (λ v. own_text files reads after seen place g h v.name) (values_in w) in
      let starts : starts_past_zero new (values_in (move_tree g w)) ≡ starts_past_zero old (values_in w) = ap (starts_past_zero new) (values_moved g w) ∙ starts_moved (values_in w) in
      ap (λ b. enum_of b (starts_past_zero new (values_in (move_tree g w))) (map (λ (v : Value). new v.name) (values_in (move_tree g w)))) version_own
      ∙ ap₂ (enum_of (is_proto3_file files reads place)) starts values

  enum_here : (t : ℕ) → enum_at after seen (at place (g t)) ≡ enum_at files reads (at place t)
  enum_here t =
      ap (λ (bs : List BlockOf). option_map (λ (b : BlockOf). enum_within (lexemes_of after seen place) (is_proto3_file after seen place) b.within) (find (λ (b : BlockOf). is_enum_at (g t) b.header) bs)) (file_blocks_moved g (tree_at reads place) (tree_at seen place) h.tree)
      ∙ ap (option_map (λ (b : BlockOf). enum_within (lexemes_of after seen place) (is_proto3_file after seen place) b.within))
      (find_moved (move_block_of g) (λ (b : BlockOf). is_enum_at t b.header) (λ (b : BlockOf). is_enum_at (g t) b.header) (λ b. is_enum_moved t b.header) (blocks_in (tree_at reads place)))
      ∙ by (find (λ (b : BlockOf). is_enum_at t b.header) (blocks_in (tree_at reads place)))
    where
      by : (o : Option BlockOf) → option_map (λ (b : BlockOf). enum_within (lexemes_of after seen place) (is_proto3_file after seen place) b.within) (option_map (move_block_of g) o) ≡ option_map (λ (b : BlockOf). enum_within (lexemes_of files reads place) (is_proto3_file files reads place) b.within) o
      by None = refl
      by (Some b) = ap (λ (e : EnumOf). let o : Option EnumOf = Some e in o) (within_moved b.within)

  enum_there : (k t : ℕ) → k ≢ place → enum_at after seen (at k t) ≡ enum_at files reads (at k t)
  enum_there k t n =
      ap₂ (λ (ls : List Lexeme) (tree : Tree). option_map (λ (b : BlockOf). enum_within ls (is_proto3 (λ i. string_of (slice_get ls i)) tree) b.within) (find (λ (b : BlockOf). is_enum_at t b.header) (blocks_in tree)))
      (h.others k n) (h.trees k n)

  pub enum_moved : (a : At) → enum_at after seen (moved_at place g a) ≡ enum_at files reads a
  enum_moved = each_moved place g (enum_at files reads) (enum_at after seen) enum_here enum_there
