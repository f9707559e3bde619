-- Messages, enums and extensions by their full names, where one file loses a field.
use Rattle.std.proofs.Common.{◌≡◌, ℕ, zero, suc, ◌+◌, ◌<◌, inl, inr, List, [], ◌∷◌, ◌++◌, length, get_or, map, None, sym, ◌∙◌, ap, subst, arith, Contains}
use Rattle.proto_case.specs.Camel.{entry_name}
use Rattle.proto_files.proofs.Common.{AreRead, FileOf, ReadOf, file_at, read_at}
use Rattle.proto_files.specs.Faults.{HasNoFault}
use Rattle.proto_names_rules.proofs.Common.{map_map}
use Rattle.proto_names_rules.specs.Names.{Name}
use Rattle.proto_names_rules.specs.Skeleton.{Source, Token, name_of, spell}
use Rattle.proto_names_rules.specs.Tree.{Placed, package_of}
use Rattle.proto_names_outline.specs.FromTree.{items_in}
use Rattle.proto_names_imports.specs.Links.{LinkFaults}
use Rattle.proto_ast.specs.Scenes.{text}
use Rattle.proto_desc_build.specs.Described.{file_described, package_named, package_prefix}
use Rattle.proto_desc.specs.Checked.{described, described_from}
use Rattle.proto_descriptors.specs.Descriptors.{EnumDesc, FieldDesc, FileDesc, MessageDesc}
use Rattle.proto_resolved.specs.SceneOf.{scene_of}
use Rattle.proto_edit_rules.specs.DeleteField.{mapped_deletion, without_field}
use Rattle.proto_edit_rules.specs.OptionViews.{IsEnumOf, IsExtensionOf, IsMessageBelow, IsMessageOf, in_file, in_message, package_words}
use Rattle.proto_edit_rules.specs.Statements.{changed_at, tree_at}
use Rattle.proto_edit_statement_laws.specs.Trees.{placed_in}
use Rattle.proto_option_laws.proofs.Declared.{package_is}
use Rattle.proto_option_statement_laws.proofs.DeletedMessages.{Becomes, becomes_as, goes, items_so, loses, message_becomes, stays}
use Rattle.proto_option_statement_laws.proofs.Lists.{StandsAt, changed_from, changed_to}
use Rattle.proto_option_statement_laws.proofs.Messages.{message_was}
use Rattle.proto_option_statement_laws.proofs.Views.{WasThere}

-- the descriptor of a file of which this is read
abbrev descriptor : List FileOf → List ReadOf → ℕ → ReadOf → FileDesc
descriptor files reads k r = file_described (scene_of None files reads k) (file_at files k).path r.tree

described_at : (files : List FileOf) (reads : List ReadOf) (n : ℕ) (rs : List ReadOf) (k : ℕ) (d : FileDesc) → k < length rs → get_or (described_from files reads n rs) k d ≡ descriptor files reads (n + k) (read_at rs k)
described_at files reads n [] k d l = absurd (omega (arith, l))
described_at files reads n (r ∷ rs) zero d l = let e : n ≡ n + 0 = omega arith in ap (λ i. descriptor files reads i r) e
described_at files reads n (r ∷ rs) (suc k) d l =
    let e : suc n + k ≡ n + suc k = omega arith in
    described_at files reads (suc n) rs k d (omega (arith, l)) ∙ ap (λ i. descriptor files reads i (read_at rs k)) e

module _ (files : List FileOf) (reads : List ReadOf) (r : AreRead files reads) (ok : HasNoFault (LinkFaults files)) (file token : ℕ) (inside : file < length files) where
  -- what the file declares
  abbrev pub IsHere : Placed → Type 0
  IsHere p = Contains (placed_in (tree_at reads file)) p

  -- the descriptors then
  abbrev pub descriptors_now : List FileDesc
  descriptors_now = changed_at file (mapped_deletion token (tree_at reads file)) (described files reads)

  abbrev own : FileDesc
  own = descriptor files reads file (read_at reads file)

  own_at : (d : FileDesc) → StandsAt file (described files reads) d → d ≡ own
  own_at d s =
      let l : file < length reads = omega (arith, inside, r.same) in
      let e : 0 + file ≡ file = omega arith in
      sym s.1 ∙ described_at files reads 0 reads file d l ∙ ap (λ i. descriptor files reads i (read_at reads file)) e

  -- ---- messages

  abbrev package_path : List (Source ℕ)
  package_path = map (λ t. Token t) (package_of (items_in (tree_at reads file)))

  package_named_so : package_words own ≡ name_of (text (scene_of None files reads file)) entry_name package_path
  package_named_so = package_is files reads r ok file inside ∙ sym (map_map (λ t. Token t) (spell (text (scene_of None files reads file)) entry_name) (package_of (items_in (tree_at reads file))))

  pub message_of_becomes : (name : Name) (m : MessageDesc) → IsMessageOf (described files reads) name m → Becomes (scene_of None files reads file) token IsHere (IsMessageOf descriptors_now name) name m
  message_of_becomes name m is = elim (changed_to file (mapped_deletion token (tree_at reads file)) (described files reads) is.file is.within) [
    | inl c ↦ stays (record { file = is.file; within = c; below = is.below })
    | inr c ↦
        let e = own_at is.file c.0 in
        let there : Contains descriptors_now (mapped_deletion token (tree_at reads file) own) = subst (λ z. Contains descriptors_now (mapped_deletion token (tree_at reads file) z)) e c.1 in
        let below : IsMessageBelow (package_words own) own.message_type name m = subst (λ (z : FileDesc). IsMessageBelow (package_words z) z.message_type name m) e is.below in
        becomes_as (λ n b. record { file = mapped_deletion token (tree_at reads file) own; within = there; below = b })
        (message_becomes (scene_of None files reads file) token IsHere package_path (package_words own) (package_prefix (package_named (scene_of None files reads file) (package_of (items_in (tree_at reads file))))) (tree_at reads file) package_named_so
        (items_so IsHere package_path (tree_at reads file) (λ p d. d)) name m below)
  ]

  pub message_was_there : (name : Name) (n : MessageDesc) → IsMessageOf descriptors_now name n → WasThere (described files reads) name n
  message_was_there name n is =
      let c = changed_from file (mapped_deletion token (tree_at reads file)) (described files reads) is.file is.within in
      elim c.2 [
        | inl e ↦ record { m = n; is = record { file = c.0; within = c.1; below = subst (λ (z : FileDesc). IsMessageBelow (package_words z) z.message_type name n) e is.below }; fields = λ f d. d }
        | inr e ↦
            let w = message_was token (tree_at reads file) (package_words c.0) c.0.message_type name n (subst (λ (z : FileDesc). IsMessageBelow (package_words z) z.message_type name n) e.1 is.below) in
            record { m = w.m; is = record { file = c.0; within = c.1; below = w.below }; fields = w.fields }
      ]

  -- ---- extensions and enums, of which an entry has none

  nothing_in : {A B : Type 0} (x : A) → Contains [] x → B
  nothing_in x c = absurd (omega (arith, c.1))

  pub extension_stays : (name : Name) (x : FieldDesc) → IsExtensionOf (described files reads) name x → IsExtensionOf descriptors_now name x
  extension_stays _ _ (in_file d x c cx) = elim (changed_to file (mapped_deletion token (tree_at reads file)) (described files reads) d c) [
    | inl same ↦ in_file d x same cx
    | inr changed ↦ in_file (mapped_deletion token (tree_at reads file) d) x changed.1 cx
  ]
  extension_stays _ _ (in_message name m x is cx) = by (message_of_becomes name m is)
    where
      by : Becomes (scene_of None files reads file) token IsHere (IsMessageOf descriptors_now name) name m → IsExtensionOf descriptors_now (name ++ x.name ∷ []) x
      by (stays n) = in_message name m x n cx
      by (loses full path at_name inner e named so n) = in_message name (without_field token inner m) x n cx
      by (goes path f e named so) = nothing_in x (subst (λ (z : MessageDesc). Contains z.extension x) e cx)

  pub enum_stays : (name : Name) (x : EnumDesc) → IsEnumOf (described files reads) name x → IsEnumOf descriptors_now name x
  enum_stays _ _ (in_file d x c cx) = elim (changed_to file (mapped_deletion token (tree_at reads file)) (described files reads) d c) [
    | inl same ↦ in_file d x same cx
    | inr changed ↦ in_file (mapped_deletion token (tree_at reads file) d) x changed.1 cx
  ]
  enum_stays _ _ (in_message name m x is cx) = by (message_of_becomes name m is)
    where
      by : Becomes (scene_of None files reads file) token IsHere (IsMessageOf descriptors_now name) name m → IsEnumOf descriptors_now (name ++ x.name ∷ []) x
      by (stays n) = in_message name m x n cx
      by (loses full path at_name inner e named so n) = in_message name (without_field token inner m) x n cx
      by (goes path f e named so) = nothing_in x (subst (λ (z : MessageDesc). Contains z.enum_type x) e cx)
