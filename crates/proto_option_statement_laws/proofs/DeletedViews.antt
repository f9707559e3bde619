-- What a reader of an option's value sees, where a field is deleted whose name is none of the option's words.
use Rattle.std.proofs.Common.{◌≡◌, ◌≢◌, ℕ, ◌<◌, List, [], ◌∷◌, ◌++◌, length, false, refl, sym, ◌∙◌, subst, arith, Contains, Some}
use Rattle.proto_base.proofs.Common.{contains_head}
use Rattle.proto_base.specs.Texts.{Text}
use Rattle.proto_case.specs.Camel.{entry_name}
use Rattle.proto_ast.specs.Options.{is_one_of}
use Rattle.proto_ast.specs.Scenes.{text}
use Rattle.proto_custom_options.specs.CustomOptions.{CustomOf, custom_words, customs_in}
use Rattle.proto_files.proofs.Common.{FileOf, ReadOf, read_at}
use Rattle.proto_files.specs.Faults.{HasNoFault}
use Rattle.proto_names_rules.specs.Grown.{At, at}
use Rattle.proto_names_rules.specs.Names.{Name}
use Rattle.proto_names_rules.specs.Skeleton.{EntryOf, Source, Token, name_of}
use Rattle.proto_names_rules.specs.Tree.{place}
use Rattle.proto_names_rules.specs.declared.kind.Kind.TheVariants.{Entry, Message as MessageKind, Package}
use Rattle.proto_names_imports.specs.Links.{LinkFaults, text_of}
use Rattle.proto_desc.specs.Checked.{described}
use Rattle.proto_descriptors.specs.Descriptors.{FieldDesc, FileDesc, MessageDesc}
use Rattle.proto_resolved.specs.SceneOf.{name_meant}
use Rattle.proto_edit_rename_laws.proofs.TokenRoles.{placed_declared}
use Rattle.proto_edit_rules.specs.DeleteField.{mapped_deletion, without_field}
use Rattle.proto_edit_rules.specs.OptionViews.{IsExtensionOf, IsFilled, IsMessageOf, SeesTheSame, message_view, of_extension, of_field, texts_at}
use Rattle.proto_edit_rules.specs.Options.{IsOptionWord}
use Rattle.proto_edit_rules.specs.Statements.{changed_at, tree_at}
use Rattle.proto_edit_statement_described.specs.Files.{IsFileDeletion, scene_at}
use Rattle.proto_edit_statement_described.specs.NamedTrees.{TreesAreNamed}
use Rattle.proto_edit_statement_laws.specs.Trees.{placed_in}
use Rattle.proto_option_laws.proofs.Declared.{extensions_are_declared}
use Rattle.proto_option_laws.proofs.Filled.{filled_are_reached, filled_are_unaffected}
use Rattle.proto_option_laws.specs.Declared.{IsDeclaredExtension, IsReached}
use Rattle.proto_option_statement_laws.proofs.DeletedMessages.{Becomes, goes, loses, stays}
use Rattle.proto_option_statement_laws.proofs.DeletedTypes.{enum_stays, extension_stays, message_of_becomes, message_was_there}
use Rattle.proto_option_statement_laws.proofs.NotDeclared.{declares, entry_is_gone, name_here}
use Rattle.proto_option_statement_laws.proofs.Views.{filled_before, named_stays, same_view}

module _ (named : TreesAreNamed) (files : List FileOf) (reads : List ReadOf) (after : List FileOf) (seen : List ReadOf) (file token : ℕ) (ok : HasNoFault (LinkFaults files)) (fine : HasNoFault (LinkFaults after)) (d : IsFileDeletion files reads after seen file token)
    (mapped : described after seen ≡ changed_at file (mapped_deletion token (tree_at reads file)) (described files reads)) (unseen : (a : At) → IsOptionWord files reads file (text_of files reads (at file token) ∷ []) a → ⊥) where
  abbrev ds : List FileDesc
  ds = described files reads

  abbrev new : List FileDesc
  new = changed_at file (mapped_deletion token (tree_at reads file)) (described files reads)

  abbrev its_text : ℕ → List ℕ
  its_text = text (scene_at files reads file)

  module _ (k : ℕ) (c : CustomOf) (within : Contains (customs_in (read_at reads k).tree) c) (extension : Name) (x : FieldDesc) (means : name_meant files reads k c.custom.name ≡ Some extension) (isx : IsExtensionOf (described files reads) extension x) where
    abbrev these : List Text
    these = texts_at files reads k (custom_words c.custom)

    here : file < length reads
    here = let w = d.others.within in let s = d.others.read.same in omega (arith, w, s)

    -- the field's name is none of the words, where its message may be filled
    unaffected : (name : Name) → IsFilled these ds x name → (path : List (Source ℕ)) (own : ℕ) → Contains (placed_in (tree_at reads file)) (place path (Token own) MessageKind) → name ≡ name_of its_text entry_name (path ++ Token own ∷ []) → is_one_of these (its_text token) ≡ false
    unaffected name filled path own so e =
        filled_are_unaffected files reads d.others.read ok k c within extension x means isx name filled (declares file (place path (Token own) MessageKind)) (placed_declared files reads d.others.read file here (place path (Token own) MessageKind) so)
        (name_here files reads file (place path (Token own) MessageKind) ∙ sym e) no_package (text_of files reads (at file token) ∷ []) unseen (text_of files reads (at file token)) (contains_head (text_of files reads (at file token)) [])
      where
        no_package : MessageKind ≢ Package
        no_package e = cc

    -- ---- the entry

    declared : IsDeclaredExtension after seen extension x
    declared = extensions_are_declared after seen d.others.seen_are fine extension x (subst (λ z. IsExtensionOf z extension x) (sym mapped) (extension_stays files reads d.others.read ok file token d.others.within extension x isx))

    -- it may be filled no more
    gone : (name : Name) (path : List (Source ℕ)) → Contains (placed_in (tree_at reads file)) (place path (EntryOf token) Entry) → name ≡ name_of its_text entry_name (path ++ EntryOf token ∷ []) → IsFilled these new x name → ⊥
    gone name path so e filled =
        let q : IsReached after seen declared.d.file name = filled_are_reached after seen d.others.seen_are fine these extension x declared name (subst (λ z. IsFilled these z x name) (sym mapped) filled) in
        entry_is_gone named files reads after seen file token ok d path so q.d q.within (q.name_is ∙ e ∙ sym (name_here files reads file (place path (EntryOf token) Entry)))

    -- what may be filled is so then
    filled_now : (name : Name) → IsFilled these ds x name → IsFilled these new x name
    filled_now _ (of_extension name e) = of_extension name e
    filled_now _ (of_field name next m f filled is has one type) = by (filled_now name filled) (message_of_becomes files reads d.others.read ok file token d.others.within name m is)
      where
        by : IsFilled these new x name → Becomes (scene_at files reads file) token (λ p. Contains (placed_in (tree_at reads file)) p) (IsMessageOf new name) name m → IsFilled these new x next
        by now (stays n) = of_field name next m f now n has one type
        by now (loses full path own inner e named_so so n) = of_field name next (without_field token inner m) f now n (named_stays these (scene_at files reads file) full own token inner m e (unaffected name filled path own so named_so) f has one) one type
        by now (goes path mf e named_so so) = absurd (gone name path so named_so now)

    -- ---- all that a reader sees

    message_seen : (name : Name) (m : MessageDesc) → IsFilled these ds x name → Becomes (scene_at files reads file) token (λ p. Contains (placed_in (tree_at reads file)) p) (IsMessageOf new name) name m
        → (n : MessageDesc) × IsMessageOf new name n × (message_view (λ t. t) these n ≡ message_view (λ t. t) these m)
    message_seen name m filled (stays n) = (m, n, refl)
    message_seen name m filled (loses full path own inner e named_so so n) = (without_field token inner m, n, same_view these (scene_at files reads file) full own token inner m e (unaffected name filled path own so named_so))
    message_seen name m filled (goes path f e named_so so) = absurd (gone name path so named_so (filled_now name filled))

    pub sees : IsExtensionOf new extension x × SeesTheSame (λ t. t) these ds new x x
    sees = (
      extension_stays files reads d.others.read ok file token d.others.within extension x isx,
      record {
        own = refl;
        messages = λ name m filled is. message_seen name m filled (message_of_becomes files reads d.others.read ok file token d.others.within name m is);
        enums = λ name e filled is. (e, enum_stays files reads d.others.read ok file token d.others.within name e is, refl);
        none_new = λ next filled. (next, filled_before these ds new x (message_was_there files reads d.others.read ok file token d.others.within) next filled, refl);
      },
    )
