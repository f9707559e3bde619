-- The options of files of which one loses a field.
use Rattle.std.proofs.Common.{◌≡◌, ℕ, List, [], ◌∷◌, sym, ◌∙◌, ap, subst, Contains, codes}
use Rattle.proto_custom_options.specs.CustomOptions.{CustomOf, customs_in}
use Rattle.proto_files.proofs.Common.{FileOf, ReadOf}
use Rattle.proto_files.specs.Faults.{HasNoFault}
use Rattle.proto_names_rules.specs.Grown.{At, at}
use Rattle.proto_names_imports.specs.Links.{LinkFaults, text_of}
use Rattle.proto_desc.specs.Checked.{AreDescribed, described}
use Rattle.proto_descriptors.specs.Descriptors.{FileDesc}
use Rattle.proto_edit_rules.specs.DeleteField.{mapped_deletion}
use Rattle.proto_edit_rules.specs.OptionViews.{OptionsStay}
use Rattle.proto_edit_rules.specs.Options.{IsOptionWord}
use Rattle.proto_edit_rules.specs.Statements.{changed_at, tree_at}
use Rattle.proto_edit_statement_described.proofs.Common.{deletions_map_descriptors}
use Rattle.proto_edit_statement_described.proofs.DeletedOptions.{of_tree}
use Rattle.proto_edit_statement_described.specs.Files.{IsFileDeletion, scene_at}
use Rattle.proto_edit_statement_described.specs.NamedTrees.{TreesAreNamed}
use Rattle.proto_edit_statement_laws.specs.Options.{OptionsMoveTokens, move_custom_of}
use Rattle.proto_option_statement_laws.proofs.DeletedViews.{sees}
use Rattle.proto_option_statement_laws.proofs.SameOptions.{IsSameIn, Old, old_by, options_stay, same_back, same_moved, same_then}

module _ (named : TreesAreNamed) (tokens : OptionsMoveTokens) (files : List FileOf) (reads : List ReadOf) (after : List FileOf) (seen : List ReadOf) (file token : ℕ) (ok : HasNoFault (LinkFaults files)) (fine : HasNoFault (LinkFaults after)) (d : IsFileDeletion files reads after seen file token)
    (unseen : (a : At) → IsOptionWord files reads file (text_of files reads (at file token) ∷ []) a → ⊥) where
  -- an option of the file is one of before
  old_here : (e : CustomOf) → Contains (customs_in (tree_at seen file)) e → Old files reads after seen file e
  old_here e c =
      let o = of_tree d.to_old d.to_new d.field d.reservation (codes "FileOptions") d.without (tree_at reads file) (tree_at seen file) d.trees e c in
      let was = move_custom_of d.to_old o.middle in
      let same : IsSameIn (scene_at files reads file) (scene_at after seen file) was (move_custom_of d.to_new o.middle) =
      same_then (same_back (same_moved tokens d.to_old d.middle (scene_at files reads file) d.old o.middle)) (same_moved tokens d.to_new d.middle (scene_at after seen file) d.new o.middle) in
      (was, o.was, subst (λ z. IsSameIn (scene_at files reads file) (scene_at after seen file) was z) (sym o.is) same)

  pub deletion_leaves_options : (ds new : List FileDesc) → AreDescribed files ds → AreDescribed after new → OptionsStay (λ t. t) files after reads seen ds new
  deletion_leaves_options ds new was is =
      let change = mapped_deletion token (tree_at reads file) in
      let mapped : described after seen ≡ changed_at file change (described files reads) = sym (is seen d.others.seen_are) ∙ deletions_map_descriptors files reads after seen file token d ds new was is ∙ ap (changed_at file change) (was reads d.others.read) in
      let stay : OptionsStay (λ t. t) files after reads seen (described files reads) (changed_at file change (described files reads)) =
      options_stay files reads after seen d.others.read ok d.others.seen_are fine (described files reads) (changed_at file change (described files reads)) (old_by files reads after seen file ok fine d.others old_here (described files reads) (changed_at file change (described files reads)))
      (λ k c within name x means isx. sees named files reads after seen file token ok fine d mapped unseen k c within name x means isx) in
      subst (λ z. OptionsStay (λ t. t) files after reads seen z new) (sym (was reads d.others.read))
      (subst (λ z. OptionsStay (λ t. t) files after reads seen (described files reads) z) (sym (is seen d.others.seen_are ∙ mapped)) stay)
