-- The options of files of which one imports another file as well, or no more.
use Rattle.std.proofs.Common.{◌≡◌, ℕ, List, refl, sym, subst, Contains}
use Rattle.proto_base.proofs.Common.{contains_map, from_map}
use Rattle.proto_custom_options.specs.CustomOptions.{CustomOf, custom_words, customs_in}
use Rattle.proto_files.proofs.Common.{FileOf, ReadOf}
use Rattle.proto_files.specs.Faults.{HasNoFault}
use Rattle.proto_names_imports.specs.Links.{LinkFaults}
use Rattle.proto_desc.specs.Checked.{AreDescribed}
use Rattle.proto_descriptors.specs.Descriptors.{FileDesc}
use Rattle.proto_edit_rules.specs.AddImport.{with_dependency}
use Rattle.proto_edit_rules.specs.DropImport.{without_dependency}
use Rattle.proto_edit_rules.specs.OptionViews.{OptionsStay, texts_at}
use Rattle.proto_edit_rules.specs.Statements.{changed_at, tree_at}
use Rattle.proto_edit_statement_described.proofs.Common.{additions_map_descriptors, drops_map_descriptors}
use Rattle.proto_edit_statement_described.specs.Files.{IsDrop, IsFileAddition, OthersStay, scene_at}
use Rattle.proto_edit_statement_laws.specs.Options.{ImportsMoveOptions, OptionsMoveTokens, move_custom_of}
use Rattle.proto_option_statement_laws.proofs.ImportedTypes.{LeavesTypes, sees_types}
use Rattle.proto_option_statement_laws.proofs.SameOptions.{IsSameIn, Old, old_by, options_stay, same_back, same_moved}

added_leaves : (path : List ℕ) → LeavesTypes (with_dependency path)
added_leaves path = record { words = λ d. refl; messages = λ d. refl; enums = λ d. refl; extensions = λ d. refl }

dropped_leaves : (path : List ℕ) → LeavesTypes (without_dependency path)
dropped_leaves path = record { words = λ d. refl; messages = λ d. refl; enums = λ d. refl; extensions = λ d. refl }

module _ (files : List FileOf) (reads : List ReadOf) (after : List FileOf) (seen : List ReadOf) (place : ℕ) (ok : HasNoFault (LinkFaults files)) (fine : HasNoFault (LinkFaults after)) (others : OthersStay files reads after seen place) where
  imports_leave : (f : FileDesc → FileDesc) → LeavesTypes f → ((e : CustomOf) → Contains (customs_in (tree_at seen place)) e → Old files reads after seen place e) → (ds new : List FileDesc) → AreDescribed files ds → new ≡ changed_at place f ds
      → OptionsStay (λ t. t) files after reads seen ds new
  imports_leave f leaves here ds new was mapped =
      subst (λ z. OptionsStay (λ t. t) files after reads seen ds z) (sym mapped)
      (options_stay files reads after seen others.read ok others.seen_are fine ds (changed_at place f ds) (old_by files reads after seen place ok fine others here ds (changed_at place f ds))
      (λ k c within name x means is. sees_types f leaves place ds (texts_at files reads k (custom_words c.custom)) name x is))

pub addition_leaves_options : OptionsMoveTokens → ImportsMoveOptions → (files : List FileOf) (reads : List ReadOf) (after : List FileOf) (seen : List ReadOf) (place : ℕ) (path : List ℕ) → HasNoFault (LinkFaults files) → HasNoFault (LinkFaults after)
    → IsFileAddition files reads after seen place path → (ds new : List FileDesc) → AreDescribed files ds → AreDescribed after new → OptionsStay (λ t. t) files after reads seen ds new
addition_leaves_options tokens moves files reads after seen place path ok fine a ds new was is =
    imports_leave files reads after seen place ok fine a.others (with_dependency path) (added_leaves path) (λ e c.
    let m = from_map (move_custom_of a.move) (customs_in (tree_at reads place)) e (subst (λ (cs : List CustomOf). Contains cs e) (moves a.move (tree_at reads place) (tree_at seen place) a.trees.others) c) in
    (m.0, m.1, subst (λ z. IsSameIn (scene_at files reads place) (scene_at after seen place) m.0 z) m.2 (same_moved tokens a.move (scene_at files reads place) (scene_at after seen place) a.scenes m.0)))
    ds new was (additions_map_descriptors files reads after seen place path a ds new was is)

pub drop_leaves_options : OptionsMoveTokens → ImportsMoveOptions → (files : List FileOf) (reads : List ReadOf) (after : List FileOf) (seen : List ReadOf) (place : ℕ) (path : List ℕ) → HasNoFault (LinkFaults files) → HasNoFault (LinkFaults after)
    → IsDrop files reads after seen place path → (ds new : List FileDesc) → AreDescribed files ds → AreDescribed after new → OptionsStay (λ t. t) files after reads seen ds new
drop_leaves_options tokens moves files reads after seen place path ok fine a ds new was is =
    imports_leave files reads after seen place ok fine a.others (without_dependency path) (dropped_leaves path) (λ e c.
    let there : Contains (customs_in (tree_at reads place)) (move_custom_of a.move e) = subst (λ (cs : List CustomOf). Contains cs (move_custom_of a.move e)) (sym (moves a.move (tree_at seen place) (tree_at reads place) a.trees.others))
    (contains_map (move_custom_of a.move) (customs_in (tree_at seen place)) e c) in
    (move_custom_of a.move e, there, same_back (same_moved tokens a.move (scene_at after seen place) (scene_at files reads place) a.scenes e)))
    ds new was (drops_map_descriptors files reads after seen place path a ds new was is)
