-- What proofs of the crates above name of this crate, passed on from one place. Declares nothing.
pub use Rattle.proto_names_rules.proofs.Basics.{greatest_above, greatest_is, name_from_same, same_from_name}
pub use Rattle.proto_names_rules.proofs.Edited.{aim_renaming, linked_after, map_agree, map_append, map_map, name_after, one_declared, reference_after, workspace_after}
pub use Rattle.proto_names_rules.proofs.Files.{FileAt, declared_to, declares, files_nested, files_woven}
pub use Rattle.proto_names_rules.proofs.Following.{Follows, after_follows, filter_agree, filter_of_map, follows_after, follows_first, follows_kept, follows_map, follows_second, kept_follows, map_follows}
pub use Rattle.proto_names_rules.proofs.Forest.{cut_found, cut_missing, forest_more, get_front, get_last, last_named, name_some, names_apart, prefix_named, under_apart, under_pointed, under_some}
pub use Rattle.proto_names_rules.proofs.Grown.{snoc_parts}
pub use Rattle.proto_names_rules.proofs.Items.{file_stands, package_within, prefix_whole}
pub use Rattle.proto_names_rules.proofs.Joined.{at_point, joined_apart, not_pointed}
pub use Rattle.proto_names_rules.proofs.Ren.{last_parts, turn_below-length, turn_below-more, turn_below-nil}
pub use Rattle.proto_names_rules.proofs.Rename.{first_and_rest, hit_from, hit_relative, visible_from, visible_is}
pub use Rattle.proto_names_rules.proofs.Renamed.{each_means, has_meaning, meant}
pub use Rattle.proto_names_rules.proofs.RisingLists.{Rising, Spreads, pairs_append, rising_each, rising_pairs, rising_spreads}
pub use Rattle.proto_names_rules.proofs.Seeing.{reaches_all, reaches_only, sees_is}
pub use Rattle.proto_names_rules.proofs.Sound.{linked_from, names_sound, package_from, package_or, references_sound}
pub use Rattle.proto_names_rules.proofs.Symbols.{below_split, front_or_same, moves_to, one_symbol, package_stays, ren_apart, shown, split_last, stays, type_not_leaf, wanted_no_entry_field, wanted_no_field, wanted_no_package}
pub use Rattle.proto_names_rules.specs.Cycles.{IsAcyclic, Leads, onward, stop}
pub use Rattle.proto_names_rules.specs.Edits.{Collides, IsAddition, IsCaptured, IsNeeded, IsOvertaken, Renaming, import_of, in_domain, is_below, is_captured, moves, moves_by, ren, renamed, rewritten, shows_mapped, target, turn_below, turned, turned_by, with_imports}
pub use Rattle.proto_names_rules.specs.Faults.{AfterEarlier, AskedImport, Fault, ImportFault, FaultIsBefore, IsLeast, NameFault, ReferenceFault, cycle, double, earlier, fault, file_with_path, import_from_asked, imports_of, of_entry, of_package, place_from, place_of, unknown, unresolved, wrong_kind}
pub use Rattle.proto_names_rules.specs.Forest.{IsForest, front, under}
pub use Rattle.proto_names_rules.specs.Grown.{At, FileNames, IsGrown, all_declared, all_used, at, declared_of, file_declared, file_used, skeleton_of_files, used_in}
pub use Rattle.proto_names_rules.specs.Joined.{ArePlain, IsPlain, below, joined}
pub use Rattle.proto_names_rules.specs.Linked.{AreApart, ImportsAreOfFiles, EntryFits, IsLinked, IsNested, IsRenaming, is_leaf, is_package}
pub use Rattle.proto_names_rules.specs.Marks.{MarksSeen}
pub use Rattle.proto_names_rules.specs.Names.{Import, Reaches, Reference, Sees, Symbol, Workspace, along, by_import, fits_at_first, front_at, greatest, here, hit, hits_at, is_outer, is_type, itself, may_resolve_to, meaning, meaning_at, reaches, same_name, sees, shows, visible_as}
pub use Rattle.proto_names_rules.specs.Skeleton.{Declared, EntryOf, Given, IsAim, IsAimEntry, IsRespelled, IsWoven, Skeleton, Source, Token, Used, name_of, reference_of, renaming_of, shifted_declared, shifted_source, shifted_used, spell, symbol_of, workspace_of}
pub use Rattle.proto_names_rules.specs.Tree.{AllSpan, Items, ItemsSpan, Member, Members, Placed, Rises, Spans, all_placed, beside, enum, extend, field, file_placed, item, items_placed, key_word, map_field, member, message, no_items, no_members, oneof, package_of, packaged, place, placed, prefixes, service, token_of, value_word}
