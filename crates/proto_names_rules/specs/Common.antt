-- What proofs of this crate name of its own definitions, passed on from one place.
-- Declares nothing.
pub use Rattle.proto_names_rules.specs.Edits.{Collides, IsAddition, IsCaptured, IsClear, IsNeeded, IsOvertaken, Renaming, any_above, captured_from, collides, collides_with, deleted, import_of, in_domain, is_below, is_captured, is_entry, is_entry_by, moves, moves_by, ren, renamed, renamed_at, renamed_reference, renamed_symbol, rewritten, shows_mapped, target, turn_below, turned, turned_by, with_imports}
pub use Rattle.proto_names_rules.specs.Grown.{At, FileNames, IsGrown, all_declared, all_used, at, declared_of, file_declared, file_used, skeleton_of, skeleton_of_files, used_in}
pub use Rattle.proto_names_rules.specs.Linked.{AreApart, ImportsAreOfFiles, EntryFits, EntryStands, IsDeletion, IsFree, IsLinked, IsNested, IsRenaming, holds, is_entry_field, is_leaf, is_package}
pub use Rattle.proto_names_rules.specs.Names.{Entry, EntryField, Enum, Extension, Field, Import, Kind, Message, Method, Oneof, Package, Reaches, Reference, Sees, Service, Symbol, Value, Wants, Workspace, along, by_import, fits_a_type, fits_alone, fits_an_option, fits_at_first, greatest, here, hit, hits_at, is_extension, is_outer, is_type, itself, may_resolve_to, meaning, meaning_at, reaches, same_name, sees, shows, visible_as}
pub use Rattle.proto_names_rules.specs.Skeleton.{Declared, EntryOf, Given, IsAim, IsAimEntry, IsRespelled, IsWoven, MeansDeclaration, Skeleton, Source, Token, Used, name_of, reference_of, renaming_of, shifted, shifted_declared, shifted_source, shifted_used, spell, symbol_of, workspace_of}
pub use Rattle.proto_names_rules.specs.Tree.{AllSpan, Items, ItemsSpan, Member, Members, Placed, Rises, Spans, all_placed, beside, enum, extend, field, file_placed, item, items_placed, key_word, map_field, member, message, no_items, no_members, oneof, package_of, packaged, place, placed, prefixes, service, token_of, value_word}
