-- What proofs of this crate name of its own definitions, passed on from one place.
-- Declares nothing.
pub use Rattle.proto_names.specs.FileReferences.{AreFileMeant, AreLinked, IsFileReferenceError, IsFileLinked, IsFirstFlawed, IsLeastBad, flaw_number, uses_of}
pub use Rattle.proto_names.specs.LinkOfFiles.{AreNamesOf, HasNoImportFault, HasNoNameFault, HoldsNames, IsDeclaredBy, IsLinkBy, IsLinkRead, has_text, meant_by_link, meant_by_use, reference_id}
pub use Rattle.proto_names.specs.Linking.{LinkOf, MeantBy, NameOf, all_meant, declared_row, if_declared, is_empty, is_visible, meant_at, meant_in_file, name_at, name_of_row, references_to, row_at, sees_one}
pub use Rattle.proto_names.specs.Referring.{AreMeant, IsFaultless, IsFirstBad, IsFlawed, IsReadBy, IsReferenceError, enum_flaw, first_key, first_token_of_use, found_flaw, kind_flaw, reference_by, row_flaw, scope_above, word_key}
pub use Rattle.proto_names_update.specs.NamesOfFiles.{RowIsDeclaredIn, declared_names}
pub use Rattle.proto_names_table.specs.declared.ids.RefId.{RefId}
pub use Rattle.proto_names.specs.declared.references.BadReference.{BadReference}
pub use Rattle.proto_names_table.specs.declared.ids.Meant.{Meant}
pub use Rattle.proto_names.specs.declared.references.ReferenceFlaw.{ReferenceFlaw}
pub use Rattle.proto_names.specs.declared.references.ReferenceFlaw.TheVariants.{MapEntry, Unresolved, WrongKind}
