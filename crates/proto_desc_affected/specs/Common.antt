-- What proofs of this crate name of its own definitions, passed on from one place.
-- Declares nothing.
pub use Rattle.proto_desc_affected.specs.Kept.{enum_kept, enum_with_name, enum_summary_of, file_summary_of, file_summaries_of, type_use_of}
pub use Rattle.proto_desc_affected.specs.Marks.{AreEnumsMarked, AreOthersKept, AreOthersKeptAsTold, AreUnsureKept, AreUsersMarked, AreUsersOfFilesMarked, HasNoMarkedExtends, IsEnumMarked, IsUserMarked, WantedEnumsAreThere, counts_to}
pub use Rattle.proto_desc_affected.specs.StillEnums.{AreStillEnums, IsEnumAsKept, is_still_to}
