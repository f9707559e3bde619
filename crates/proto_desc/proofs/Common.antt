-- What proofs of the crates above name of this crate, passed on from one place. Declares nothing.
pub use Rattle.proto_desc_extensions.proofs.WorkspaceFlaws.{all_of_checks}
pub use Rattle.proto_desc.specs.Checked.{AreDescribed, CheckFaults, of_flaw}
pub use Rattle.proto_desc.specs.Whole.{FileFaults, IsSortedOf, WorkspaceFaults, of_check, of_files, of_link, of_path, of_read}
