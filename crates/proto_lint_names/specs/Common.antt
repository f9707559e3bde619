-- What proofs of this crate name of its own definitions, passed on from one place.
-- Declares nothing.
pub use Rattle.proto_lint_names.specs.Listings.{FindingOf, IsListingOf, finding_cmp, found_in}
pub use Rattle.proto_lint_names.specs.Views.{finding_of, found_of}
