-- What proofs of the crates above name of this crate, passed on from one place. Declares nothing.
pub use Rattle.proto_lint_names.specs.Listings.{FindingOf, IsListingOf, found_in}
pub use Rattle.proto_lint_names.specs.Placed.{Found, NamedToken, back_or, behind_last, found_at, found_by, unless, unless_word}
pub use Rattle.proto_lint_names.specs.Readings.{LintFile, package_words, read_of_file, reading_of, word_in}
pub use Rattle.proto_lint_names.specs.Views.{finding_of, found_of}
