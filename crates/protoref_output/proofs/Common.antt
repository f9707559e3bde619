-- What proofs of the crates above name of this crate, passed on from one place. Declares nothing.
pub use Rattle.protoref_output.specs.Answers.{status_of, printed_text}
pub use Rattle.protoref_output.specs.EditLines.{faulty_line}
pub use Rattle.protoref_output.specs.FaultLines.{IsLineOver}
