-- What proofs of this crate name of its own definitions, passed on from one place.
-- Declares nothing.
pub use Rattle.proto_desc_numbers.specs.Flaws.{IsLeastOfFlaws, after_earlier, comes_before, earlier, flaw, flaw_if, marked}
pub use Rattle.proto_desc_numbers.specs.NumberFlaws.{broken_ranges, is_inside, is_sound_range, is_within, number_of_field, number_of_value, outside, overlaps, repeated_numbers, reserved_numbers, share}
pub use Rattle.proto_desc_numbers.specs.RangeIndex.{RangesAreInOrder, AreRaised, IsRangeIndexOf, has_numbers, reach, range_reaches}
pub use Rattle.proto_desc_numbers.specs.declared.flaw.Flaw.{Flaw}
pub use Rattle.proto_desc_numbers.specs.declared.numbers.NumberAt.{NumberAt}
