-- What proofs of the crates above name of this crate, passed on from one place. Declares nothing.
pub use Rattle.proto_desc_numbers.proofs.CappedNumbers.{Alike, AlikeCaps, alike_at, alike_end, alike_signed, capped, caps_back, equal_alike, field_limit, is_near, le_both, le_itself, near_within, past_or_none, same_near, value_limit, within_alike}
pub use Rattle.proto_desc_numbers.proofs.FlawLists.{false_or, length_of_map, or_false, repeats_length}
pub use Rattle.proto_desc_numbers.specs.Flaws.{after_earlier, earlier, flaw, flaw_if, marked}
pub use Rattle.proto_desc_numbers.specs.NumberFlaws.{bound_of, broken_ranges, end_of, enum_range_of, field_number_flaws, first_of_signed, is_field_number, is_inside, is_sound_range, is_value_number, is_within, least_value, most_field, most_value, number_of_field, number_of_value, outside, overlaps, range_of, repeated_numbers, reserved_numbers, share}
