use Rattle.proto_text.proofs.Segments.{segments_join}
use Rattle.proto_text.proofs.PutIn.{space_is_segment, token_is_segment, token_before_segment, quoted_stands_for_itself, decimal_is_number}
use Rattle.proto_text.proofs.laws.segments_are_made.Goals as goal

pub returns : goal.returns
returns c = record { join = segments_join; space = space_is_segment; token = token_is_segment; before = token_before_segment; quoted = quoted_stands_for_itself; decimal = decimal_is_number }
