use Rattle.proto_positions.specs.declared.encoding.Encoding.TheVariants.{Utf16}
use Rattle.proto_serving_tests.proofs.positions.a_cursor_goes_back.Goals as goal

pub moved_to-end-requires-clause-cursor : goal.moved_to-end-requires-clause-cursor
moved_to-end-requires-clause-cursor g c = c.new.ensures.there Utf16 c.as_bytes-text.result.now
