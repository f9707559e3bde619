use Rattle.proto_serving_tests.proofs.positions.position.Goals as goal

pub moved_to-requires-clause-cursor : goal.moved_to-requires-clause-cursor
moved_to-requires-clause-cursor g c = c.new.ensures.there c.args.encoding c.args.text.now
