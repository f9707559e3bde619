use Rattle.proto_session_files.proofs.places.position_in.Goals as goal

pub position_from-requires : goal.position_from-requires
position_from-requires c = c.new.ensures.there c.args.encoding c.args.text.now
