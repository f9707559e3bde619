use Rattle.proto_session.proofs.ChangedSessions.{all_made}
use Rattle.proto_session.proofs.changing.make.Goals as goal

pub returns : goal.returns
returns c = all_made c.args.session.now c.begin.new.session c.put_disk.new.session c.put_opened.new.session c.args.change c.begin.ensures c.put_disk.ensures c.put_opened.ensures
