use Rattle.proto_base.proofs.Common.{codes, ends_text}
use Rattle.proto_session_files.proofs.home.has_proto_ending.Goals as goal

pub returns : goal.returns
returns c = ends_text c.ends_with.result (codes ".proto") c.args.path.now c.ends_with.ensures.cases
