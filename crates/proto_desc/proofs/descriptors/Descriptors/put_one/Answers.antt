use Rattle.std.proofs.Common.{refl}
use Rattle.proto_desc.proofs.MadePut.{is_put}
use Rattle.proto_desc.proofs.descriptors.Descriptors.put_one.Goals as goal

pub returns : goal.returns
returns c = is_put c.args.made c.args.self.now _ c.requires.file c.requires.kept refl refl
