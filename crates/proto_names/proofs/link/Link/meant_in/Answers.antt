use Rattle.std.proofs.Common.{ap}
use Rattle.proto_names.proofs.Linking.{inner_past}
use Rattle.proto_names.proofs.link.Link.meant_in.Goals as goal

pub returns-in-None-clause-exact : goal.returns-in-None-clause-exact
returns-in-None-clause-exact c =
    inner_past c.self.inside.parts.resolutions.meant.items c.args.self.now.meant (ap (λ l. l.meant) c.self.view_is) c.deref.result.now c.deref.ensures.value c.args.file c.in-None.ensures.lookup.3
