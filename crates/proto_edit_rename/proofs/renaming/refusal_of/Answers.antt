use Rattle.std.proofs.Common.{subst}
use Rattle.proto_edit_rename.specs.Changes.{IsChangesFault}
use Rattle.proto_edit_rename.proofs.Refused.{large_refused}
use Rattle.proto_edit_rename.proofs.renaming.refusal_of.Goals as goal

pub returns-in-TooLarge : goal.returns-in-TooLarge
returns-in-TooLarge c =
    large_refused c.args.linked.now.files c.files.ensures.clean.clean c.args.target c.requires.target c.args.to.now c.files.ensures.clean.reads c.files.ensures.clean.read (subst (IsChangesFault c.args.linked.now.files c.args.target c.args.to.now) c.in-TooLarge.is c.requires.fault) c.requires.before
