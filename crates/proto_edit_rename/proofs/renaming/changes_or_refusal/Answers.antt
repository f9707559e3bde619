use Rattle.proto_edit_entries.specs.Entries.{change_of}
use Rattle.std.proofs.Common.{map}
use Rattle.proto_edit_rename.proofs.Refused.{changes_are, large_free}
use Rattle.proto_edit_rename.proofs.renaming.changes_or_refusal.Goals as goal

pub returns-in-Ok-clause-free : goal.returns-in-Ok-clause-free
returns-in-Ok-clause-free c =
    large_free c.args.linked.now.files c.files.ensures.clean.clean c.args.target c.requires.target c.args.to.now (map change_of c.in-Ok.changes.items) c.in-Ok.ensures.ok c.requires.before

pub returns-in-Ok-clause-changes : goal.returns-in-Ok-clause-changes
returns-in-Ok-clause-changes c =
    changes_are c.args.linked.now.files c.files.ensures.clean.clean c.args.target c.requires.target c.args.to.now (map change_of c.in-Ok.changes.items) c.in-Ok.ensures.ok c.files.ensures.clean.reads c.files.ensures.clean.read
