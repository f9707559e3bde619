use Rattle.std.proofs.Common.{List, sym, subst}
use Rattle.proto_files.specs.GivenFiles.{FileOf}
use Rattle.proto_names.specs.LinkOfFiles.{IsLinkOf}
use Rattle.protoref_tests.proofs.edits.updated_copies.expect_updated.Goals as goal

pub expect_followed-answer-requires-clause-link : goal.expect_followed-answer-requires-clause-link
expect_followed-answer-requires-clause-link g c =
    subst (λ (files : List FileOf). IsLinkOf files c.in_ok-link.link) (sym c.requires) (subst (IsLinkOf c.args.workspace.now) (sym c.in_ok-link.ensures) c.link.ensures)
