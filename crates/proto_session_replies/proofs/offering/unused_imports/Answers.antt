use Rattle.std.proofs.Common.{map}
use Rattle.std.proofs.lemmas.Result.{IfOk-weaker}
use Rattle.proto_lint_names.proofs.Common.{finding_of}
use Rattle.proto_session_replies.proofs.OfferLists.{unused_are}
use Rattle.proto_session_replies.proofs.offering.unused_imports.Goals as goal

pub returns : goal.returns
returns c =
    let w = c.args.workspace.now in
    IfOk-weaker c.lint.result _ _
    (λ found h. unused_are w c.files.result.now c.files-2.result.now c.none-rules.result.chosen c.insert.new.self.chosen (map finding_of found.items) c.files.ensures.files c.files-2.ensures.files c.are_read.ensures c.none-rules.ensures c.insert.ensures.chosen c.insert.ensures.others h)
    c.lint.ensures
