use Rattle.std.proofs.Common.{◌<◌, ◌∙◌, length, rules}
use Rattle.protoref_output.proofs.ReferencePlaces.{offset_is}
use Rattle.protoref_output.proofs.locations.offset_in.Goals as goal

pub returns-then-file-len : goal.returns-then-file-len
returns-then-file-len c = λ reads are.
    (let within : c.args.reference.file < length c.args.files.now = search rules in
    c.offset_of.ensures
    ∙ offset_is c.args.files.now reads are c.args.reference.file c.args.reference.token within c.tokens.result.now c.tokens.ensures.tokens)
