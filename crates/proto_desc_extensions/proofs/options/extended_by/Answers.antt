use Rattle.std.proofs.Common.{◌≡◌, List, option_map, sym, ap, ◌∙◌}
use Rattle.proto_base.proofs.Common.{IfOk-weaker}
use Rattle.proto_files.specs.FilesRead.{AreRead, ReadOf}
use Rattle.proto_names_rules.specs.Grown.{at}
use Rattle.proto_desc_extensions.specs.Common.{extended_at, meant_text, option_extends, told_text}
use Rattle.proto_desc_extensions.proofs.options.extended_by.Goals as goal

pub returns-in-Some-clause-extended : goal.returns-in-Some-clause-extended
returns-in-Some-clause-extended c =
    let files = c.args.at.now.linked.now.files in
    let place = c.in-Some.place in
    IfOk-weaker c.extended_at.result
    (λ found. (reads : List ReadOf) → AreRead files reads → told_text (option_map (λ text. text.now) found) ≡ meant_text (extended_at files reads (at place.file place.token)))
    (λ found. (reads : List ReadOf) → AreRead files reads → told_text (option_map (λ text. text.now) found) ≡ meant_text (option_extends files reads c.args.at.now.file c.args.name.now))
    (λ found is reads are. is reads are ∙ ap meant_text (c.in-Some.ensures reads are))
    c.extended_at.ensures.extended

pub returns-in-None-clause-extended : goal.returns-in-None-clause-extended
returns-in-None-clause-extended c = λ reads are. sym (ap meant_text (c.in-None.ensures reads are))
