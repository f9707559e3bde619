use Rattle.std.proofs.Common.{◌++◌, List, map, ap, ◌∙◌}
use Rattle.proto_custom_options.specs.Views.{custom_of}
use Rattle.proto_desc_numbers.specs.declared.flaw.Flaw.{Flaw}
use Rattle.proto_desc_extensions.specs.Common.{not_an_option}
use Rattle.proto_desc_extensions.proofs.OptionFlaws.{of_options, options_are}
use Rattle.proto_desc_extensions.proofs.options.flaws_of_file.Goals as goal

pub returns-clause-flaws : goal.returns-clause-flaws
returns-clause-flaws c = λ reads are.
    (let files = c.args.at.now.linked.now.files in
    let file = c.args.at.now.file in
    let options = c.deref.result.now in
    let is = ap (map custom_of) c.deref.ensures.value ∙ (rw c.files.ensures.files at c.in_ok-options.ensures) reads are in
    c.in_ok-add_flaws.ensures.flaws reads are (of_options files reads file options is)
    ∙ ap (λ (fs : List Flaw). fs ++ not_an_option files reads file (map custom_of options)) (c.in_ok-extend_from_slice.ensures.items ∙ ap (λ (fs : List Flaw). fs ++ c.args.numbers.now) c.new-found.ensures.items)
    ∙ ap (λ (fs : List Flaw). c.args.numbers.now ++ fs) (options_are files reads file options is))
