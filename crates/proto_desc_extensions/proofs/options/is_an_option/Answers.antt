use Rattle.std.proofs.Common.{option_map, ◌∙◌}
use Rattle.proto_custom_options.specs.Views.{custom_of}
use Rattle.proto_desc_extensions.specs.Common.{told_text}
use Rattle.proto_desc_extensions.proofs.OptionFlaws.{option_told}
use Rattle.proto_desc_extensions.proofs.options.is_an_option.Goals as goal

pub returns-clause-is : goal.returns-clause-is
returns-clause-is c = λ reads are one.
    c.is_the_message.ensures
    ∙ option_told c.args.at.now.linked.now.files reads c.args.at.now.linked.now.link (c.link.ensures.linked.link reads are) c.args.at.now.file (custom_of c.args.option) one (told_text (option_map (λ text. text.now) c.in_ok-extended.extended)) (c.in_ok-extended.ensures.extended reads are)
