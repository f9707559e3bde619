use Rattle.std.proofs.Common.{sym, ◌∙◌}
use Rattle.proto_desc_extensions.proofs.OptionFlaws.{numbers_alone}
use Rattle.proto_desc_extensions.proofs.flaws.workspace_flaws.Goals as goal

pub returns-else-some_is_written : goal.returns-else-some_is_written
returns-else-some_is_written c =
    numbers_alone c.core_trees_have_no_custom.ensures c.args.linked.now.files (sym (rw c.files.ensures.files at c.some_is_written.ensures) ∙ c.if-some_is_written.false) c.in_ok-numbers.numbers.items c.in_ok-numbers.ensures
