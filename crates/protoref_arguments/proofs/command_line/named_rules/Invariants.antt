use Rattle.std.proofs.Common.{◌≡◌, true, take}
use Rattle.std.specs.List.{list_all}
use Rattle.clap.specs.Walk.{texts}
use Rattle.proto_lint_rules.specs.Rules.{is_chosen}
use Rattle.proto_lint_rules.specs.declared.rule.Rule.{Rule}
use Rattle.protoref_arguments.specs.Common.{names_rule, name_rule}
use Rattle.protoref_arguments.proofs.command_line.named_rules.Given as goal

abbrev pub invariant-loop-name : goal.invariant-loop-name
invariant-loop-name l = record {
  known : list_all names_rule (texts (take l.name-index l.names)) ≡ true;
  chosen : (rule : Rule) → is_chosen l.rules.chosen rule ≡ name_rule (texts (take l.name-index l.names)) rule;
}
