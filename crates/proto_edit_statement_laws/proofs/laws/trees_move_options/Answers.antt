use Rattle.proto_edit_statement_laws.proofs.laws.trees_move_options.Goals as goal
use Rattle.proto_edit_statement_laws.proofs.OptionsMoved.{deletions_keep_options, imports_move_options, no_options_come_in, options_come_in, options_move_tokens, trees_move_options}

pub returns : goal.returns
returns c = record {
  tokens = options_move_tokens;
  options = trees_move_options;
  imports = imports_move_options;
  more = options_come_in;
  same = no_options_come_in;
  deleted = deletions_keep_options;
}
