use Rattle.std.proofs.Common.{rules}
use Rattle.proto_edit_rename.proofs.standing.standing_word.Goals as goal

pub returns-in_err-behind : goal.returns-in_err-behind
returns-in_err-behind c = search rules

pub returns : goal.returns
returns c = search rules
