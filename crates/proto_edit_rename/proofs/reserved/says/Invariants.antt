use Rattle.std.proofs.Common.{◌≡◌, drop}
use Rattle.proto_edit_rename.specs.Members.{says_word}
use Rattle.proto_edit_rename.proofs.reserved.says.Given as goal

abbrev pub invariant-loop-token : goal.invariant-loop-token
invariant-loop-token l = says_word l.scene l.word l.tokens ≡ says_word l.scene l.word (drop l.token-index l.tokens)
