use Rattle.std.proofs.Common.{◌≡◌, take}
use Rattle.proto_base.specs.Words.{word_key}
use Rattle.proto_base.proofs.words.word_key.Given as goal

abbrev pub invariant-loop-byte : goal.invariant-loop-byte
invariant-loop-byte l = l.key ≡ word_key (take l.byte-index l.byte-items)
