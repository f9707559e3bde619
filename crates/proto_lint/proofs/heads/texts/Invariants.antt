use Rattle.std.proofs.Common.{◌≡◌, map, take}
use Rattle.proto_text.specs.Texts.{word_at}
use Rattle.proto_lint.proofs.heads.texts.Given as goal

abbrev pub invariant-loop-token : goal.invariant-loop-token
invariant-loop-token l = map (λ t. t.now) l.texts.items ≡ map (word_at l.words) (take l.token-index l.tokens)
