use Rattle.std.proofs.Common.{◌≡◌, ◌++◌, map, drop}
use Rattle.proto_base.specs.Words.{word_key}
use Rattle.proto_text.specs.Texts.{word_at}
use Rattle.proto_option_files.proofs.option_keys.push_keys.Given as goal

abbrev pub invariant-loop-token : goal.invariant-loop-token
invariant-loop-token l = l.keys.items ++ map (λ t. word_key (word_at l.words t)) (drop l.token-index l.tokens) ≡ l.fn.keys.items ++ map (λ t. word_key (word_at l.words t)) l.tokens
