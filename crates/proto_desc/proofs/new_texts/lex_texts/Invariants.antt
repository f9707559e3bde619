use Rattle.std.proofs.Common.{◌≡◌, All, map}
use Rattle.proto_desc.specs.NewTexts.{IsLexedText, given_text, lexed_text}
use Rattle.proto_desc.proofs.new_texts.lex_texts.Given as goal

abbrev pub invariant-loop-text : goal.invariant-loop-text
invariant-loop-text l = (map lexed_text l.lexed.items ≡ map given_text l.yielded) × All (IsLexedText l.files) l.lexed.items
