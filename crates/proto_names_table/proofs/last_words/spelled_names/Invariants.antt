use Rattle.std.proofs.Common.{◌≡◌, map, take}
use Rattle.proto_text.specs.Texts.{word_at}
use Rattle.proto_names_table.proofs.SpelledNames.{bare, bare_of}
use Rattle.proto_names_table.proofs.last_words.spelled_names.Given as goal

abbrev pub invariant-loop-entry : goal.invariant-loop-entry
invariant-loop-entry l = map bare l.spelled.items ≡ map (bare_of (word_at l.words)) (take l.entry-index l.declared)
