use Rattle.std.proofs.Common.{◌≡◌, ◌+◌, All, length, map}
use Rattle.proto_desc.specs.NewTexts.{IsParsedText, lexed_text, read_text}
use Rattle.proto_desc.proofs.new_texts.parse_texts.Given as goal

abbrev pub invariant-loop-text : goal.invariant-loop-text
invariant-loop-text l = record {
  same : map read_text l.read.items ≡ map lexed_text l.yielded;
  read : All (IsParsedText l.files) l.read.items;
  counted : l.steps ≡ l.initial.steps + length l.yielded;
}
