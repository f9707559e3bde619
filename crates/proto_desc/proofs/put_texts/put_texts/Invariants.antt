use Rattle.std.proofs.Common.{◌≡◌, ◌≤◌, ◌<◌, All, length, map}
use Rattle.std.specs.Prelude.{vec_capacity, vec_len}
use Rattle.proto_desc.specs.NewTexts.{IsReadText, read_text, with_all, with_old}
use Rattle.proto_desc.proofs.put_texts.put_texts.Given as goal

abbrev pub invariant-loop-text : goal.invariant-loop-text
invariant-loop-text l = record {
  files : l.files ≡ with_all l.initial.files (map read_text l.yielded);
  back : with_old (map read_text l.old.items) l.files ≡ l.initial.files;
  places : All (λ t. t.place < length l.initial.files) l.old.items;
  read : All (IsReadText l.initial.files) l.old.items;
  len : vec_len l.old ≡ length l.yielded;
  room : length l.fn.texts.items ≤ vec_capacity l.old;
}
