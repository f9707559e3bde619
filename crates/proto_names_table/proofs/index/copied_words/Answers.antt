use Rattle.std.proofs.Common.{map, sym, ◌∙◌, ap, subst, take_all, string_bytes}
use Rattle.std.specs.List.{IsDistinct}
use Rattle.proto_names_table.proofs.Copied.{same_word, word_copied}
use Rattle.proto_names_table.proofs.index.copied_words.Goals as goal

pub loop-word-init : goal.loop-word-init
loop-word-init c = ap (map string_bytes) c.in_ok-copy.ensures.empty

pub loop-word-preserved : goal.loop-word-preserved
loop-word-preserved c =
    ap (map string_bytes) c.in_ok-insert.ensures.keys
    ∙ word_copied c.as_slice-texts.result.now c.loop-word.copy.keys c.loop-word.word-index c.word-item.result c.in_ok-own.own (subst (IsDistinct same_word) (sym c.as_slice-texts.ensures.keys) c.as_slice-texts.ensures.unique) c.loop-word.invariant c.loop-word-test.true c.word-item.is
    (c.in_ok-own.ensures.ok ∙ c.as_str.ensures.value)

pub returns : goal.returns
returns c = c.loop-word.invariant ∙ ap (map string_bytes) (take_all c.loop-word.word-index c.as_slice-texts.result.now c.loop-word-test.false ∙ c.as_slice-texts.ensures.keys)
