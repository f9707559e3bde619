use Rattle.std.proofs.Common.{List, get_or, ◌∙◌, ap, string_bytes, String}
use Rattle.std.specs.declared.alloc.Global.{Global}
use Rattle.proto_names_table.specs.declared.index.Below.{Below}
use Rattle.proto_names_affected.proofs.LastWords.{last_word_of_row}
use Rattle.proto_names_affected.proofs.kind_rows.last_word.Goals as goal

abbrev none : Below
none = record { above = 0; word = 0 }

pub returns : goal.returns
returns c = λ before word plain named. (
    let t = c.args.table.now in
    let row = c.args.row in
    let s = c.index-as_slice-below.result in
    c.as_str.ensures.value
    ∙ ap string_bytes (c.index-as_slice-below.is
    ∙ ap (λ (z : List (String Global)). get_or z (get_or c.as_slice.result.now row none).word s) c.as_slice-2.ensures.keys
    ∙ ap (λ (z : List Below). get_or t.below.words.keys (get_or z row none).word s) c.as_slice.ensures.keys)
    ∙ last_word_of_row t c.requires.table row c.requires.within none s before word plain named)
