use Rattle.std.proofs.Common.{map, option_map, sym, ◌∙◌, ap}
use Rattle.proto_text.specs.Texts.{word_at}
use Rattle.proto_names_rules.specs.Joined.{joined}
use Rattle.proto_names.proofs.InScope.{asked_in_front, in_front, meaning_in_front}
use Rattle.proto_names.proofs.resolve.row_in_scope.Goals as goal

pub returns-clause-meant : goal.returns-clause-meant
returns-clause-meant c = λ w r index marks plain scope words abs wanted. (
    let t = c.args.table.now in
    let ls = c.args.words.now in
    let own = c.args.reference.now.words in
    let first = word_at ls own.first in
    let rest = map (word_at ls) (map (λ b. b.item) own.rest) in
    let number = c.scope_number-number.result in
    let f = c.scope_number-number.ensures.front r.scope plain scope in
    c.resolved_row.ensures.meant w (in_front r f.words) (asked_in_front t c.requires.table c.args.seen.now w r index marks first rest c.requires.plain words plain number f) words abs wanted
    ∙ ap (option_map joined) (sym (meaning_in_front t c.requires.table c.args.seen.now w r index marks first rest c.requires.plain words plain number f)))
