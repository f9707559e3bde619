use Rattle.std.proofs.Common.{◌∷◌, [], get_or, option_map, is_some, None, sym, ◌∙◌, ap, subst, arith}
use Rattle.proto_base.proofs.Common.{length-map, MatchOption-from_none, map-map}
use Rattle.proto_text.specs.Texts.{word_at}
use Rattle.proto_names_rules.specs.Joined.{IsPlain, ArePlain}
use Rattle.proto_names_table.proofs.Common.{IsWantedAt, under_all, names_of, absolute_is, absolute_none, is_empty_list, relative_is, relative_none}
use Rattle.proto_names.proofs.InScope.{empty_behind, wanted_within, words_by}
use Rattle.proto_names.proofs.Referring.{same_words}
use Rattle.proto_names.proofs.resolve.resolved_row.Goals as goal

pub returns-in_err-top-in-Some-clause-meant : goal.returns-in_err-top-in-Some-clause-meant
returns-in_err-top-in-Some-clause-meant c = λ w r asked words abs wanted. (
    let rest = map-map (word_at c.args.words.now) (λ b. b.item) c.args.used.now.reference.now.words.rest in
    let first = c.get-text.result.now in
    let ws = words_by c.args.words.now c.args.used.now.reference.now.words.rest in
    let pw : ArePlain (c.get-text.result.now ∷ words_by c.args.words.now c.args.used.now.reference.now.words.rest) = (subst IsPlain (sym c.get-text.ensures) c.requires.plain.0, subst ArePlain rest c.requires.plain.1) in
    ap (option_map (λ k. get_or (names_of c.args.table.now) k [])) c.from_residual.ensures
    ∙ absolute_is c.args.table.now c.requires.table c.args.seen.now w r asked.index asked.marks first ws pw (same_words words (sym c.get-text.ensures) rest) (abs ∙ ap is_some c.in-Some.is) c.args.used.now.wants wanted None
    (absolute_none c.args.table.now c.requires.table first ws pw (sym c.find.ensures ∙ c.in_err-top-in-Some.was) c.args.seen.now c.args.used.now.wants))

pub visible-requires-clause-within : goal.visible-requires-clause-within
visible-requires-clause-within c =
    let n = length-map c.args.table.now.rows.items (λ r. r.name) in
    let s = c.requires.table.forest.sound 0 c.get-text.result.now c.in_ok-top-in-Some.top (omega arith) (sym c.find.ensures ∙ c.in_ok-top-in-Some.was) in
    omega (arith, s.0, n)

pub visible-requires-clause-plain : goal.visible-requires-clause-plain
visible-requires-clause-plain c = subst ArePlain (map-map (word_at c.args.words.now) (λ b. b.item) c.args.used.now.reference.now.words.rest) c.requires.plain.1

pub returns-in_err-start-in-None-clause-meant : goal.returns-in_err-start-in-None-clause-meant
returns-in_err-start-in-None-clause-meant c = λ w r asked words abs wanted. (
    let rest = map-map (word_at c.args.words.now) (λ b. b.item) c.args.used.now.reference.now.words.rest in
    let first = c.get-text.result.now in
    let ws = words_by c.args.words.now c.args.used.now.reference.now.words.rest in
    let pw : ArePlain (c.get-text.result.now ∷ words_by c.args.words.now c.args.used.now.reference.now.words.rest) = (subst IsPlain (sym c.get-text.ensures) c.requires.plain.0, subst ArePlain rest c.requires.plain.1) in
    let last = c.is_empty.ensures ∙ empty_behind c.args.words.now c.as_slice-rest.result.now ∙ ap (λ bs. is_empty_list (words_by c.args.words.now bs)) c.as_slice-rest.ensures in
    ap (option_map (λ k. get_or (names_of c.args.table.now) k [])) c.from_residual-in_err-start-in-None.ensures
    ∙ relative_none c.args.table.now c.requires.table c.args.seen.now c.args.scope w r asked first ws c.is_empty.result last pw (same_words words (sym c.get-text.ensures) rest) (abs ∙ ap is_some c.in-None.is) c.args.used.now.wants wanted
    (c.in_err-start-in-None.ensures.none r.scope asked.scope_plain asked.scope_is))

pub visible-requires-in-None-clause-plain : goal.visible-requires-in-None-clause-plain
visible-requires-in-None-clause-plain c = subst ArePlain (map-map (word_at c.args.words.now) (λ b. b.item) c.args.used.now.reference.now.words.rest) c.requires.plain.1

pub returns-in_ok-top-in-Some-clause-meant : goal.returns-in_ok-top-in-Some-clause-meant
returns-in_ok-top-in-Some-clause-meant c = λ w r asked words abs wanted. (
    let rest = map-map (word_at c.args.words.now) (λ b. b.item) c.args.used.now.reference.now.words.rest in
    let first = c.get-text.result.now in
    let ws = words_by c.args.words.now c.args.used.now.reference.now.words.rest in
    let pw : ArePlain (c.get-text.result.now ∷ words_by c.args.words.now c.args.used.now.reference.now.words.rest) = (subst IsPlain (sym c.get-text.ensures) c.requires.plain.0, subst ArePlain rest c.requires.plain.1) in
    let s = c.requires.table.forest.sound 0 c.get-text.result.now c.in_ok-top-in-Some.top (omega arith) (sym c.find.ensures ∙ c.in_ok-top-in-Some.was) in
    absolute_is c.args.table.now c.requires.table c.args.seen.now w r asked.index asked.marks first ws pw (same_words words (sym c.get-text.ensures) rest) (abs ∙ ap is_some c.in-Some.is) c.args.used.now.wants wanted c.visible.result
    (subst (λ z. IsWantedAt c.args.table.now c.args.seen.now c.args.used.now.wants (under_all z ws) c.visible.result) s.1 c.visible.ensures))

pub returns-in_ok-start-in-None-clause-meant : goal.returns-in_ok-start-in-None-clause-meant
returns-in_ok-start-in-None-clause-meant c = λ w r asked words abs wanted. (
    let rest = map-map (word_at c.args.words.now) (λ b. b.item) c.args.used.now.reference.now.words.rest in
    let first = c.get-text.result.now in
    let ws = words_by c.args.words.now c.args.used.now.reference.now.words.rest in
    let pw : ArePlain (c.get-text.result.now ∷ words_by c.args.words.now c.args.used.now.reference.now.words.rest) = (subst IsPlain (sym c.get-text.ensures) c.requires.plain.0, subst ArePlain rest c.requires.plain.1) in
    let last = c.is_empty.ensures ∙ empty_behind c.args.words.now c.as_slice-rest.result.now ∙ ap (λ bs. is_empty_list (words_by c.args.words.now bs)) c.as_slice-rest.ensures in
    relative_is c.args.table.now c.requires.table c.args.seen.now c.args.scope w r asked first ws c.is_empty.result last pw (same_words words (sym c.get-text.ensures) rest) (abs ∙ ap is_some c.in-None.is) c.args.used.now.wants wanted
    c.in_ok-start-in-None.start (c.in_ok-start-in-None.ensures.hit r.scope asked.scope_plain asked.scope_is) c.visible-in-None.result c.visible-in-None.ensures)

pub search-requires : goal.search-requires
search-requires c = record { table = c.requires.table; within = c.requires.within; plain = subst IsPlain (sym c.get-text.ensures) c.requires.plain.0 }

pub returns-in_err-top-in-Some-clause-within : goal.returns-in_err-top-in-Some-clause-within
returns-in_err-top-in-Some-clause-within c = MatchOption-from_none c.from_residual.result _ c.from_residual.ensures

pub returns-in_err-start-in-None-clause-within : goal.returns-in_err-start-in-None-clause-within
returns-in_err-start-in-None-clause-within c = MatchOption-from_none c.from_residual-in_err-start-in-None.result _ c.from_residual-in_err-start-in-None.ensures

pub visible-requires-in-None-clause-within : goal.visible-requires-in-None-clause-within
visible-requires-in-None-clause-within c = c.in_ok-start-in-None.ensures.row

pub returns-in_ok-top-in-Some-clause-within : goal.returns-in_ok-top-in-Some-clause-within
returns-in_ok-top-in-Some-clause-within c = wanted_within c.args.table.now c.args.seen.now c.args.used.now.wants _ c.visible.result c.visible.ensures

pub returns-in_ok-start-in-None-clause-within : goal.returns-in_ok-start-in-None-clause-within
returns-in_ok-start-in-None-clause-within c = wanted_within c.args.table.now c.args.seen.now c.args.used.now.wants _ c.visible-in-None.result c.visible-in-None.ensures
