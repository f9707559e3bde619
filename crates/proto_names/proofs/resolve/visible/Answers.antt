use Rattle.std.proofs.Common.{[], get_or, sym, ◌∙◌, ap, subst}
use Rattle.std.proofs.lemmas.List.{get_or_default}
use Rattle.proto_names_rules.specs.Joined.{ArePlain}
use Rattle.proto_names_table.proofs.Common.{IsWantedAt, is_visible_as, names_of, other_fails, under_all}
use Rattle.proto_names.proofs.InScope.{words_by}
use Rattle.proto_names.proofs.resolve.visible.Goals as goal

pub follow-requires-clause-plain : goal.follow-requires-clause-plain
follow-requires-clause-plain c = subst (λ bs. ArePlain (words_by c.args.words.now bs)) (sym c.as_slice-rest.ensures) c.requires.plain

pub returns-in_err-row : goal.returns-in_err-row
returns-in_err-row c =
    let first = get_or (names_of c.args.table.now) c.args.start [] in
    let own = c.args.used.now.reference.now.words.rest in
    subst (IsWantedAt c.args.table.now c.args.seen.now c.args.used.now.wants (under_all first (words_by c.args.words.now own))) (sym c.from_residual.ensures)
    (λ k d l e. absurd (c.in_err-row.ensures.none k l (e ∙ ap (λ bs. under_all first (words_by c.args.words.now bs)) (sym c.as_slice-rest.ensures))))

pub returns-then-is_visible_as : goal.returns-then-is_visible_as
returns-then-is_visible_as c =
    let first = get_or (names_of c.args.table.now) c.args.start [] in
    let rows = c.args.table.now.rows.items in
    let within = c.in_ok-row.ensures.some.0 in (
      within,
      c.in_ok-row.ensures.some.1 ∙ ap (λ bs. under_all first (words_by c.args.words.now bs)) c.as_slice-rest.ensures,
      λ d. ap (is_visible_as c.args.seen.now c.args.used.now.wants) (get_or_default rows c.in_ok-row.row d c.index-found.result.now within ∙ sym c.index-found.ensures) ∙ sym c.is_visible_as.ensures ∙ c.if-is_visible_as.true,
    )

pub returns-else-is_visible_as : goal.returns-else-is_visible_as
returns-else-is_visible_as c = λ k d l e. (
    let first = get_or (names_of c.args.table.now) c.args.start [] in
    other_fails c.args.table.now c.requires.table c.args.seen.now c.args.used.now.wants c.in_ok-row.row c.index-found.result.now c.in_ok-row.ensures.some.0 c.index-found.ensures (sym c.is_visible_as.ensures ∙ c.if-is_visible_as.false)
    k d l (e ∙ ap (λ bs. under_all first (words_by c.args.words.now bs)) (sym c.as_slice-rest.ensures) ∙ sym c.in_ok-row.ensures.some.1))
