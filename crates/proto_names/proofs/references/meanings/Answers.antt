use Rattle.std.proofs.Common.{◌≡◌, ◌≤◌, ◌+◌, take, [], length, get_or, map, option_map, refl, sym, ◌∙◌, ap, subst, take_all}
use Rattle.proto_text.specs.Texts.{word_at}
use Rattle.proto_names_outline.specs.Listing.{needs}
use Rattle.proto_names_table.specs.Filling.{number_above}
use Rattle.proto_names_table.specs.Tables.{names_of}
use Rattle.proto_names.specs.Referring.{first_token_of_use, reference_by, row_flaw, word_key, AreMeant}
use Rattle.proto_names.proofs.Referring.{asked_in, row_flawed, row_faultless, meant_step, first_bad}
use Rattle.proto_names.proofs.references.meanings.Goals.{in-Outermost, in-Below, After-resolved_row-row}
use Rattle.proto_names.proofs.references.meanings.Goals as goal

-- the number of the scope
scope_is : (c : After-resolved_row-row) → c.match-used.scope ≡ number_above c.args.lookup.now.rows.now c.used-item.result.scope
scope_is c = elim c.match-used.branch [
  | in-Outermost w ↦ w.scope-is ∙ ap (number_above c.args.lookup.now.rows.now) (sym w.in-Outermost.is)
  | in-Below w ↦ w.scope-is ∙ ap (number_above c.args.lookup.now.rows.now) (sym w.in-Below.is)
]

pub returns-in-Err-clause-fault : goal.returns-in-Err-clause-fault
returns-in-Err-clause-fault c = λ w names read. (
    let within = subst (λ u. needs u.scope ≤ length c.args.lookup.now.rows.now) (sym c.used-item.is) (c.requires.scopes c.loop-used.used-index c.used-item.result c.loop-used-test.true) in
    let scope = scope_is (goal.at.returns-in-Err-clause-fault c).After-resolved_row-row in
    let f = reference_by c.args.lookup.now.file names (word_at c.args.words.now) in
    let asked = asked_in c.args.lookup.now.table.now c.args.lookup.now.seen.now c.args.lookup.now.rows.now names c.args.lookup.now.file w read (word_at c.args.words.now) c.used-item.result within c.match-used.scope scope in
    let is = c.resolved_row-row.ensures.meant w (f c.used-item.result) asked refl refl refl in
    first_bad c.args.lookup.now.table.now w f c.args.lookup.now.file c.args.uses.now c.loop-used.used-index c.loop-used.meant.items c.used-item.result (record { file = c.args.lookup.now.file; token = c.token_of-token.result; flaw = c.in-Err.flaw })
    c.loop-used-test.true c.used-item.is (c.loop-used.invariant w names read) refl c.token_of-token.ensures
    (row_flawed c.args.lookup.now.table.now c.requires.table w read.index (f c.used-item.result) c.resolved_row-row.result c.in-Err.flaw is c.in-Err.ensures.flaw))

pub loop-used-preserved : goal.loop-used-preserved
loop-used-preserved c = λ w names read. (
    let within = subst (λ u. needs u.scope ≤ length c.args.lookup.now.rows.now) (sym c.used-item.is) (c.requires.scopes c.loop-used.used-index c.used-item.result c.loop-used-test.true) in
    let scope = scope_is (goal.at.loop-used-preserved c).After-resolved_row-row in
    let f = reference_by c.args.lookup.now.file names (word_at c.args.words.now) in
    let asked = asked_in c.args.lookup.now.table.now c.args.lookup.now.seen.now c.args.lookup.now.rows.now names c.args.lookup.now.file w read (word_at c.args.words.now) c.used-item.result within c.match-used.scope scope in
    let is = ap (option_map (λ k. get_or (names_of c.args.lookup.now.table.now) k [])) (sym c.in-Ok.ensures.row.0) ∙ c.resolved_row-row.ensures.meant w (f c.used-item.result) asked refl refl refl in
    let sound = ap (λ o. row_flaw c.args.lookup.now.table.now o c.used-item.result.wants) (sym c.in-Ok.ensures.row.0) ∙ c.in-Ok.ensures.row.1 in
    let items = c.in_ok-push-in-Ok.ensures in
    subst (AreMeant c.args.lookup.now.table.now w (map f (take (c.loop-used.used-index + 1) c.args.uses.now)) (map first_token_of_use (take (c.loop-used.used-index + 1) c.args.uses.now))) (sym items)
    (meant_step c.args.lookup.now.table.now w f c.args.uses.now c.loop-used.used-index c.loop-used.meant.items c.used-item.result (record { token = c.token_of-token.result; first = c.word_key-first.result; row = c.in-Ok.row }) c.loop-used-test.true c.used-item.is
    (c.loop-used.invariant w names read) c.token_of-token.ensures (c.word_key-first.ensures ∙ ap word_key c.get-word.ensures) is (row_faultless c.args.lookup.now.table.now c.requires.table w read.index (f c.used-item.result) c.in-Ok.row is sound)))

pub returns-clause-meant : goal.returns-clause-meant
returns-clause-meant c = λ w names read. (
    let f = reference_by c.args.lookup.now.file names (word_at c.args.words.now) in
    subst (λ us. AreMeant c.args.lookup.now.table.now w (map f us) (map first_token_of_use us) c.loop-used.meant.items) (take_all c.loop-used.used-index c.args.uses.now c.loop-used-test.false) (c.loop-used.invariant w names read))
