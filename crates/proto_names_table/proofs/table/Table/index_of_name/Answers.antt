use Rattle.std.proofs.Common.{◌≡◌, ◌+◌, suc, sym, ◌∙◌, ap, arith}
use Rattle.std.proofs.lemmas.List.{length-map}
use Rattle.proto_names_rules.proofs.Common.{under, front, cut_found, cut_missing, last_named}
use Rattle.proto_names_table.specs.Tables.{names_of, aboves_of, look}
use Rattle.proto_names_table.proofs.table.Table.index_of_name.Goals as goal

pub split_at_dot-requires-text-text : goal.split_at_dot-requires-text-text
split_at_dot-requires-text-text c = λ _. c.loop-word.invariant.utf8

pub returns-in_err-number-clause-complete : goal.returns-in_err-number-clause-complete
returns-in_err-number-clause-complete c = λ k l e. (
    let t = c.args.self.now in
    let n = length-map c.args.self.now.rows.items (λ r. r.name) in
    let i = c.loop-word.invariant in
    absurd (cut_missing (names_of c.args.self.now) (aboves_of c.args.self.now) (look c.args.self.now) c.requires.forest c.loop-word.number c.loop-word.rest.now c.in-Some.word.now c.in-Some.behind.now (omega (arith, i.within, n)) c.in-Some.ensures.cases.1 c.in-Some.ensures.cases.0
    (sym c.find.ensures ∙ c.in_err-number.was) k (omega (arith, l, n)) (e ∙ sym i.text)))

pub overflow_add-number : goal.overflow_add-number
overflow_add-number c =
    let n = length-map c.args.self.now.rows.items (λ r. r.name) in
    let i = c.loop-word.invariant in
    let f = c.requires.forest.sound c.loop-word.number c.in-Some.word.now c.in_ok-number.field-0 (omega (arith, i.within, n)) (sym c.find.ensures ∙ c.in_ok-number.was) in
    omega (arith, f.0, n, c.args.self.now.rows.ok, c.args.self.now.rows.small)

pub loop-word-preserved : goal.loop-word-preserved
loop-word-preserved c =
    let n = length-map c.args.self.now.rows.items (λ r. r.name) in
    let i = c.loop-word.invariant in
    let f = cut_found (names_of c.args.self.now) (aboves_of c.args.self.now) (look c.args.self.now) c.requires.forest c.loop-word.number c.loop-word.rest.now c.in-Some.word.now c.in-Some.behind.now c.in_ok-number.field-0 (omega (arith, i.within, n)) c.in-Some.ensures.cases.0
    (sym c.find.ensures ∙ c.in_ok-number.was) in
    let s : suc c.in_ok-number.field-0 ≡ c.in_ok-number.field-0 + 1 = omega arith in
    record { within = omega (arith, f.0, n); text = ap (λ z. under (front (names_of c.args.self.now) z) c.in-Some.behind.now) (sym s) ∙ f.1 ∙ i.text; utf8 = c.in-Some.ensures.utf8.1 }

pub returns-clause-complete : goal.returns-clause-complete
returns-clause-complete c = λ k l e. (
    let n = length-map c.args.self.now.rows.items (λ r. r.name) in
    let i = c.loop-word.invariant in
    c.find-2.ensures ∙ last_named (names_of c.args.self.now) (aboves_of c.args.self.now) (look c.args.self.now) c.requires.forest c.loop-word.number c.loop-word.rest.now (omega (arith, i.within, n)) c.in_default.ensures.cases k (omega (arith, l, n)) (e ∙ sym i.text))
