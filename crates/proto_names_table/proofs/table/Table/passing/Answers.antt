use Rattle.std.proofs.Common.{◌<◌, length, sym, ◌∙◌, ap, arith}
use Rattle.std.proofs.lemmas.List.{length-map, get_or_default}
use Rattle.proto_names_table.specs.Search.{passes}
use Rattle.proto_names_table.proofs.table.Table.passing.Goals as goal

pub index-requires : goal.index-requires
index-requires c =
    let n = length-map c.args.self.now.rows.items (λ r. r.name) in
    let f = c.requires.table.forest.sound c.args.number c.args.word.text.now c.in_ok-row.row (omega (arith, c.requires.within, n)) (sym c.find.ensures ∙ c.in_ok-row.was) in
    omega (arith, f.0, n, c.args.self.now.rows.ok)

pub returns-then-passes-clause-some : goal.returns-then-passes-clause-some
returns-then-passes-clause-some c =
    let n = length-map c.args.self.now.rows.items (λ r. r.name) in
    let f = c.requires.table.forest.sound c.args.number c.args.word.text.now c.in_ok-row.row (omega (arith, c.requires.within, n)) (sym c.find.ensures ∙ c.in_ok-row.was) in
    let l : c.in_ok-row.row < length c.args.self.now.rows.items = omega (arith, f.0, n) in
    (l, f.1, λ d. ap (passes c.args.seen.now c.args.word.wants c.args.word.is_last) (get_or_default c.args.self.now.rows.items c.in_ok-row.row d c.index.result.now l ∙ sym c.index.ensures) ∙ sym c.passes.ensures ∙ c.if-passes.true)
