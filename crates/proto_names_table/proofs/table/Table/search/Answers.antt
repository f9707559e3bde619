use Rattle.std.proofs.Common.{◌≡◌, ◌-◌, ◌<◌, suc, length, sym, ◌∙◌, ap, subst, arith}
use Rattle.std.proofs.Math.Seq.{take-length}
use Rattle.proto_names_rules.proofs.Common.{joined, front}
use Rattle.proto_names_table.specs.Tables.{names_of}
use Rattle.proto_names_table.proofs.Search.{Fails, none_at_all, above_lower, one_out}
use Rattle.proto_names_table.proofs.table.Table.search.Goals as goal

pub loop-row-init : goal.loop-row-init
loop-row-init c = record { within = c.requires.within; fronts = λ path plain e. (length path, omega arith, e ∙ ap joined (sym (take-length path)), λ j row a b h. absurd (omega (arith, a, b))) }

pub returns-then-number-eq0-clause-none : goal.returns-then-number-eq0-clause-none
returns-then-number-eq0-clause-none c = λ path plain e k row lk h. (
    let f = c.loop-row.invariant.fronts path plain e in
    let z : c.loop-row.number ≡ 0 = c.if-number-eq0.true in
    let fails : Fails c.args.self.now c.args.seen.now c.args.word.wants c.args.word.is_last 0 c.args.word.text.now = subst (λ m. Fails c.args.self.now c.args.seen.now c.args.word.wants c.args.word.is_last m c.args.word.text.now) z c.in_default.ensures.none in
    none_at_all c.args.self.now c.args.seen.now c.args.word.wants c.args.word.is_last c.args.word.text.now fails path plain f.0 f.1 (ap (front (names_of c.args.self.now)) (sym z) ∙ f.2) f.3 k row lk h)

pub loop-row-smaller : goal.loop-row-smaller
loop-row-smaller c =
    let ne = c.if-number-eq0.false in
    let l : c.loop-row.number - 1 < length c.args.self.now.rows.items = omega (arith, c.loop-row.invariant.within, ne) in
    let a = above_lower c.args.self.now c.requires.table (c.loop-row.number - 1) l c.index.result.now c.index.ensures in
    omega (arith, a, ne)

pub loop-row-preserved : goal.loop-row-preserved
loop-row-preserved c =
    let ne = c.if-number-eq0.false in
    let l : c.loop-row.number - 1 < length c.args.self.now.rows.items = omega (arith, c.loop-row.invariant.within, ne) in
    let a = above_lower c.args.self.now c.requires.table (c.loop-row.number - 1) l c.index.result.now c.index.ensures in
    let s : c.loop-row.number ≡ suc (c.loop-row.number - 1) = omega (arith, ne) in
    let fails : Fails c.args.self.now c.args.seen.now c.args.word.wants c.args.word.is_last (suc (c.loop-row.number - 1)) c.args.word.text.now = subst (λ m. Fails c.args.self.now c.args.seen.now c.args.word.wants c.args.word.is_last m c.args.word.text.now) s c.in_default.ensures.none in
    record {
      within = omega (arith, a, l);
      fronts = λ path plain e. (
          let f = c.loop-row.invariant.fronts path plain e in
          one_out c.args.self.now c.requires.table c.args.seen.now c.args.word.wants c.args.word.is_last c.args.word.text.now (c.loop-row.number - 1) l c.index.result.now c.index.ensures fails path plain f.0 f.1 (ap (front (names_of c.args.self.now)) (sym s) ∙ f.2) f.3);
    }
