use Rattle.std.proofs.Common.{sym, ◌∙◌, arith}
use Rattle.proto_names.proofs.Scopes.{row_within, scope_step, scope_missing, scope_last, scope_ended}
use Rattle.proto_names.proofs.scope.scope_number.Goals as goal

pub split_at_dot-requires-text-text : goal.split_at_dot-requires-text-text
split_at_dot-requires-text-text c = λ _. c.loop-word.invariant.utf8

pub overflow_add-number : goal.overflow_add-number
overflow_add-number c =
    let l = row_within c.args.table.now c.requires c.loop-word.number c.loop-word.invariant.within c.in-Some.word.now c.in-Some-find.row (sym c.find.ensures ∙ c.in-Some-find.is) in
    omega (arith, l, c.args.table.now.rows.ok, c.args.table.now.rows.small)

pub returns-in-None-clause-front : goal.returns-in-None-clause-front
returns-in-None-clause-front c = λ path plain e. scope_missing c.args.table.now c.requires c.loop-word.number c.loop-word.invariant.within path plain c.loop-word.rest.now (c.loop-word.invariant.words path plain e)
    c.in-Some.word.now c.in-Some.behind.now c.in-Some.ensures.cases.0 c.in-Some.ensures.cases.1 (sym c.find.ensures ∙ c.in-None.is)

pub loop-word-preserved : goal.loop-word-preserved
loop-word-preserved c =
    let found = sym c.find.ensures ∙ c.in-Some-find.is in
    let l = row_within c.args.table.now c.requires c.loop-word.number c.loop-word.invariant.within c.in-Some.word.now c.in-Some-find.row found in
    record {
      within = omega (arith, l);
      words = λ path plain e. scope_step c.args.table.now c.requires c.loop-word.number c.loop-word.invariant.within path plain c.loop-word.rest.now (c.loop-word.invariant.words path plain e)
          c.in-Some.word.now c.in-Some.behind.now c.in-Some.ensures.cases.0 c.in-Some.ensures.cases.1 c.in-Some-find.row found;
      utf8 = c.in-Some.ensures.utf8.1;
    }

pub overflow_add-result : goal.overflow_add-result
overflow_add-result c =
    let l = row_within c.args.table.now c.requires c.loop-word.number c.loop-word.invariant.within c.loop-word.rest.now c.in-Some-find-2.row (sym c.find-2.ensures ∙ c.in-Some-find-2.is) in
    omega (arith, l, c.args.table.now.rows.ok, c.args.table.now.rows.small)

pub returns-in-Some-find-2-clause-within : goal.returns-in-Some-find-2-clause-within
returns-in-Some-find-2-clause-within c =
    let l = row_within c.args.table.now c.requires c.loop-word.number c.loop-word.invariant.within c.loop-word.rest.now c.in-Some-find-2.row (sym c.find-2.ensures ∙ c.in-Some-find-2.is) in
    omega (arith, l)

pub returns-in-Some-find-2-clause-front : goal.returns-in-Some-find-2-clause-front
returns-in-Some-find-2-clause-front c = λ path plain e. scope_last c.args.table.now c.requires c.loop-word.number c.loop-word.invariant.within path plain c.loop-word.rest.now (c.loop-word.invariant.words path plain e)
    c.in_default.ensures.cases c.in-Some-find-2.row (sym c.find-2.ensures ∙ c.in-Some-find-2.is)

pub returns-in-None-find-clause-front : goal.returns-in-None-find-clause-front
returns-in-None-find-clause-front c = λ path plain e. scope_ended c.args.table.now c.requires c.loop-word.number c.loop-word.invariant.within path plain c.loop-word.rest.now (c.loop-word.invariant.words path plain e)
    c.in_default.ensures.cases (sym c.find-2.ensures ∙ c.in-None-find.is)
