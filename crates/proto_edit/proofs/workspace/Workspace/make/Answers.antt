use Rattle.std.proofs.Common.{◌≢◌, ◌+◌, ◌∙◌, List, ap, sym, subst, rules}
use Rattle.proto_edit.specs.Common.{asked, IsPutRefusal}
use Rattle.proto_edit_entries.proofs.Common.{AreRising, ChangeOf, IsPut}
use Rattle.proto_edit_entries.specs.declared.refusal.Refusal.TheVariants as refusal
use Rattle.proto_edit.proofs.Chains.{never_stale, step_made}
use Rattle.proto_edit.proofs.Reopening.{count_of}
use Rattle.proto_edit.proofs.workspace.Workspace.make.Goals as goal

pub put-requires-clause-rising : goal.put-requires-clause-rising
put-requires-clause-rising c = subst AreRising (sym c.changes.ensures.items) c.changes.ensures.entry.rising

pub unreachable-requires : goal.unreachable-requires
unreachable-requires c =
    let w = c.args.self.now in
    let refused = subst (λ (z : List ChangeOf). IsPutRefusal w z c.in-Err.field-0) c.changes.ensures.items c.in-Err.ensures.err in
    let ne : c.in-Err.field-0 ≢ refusal.NoMemory = search rules in
    never_stale c.statements_are_known.ensures w (asked c.args.edit.now) c.in_ok-entry.entry c.files.ensures.compiled c.in_ok-entry.ensures.ok c.in-Err.field-0 ne refused

pub returns-in-Ok-clause-ok : goal.returns-in-Ok-clause-ok
returns-in-Ok-clause-ok c =
    let w = c.args.self.now in
    let after = c.put.new.self in
    step_made c.statements_are_known.ensures w (asked c.args.edit.now) c.in_ok-entry.entry after c.files.ensures.compiled c.in_ok-entry.ensures.ok
    (subst (λ (z : List ChangeOf). IsPut w z after) c.changes.ensures.items c.in-Ok.ensures.put)

pub returns-in-Ok-clause-counted : goal.returns-in-Ok-clause-counted
returns-in-Ok-clause-counted c = c.in-Ok.ensures.counted ∙ ap (λ n. c.args.steps.now + n) (count_of c.changes.result.now c.in_ok-entry.entry c.changes.ensures.items)
