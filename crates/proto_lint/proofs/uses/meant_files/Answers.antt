use Rattle.std.proofs.Common.{List, length, ◌∙◌, ap, subst, arith, take_all}
use Rattle.proto_names.specs.Linking.{Meant}
use Rattle.proto_lint.specs.ImportTables.{MarksMeant}
use Rattle.proto_lint.proofs.MeantMarks.{marks_more, with_mark_length}
use Rattle.proto_lint.proofs.uses.meant_files.Goals as goal

-- a reference for no place
abbrev no_reference : Meant
no_reference = record { token = 0; first = 0; row = 0 }

pub loop-meant-preserved : goal.loop-meant-preserved
loop-meant-preserved c =
    record {
      len = ap length c.insert_meant.ensures ∙ with_mark_length c.loop-meant.used _ ∙ c.loop-meant.invariant.len;
      meant = marks_more c.args.link.now c.meant_in-meant-items.result.now c.loop-meant.meant-index no_reference c.args.count c.loop-meant.used c.insert_meant.new.used c.loop-meant-test.true c.loop-meant.invariant.len c.loop-meant.invariant.meant c.insert_meant.ensures;
    }

pub returns-clause-meant : goal.returns-clause-meant
returns-clause-meant c =
    let means = c.meant_in-meant-items.result.now in
    subst (λ (ms : List Meant). MarksMeant c.args.link.now ms c.args.count c.loop-meant.used) (take_all c.loop-meant.meant-index means (omega (arith, c.loop-meant-test.false)) ∙ c.meant_in-meant-items.ensures.exact) c.loop-meant.invariant.meant
