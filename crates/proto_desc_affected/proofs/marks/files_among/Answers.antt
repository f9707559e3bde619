use Rattle.std.proofs.lemmas.Result.{IfOk-weaker}
use Rattle.proto_desc_affected.proofs.AskedFiles.{are_marked, are_within, is_listed}
use Rattle.proto_desc_affected.proofs.marks.files_among.Goals as goal

pub returns-clause-within : goal.returns-clause-within
returns-clause-within c = IfOk-weaker c.files.result _ _
    (λ listed is. are_within c.args.set.now c.in_ok-among.among c.in_ok-none.none c.add_new.new.self c.args.file_count c.in_ok-among.ensures c.in_ok-none.ensures c.add_new.ensures.count c.add_new.ensures.files listed.items is)
    c.files.ensures

pub returns-clause-marked : goal.returns-clause-marked
returns-clause-marked c = IfOk-weaker c.files.result _ _
    (λ listed is. are_marked c.args.set.now c.in_ok-among.among c.in_ok-none.none c.add_new.new.self c.args.file_count c.in_ok-among.ensures c.in_ok-none.ensures c.add_new.ensures.count c.add_new.ensures.files listed.items is)
    c.files.ensures

pub returns-clause-whole : goal.returns-clause-whole
returns-clause-whole c = IfOk-weaker c.files.result _ _
    (λ listed is. is_listed c.args.set.now c.in_ok-among.among c.in_ok-none.none c.add_new.new.self c.args.file_count c.in_ok-among.ensures c.in_ok-none.ensures c.add_new.ensures.count c.add_new.ensures.files listed.items is)
    c.files.ensures
