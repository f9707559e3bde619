use Rattle.std.proofs.Common.{ℕ, List, length, map, sym, ap, subst, arith}
use Rattle.proto_files.proofs.Common.{fault_at, FileOf}
use Rattle.proto_edit_entries.proofs.Common.{AreChangedTexts, ArePut, change_of}
use Rattle.proto_edit.proofs.Reopening.{few_places, none_put, texts_faulty, texts_made}
use Rattle.proto_edit.proofs.workspace.Workspace.put.Goals.{In-Some}
use Rattle.proto_edit.proofs.workspace.Workspace.put.Goals as goal

pub returns-in_default-clause-err : goal.returns-in_default-clause-err
returns-in_default-clause-err c =
    let cs = map change_of c.args.changes.now in
    let fails = rw c.in_default.is at c.in_ok-changed.ensures in
    none_put c.args.self.now cs c.files.ensures.compiled c.requires.rising (λ after walk. fails after (subst (λ (z : List FileOf). ArePut z cs after) (sym c.files.ensures.files) walk))

-- the texts at their places, as they are passed on, are what is put
changed : (c : In-Some) → AreChangedTexts c.args.self.now (map change_of c.args.changes.now) c.in-Some.changed.places.items (map (λ t. t.items) c.in-Some.changed.texts.items)
changed c =
    let cs = map change_of c.args.changes.now in
    let texts = c.in-Some.changed in
    subst (λ (z : List FileOf). AreChangedTexts z cs texts.places.items (map (λ t. t.items) texts.texts.items)) c.files.ensures.files (rw c.in-Some.is at c.in_ok-changed.ensures)

pub returns-in-Ok-clause-put : goal.returns-in-Ok-clause-put
returns-in-Ok-clause-put c =
    let cs = map change_of c.args.changes.now in
    let ts = map (λ t. t.items) c.in-Some.changed.texts.items in
    let are = subst (λ (ps : List ℕ). AreChangedTexts c.args.self.now cs ps ts) (sym c.deref.ensures.value) (changed (goal.at.returns-in-Ok-clause-put c).In-Some) in
    (texts_made c.args.self.now cs c.files.ensures.compiled c.requires.rising c.deref.result.now ts are c.replace_counted.new.self c.in-Ok.ensures.files c.in-Ok.ensures.clean).0

pub returns-in-Ok-clause-compiled : goal.returns-in-Ok-clause-compiled
returns-in-Ok-clause-compiled c =
    let cs = map change_of c.args.changes.now in
    let ts = map (λ t. t.items) c.in-Some.changed.texts.items in
    let are = subst (λ (ps : List ℕ). AreChangedTexts c.args.self.now cs ps ts) (sym c.deref.ensures.value) (changed (goal.at.returns-in-Ok-clause-compiled c).In-Some) in
    (texts_made c.args.self.now cs c.files.ensures.compiled c.requires.rising c.deref.result.now ts are c.replace_counted.new.self c.in-Ok.ensures.files c.in-Ok.ensures.clean).1

pub returns-in-Err-NoMemory-clause-refused : goal.returns-in-Err-NoMemory-clause-refused
returns-in-Err-NoMemory-clause-refused c =
    let cs = map change_of c.args.changes.now in
    let few = few_places c.args.self.now cs c.files.ensures.compiled c.requires.rising c.in-Some.changed.places.items (map (λ t. t.items) c.in-Some.changed.texts.items) (changed (goal.at.returns-in-Err-NoMemory-clause-refused c).In-Some) in
    let same = ap length c.deref.ensures.value in
    let most = c.in-Err-NoMemory.ensures.refused.1 in
    (c.in-Err-NoMemory.ensures.refused.0, omega (arith, few, same, most))

pub returns-clause-err : goal.returns-clause-err
returns-clause-err c =
    let cs = map change_of c.args.changes.now in
    let ts = map (λ t. t.items) c.in-Some.changed.texts.items in
    let are = subst (λ (ps : List ℕ). AreChangedTexts c.args.self.now cs ps ts) (sym c.deref.ensures.value) (changed (goal.at.returns-clause-err c).In-Some) in
    texts_faulty c.args.self.now cs c.files.ensures.compiled c.requires.rising c.deref.result.now ts are (fault_at c.in-Err-Schema.field-0-0) (rw c.in-Err-Schema.field-0-is at c.in-Err-Schema.ensures.fault)

pub returns-clause-refused : goal.returns-clause-refused
returns-clause-refused c =
    let cs = map change_of c.args.changes.now in
    let few = few_places c.args.self.now cs c.files.ensures.compiled c.requires.rising c.in-Some.changed.places.items (map (λ t. t.items) c.in-Some.changed.texts.items) (changed (goal.at.returns-clause-refused c).In-Some) in
    let same = ap length c.deref.ensures.value in
    let most = c.in-Err-Schema.ensures.refused.1 in
    (c.in-Err-Schema.ensures.refused.0, omega (arith, few, same, most))
