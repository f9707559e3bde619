use Rattle.std.proofs.Common.{◌≡◌, ◌∷◌, List, map, rules, subst, sym}
use Rattle.proto_base.proofs.Common.{FileOf}
use Rattle.proto_base.specs.GivenFiles.{files_of_as}
use Rattle.proto_files.specs.Faults.{fault_at}
use Rattle.proto_all_faults.specs.Laws.{AreAllFaults}
use Rattle.proto_session_files.specs.Changed.{AreChanged}
use Rattle.proto_session_files.proofs.OwnFaults.{own_are_all}
use Rattle.proto_session_files.proofs.listing.own_faults.Goals as goal

pub returns-then-begin_in_texts : goal.returns-then-begin_in_texts
returns-then-begin_in_texts c =
    let g = files_of_as c.args.profile c.args.files.now in
    let changed = files_of_as c.args.profile c.in-Some.changed.items in
    let listed = map fault_at c.in_ok-listed.listed.items in
    let w = c.args.clean.now in
    let are : AreChanged w g changed = subst (λ (fs : List FileOf). AreChanged fs g changed) c.files.ensures.files (rw c.in-Some.is at c.in_ok-changed.ensures) in
    let begins = c.begin_in_texts.ensures c.if-begin_in_texts.true in
    let is : listed ≡ begins.0 ∷ begins.1 = search rules in
    let all : AreAllFaults changed listed = search rules in
    subst (AreAllFaults g) (sym is)
    (own_are_all c.link_faults_are_these.ensures c.faults_are_of_phases.ensures w g changed c.files.ensures.compiled are begins.0 begins.1 (subst (AreAllFaults changed) is all) begins.3 begins.4)
