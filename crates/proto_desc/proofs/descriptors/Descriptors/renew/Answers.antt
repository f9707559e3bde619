use Rattle.std.proofs.Common.{All, List, ℕ, ◌<◌, length, get_or, option_map, sym, subst, ◌∙◌, arith}
use Rattle.proto_file_sets.specs.FileSets.{files_in}
use Rattle.proto_file_sets.proofs.Members.{files_are_in, files_below}
use Rattle.proto_files.proofs.Common.{HasNoFault}
use Rattle.proto_resolved.specs.Meanings.{HasEnumsMeant}
use Rattle.proto_desc_affected.specs.Common.{HasNoMarkedExtends, file_summaries_of}
use Rattle.proto_desc_affected.specs.declared.file_summary.FileSummary.{FileSummary}
use Rattle.proto_desc.specs.Checked.{CheckFaults}
use Rattle.proto_desc.specs.Edited.{AreDescriptorsOf}
use Rattle.proto_desc.specs.Renewing.{AreMade}
use Rattle.proto_desc.proofs.Renewed.{counts, made_within, renewed}
use Rattle.proto_desc.proofs.descriptors.Descriptors.renew.Goals as goal

pub files-requires : goal.files-requires
files-requires c = omega (arith, c.file_count.ensures.workspace.few, c.in_ok-affected.ensures.len)

pub check_affected-requires-clause-files : goal.check_affected-requires-clause-files
check_affected-requires-clause-files c =
    let files = c.args.clean.now.files in
    let marks = c.in_ok-affected.affected in
    let within = subst (λ n. All (λ file. file < n) (files_in marks)) c.in_ok-affected.ensures.len (files_below marks) in
    rw c.linked.ensures.linked (subst (λ (ns : List ℕ). All (λ file. file < length files) ns) (sym (c.deref-2.ensures.value ∙ c.in_ok-listed.ensures)) within)

pub check_affected-requires-clause-table : goal.check_affected-requires-clause-table
check_affected-requires-clause-table c =
    let files = c.args.clean.now.files in
    let link = c.args.clean.now.link in
    let marks = c.in_ok-affected.affected in
    let wanted = c.in_ok-wanted.wanted in
    let table = c.in_ok-table.table in
    let enums = rw (c.files-files.ensures.files, c.link.ensures.link) at c.in_ok-wanted.ensures in
    let of_wanted = rw c.files-files.ensures.files at c.in_ok-table.ensures in
    let within = subst (λ n. All (λ file. file < n) (files_in marks)) c.in_ok-affected.ensures.len (files_below marks) in
    let meant : All (λ file. HasEnumsMeant files link file table) (files_in marks) =
    λ k d l. c.wanted_enums_are_there.ensures files link c.files-files.ensures.clean.link marks wanted enums table of_wanted (get_or (files_in marks) k d) (within k d l) (files_are_in marks k d l) in
    rw c.linked.ensures.linked (subst (λ (ns : List ℕ). All (λ file. HasEnumsMeant files link file table) ns) (sym (c.deref-2.ensures.value ∙ c.in_ok-listed.ensures)) meant)

pub put-requires-clause-file : goal.put-requires-clause-file
put-requires-clause-file c =
    let files = c.args.clean.now.files in
    let made = subst (λ (ns : List ℕ). AreMade files ns c.in_ok-all.all.items) (c.deref-2.ensures.value ∙ c.in_ok-listed.ensures) (rw c.linked.ensures.linked at c.in_ok-all.ensures) in
    made_within files c.in_ok-affected.affected c.in_ok-all.all.items c.in_ok-affected.ensures.len made (length c.args.self.now.file.items) (counts files c.args.places.now (option_map (λ files. files.now) c.args.told) c.args.self.now c.requires.were).0

pub put-requires-clause-kept : goal.put-requires-clause-kept
put-requires-clause-kept c =
    let files = c.args.clean.now.files in
    let made = subst (λ (ns : List ℕ). AreMade files ns c.in_ok-all.all.items) (c.deref-2.ensures.value ∙ c.in_ok-listed.ensures) (rw c.linked.ensures.linked at c.in_ok-all.ensures) in
    made_within files c.in_ok-affected.affected c.in_ok-all.all.items c.in_ok-affected.ensures.len made (length c.args.self.now.kept.items) (counts files c.args.places.now (option_map (λ files. files.now) c.args.told) c.args.self.now c.requires.were).1

both : (c : goal.After-drop-affected-inside-2) → HasNoFault (CheckFaults c.args.clean.now.files) × AreDescriptorsOf c.args.clean.now.files c.put.new.self
both c =
    let files = c.args.clean.now.files in
    let places = c.args.places.now in
    let link = c.args.clean.now.link in
    let old = c.args.self.now in
    let marks = c.in_ok-affected.affected in
    let others = c.in_ok-affected.ensures.others in
    let asked = (rw c.files-files.ensures.files at c.in_ok-has_no_marked_extends.ensures).0 c.if-not-branch.false in
    let none = subst (λ (ks : List FileSummary). HasNoMarkedExtends files (file_summaries_of ks) marks) c.deref.ensures.value asked in
    let made = subst (λ (ns : List ℕ). AreMade files ns c.in_ok-all.all.items) (c.deref-2.ensures.value ∙ c.in_ok-listed.ensures) (rw c.linked.ensures.linked at c.in_ok-all.ensures) in
    renewed
    (record { sound = c.clean_edits_are_sound.ensures; tells = c.kept_files_tell_unaffected.ensures; described = c.unaffected_files_stay.ensures.descriptors; flawless = c.unaffected_files_stay.ensures.flawless })
    places files c.files-files.ensures.clean.clean (option_map (λ files. files.now) c.args.told) old c.put.new.self c.requires.were link marks (record { link = c.files-files.ensures.clean.link; others = others; none = none }) c.in_ok-all.all.items made c.put.ensures

pub returns-clause-clean : goal.returns-clause-clean
returns-clause-clean c = (both c).0

pub returns-clause-descriptors : goal.returns-clause-descriptors
returns-clause-descriptors c = (both c).1
