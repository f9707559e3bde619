use Rattle.std.proofs.Common.{◌<◌, ℕ, All, List, length, subst, sym, ap, arith, option_map, string_bytes}
use Rattle.proto_file_sets.proofs.Members.{files_below}
use Rattle.proto_files.proofs.Common.{FileOf, HasNoFault, ReadFaults}
use Rattle.proto_edit_rename.specs.Changes.{AreFilesToChange}
use Rattle.proto_edit_rename.specs.RenameScopes.{RenameScopeOf}
use Rattle.proto_edit_rename.proofs.ChangedMarks.{no_change}
use Rattle.proto_edit_rename.proofs.places.RenameScope.changed_files.Goals as goal

pub files-requires-2 : goal.files-requires-2
files-requires-2 c = omega (arith, c.self.invariant.changed.as_many, ap length c.files.ensures.files, c.len.ensures.workspace.few)

pub returns-clause-within : goal.returns-clause-within
returns-clause-within c =
    let i = c.self.inside in
    subst (λ (s : RenameScopeOf). All (λ (file : ℕ). file < length s.files) c.in_ok-listed.listed.items) c.self.view_is
    (subst (λ (n : ℕ). All (λ (file : ℕ). file < n) c.in_ok-listed.listed.items) c.self.invariant.changed.as_many
    (subst (All (λ (file : ℕ). file < length i.changed)) (sym c.in_ok-listed.ensures) (files_below i.changed)))

pub returns-clause-whole : goal.returns-clause-whole
returns-clause-whole c =
    let i = c.self.inside in
    let is = c.self.invariant in
    let files = i.linked.now.files in
    let read = subst (λ (fs : List FileOf). HasNoFault (ReadFaults fs)) c.files.ensures.files c.len.ensures.clean in
    subst (λ (s : RenameScopeOf). AreFilesToChange s.files s.target c.in_ok-listed.listed.items) c.self.view_is (record {
      set = i.changed;
      as_many = is.changed.as_many;
      are = c.in_ok-listed.ensures;
      others = λ file to within off. no_change files is.clean.clean i.linked.now.link is.clean.link i.target (option_map string_bytes i.enum_name) i.changed is.changed file within off i.old.now is.value to read;
    })
