use Rattle.std.proofs.Common.{List, length, map, sym, ap, subst, ◌∙◌, arith}
use Rattle.proto_files.proofs.Common.{FileOf}
use Rattle.proto_files.specs.GivenFiles.{AreWorkspaceFiles}
use Rattle.proto_desc.proofs.SameBut.{length_stands, same_but}
use Rattle.proto_option_files.specs.OptionFiles.{AreOptionFiles}
use Rattle.proto_edit.proofs.workspace.Workspace.replace_counted.Goals as goal

pub add_changed-requires-clause-within : goal.add_changed-requires-clause-within
add_changed-requires-clause-within c = λ k d l.
    (let is = c.files-files.ensures.files ∙ c.in-Ok.ensures.files in
    let within = c.requires.places k d l in
    let same = length_stands c.self.inside.schema c.args.places.now (map (λ t. t.items) c.args.texts.items) in
    omega (arith, within, ap length is, same, ap length c.self.view_is))

pub add_changed-requires-clause-sized : goal.add_changed-requires-clause-sized
add_changed-requires-clause-sized c = λ k d l.
    (let is = c.files-files.ensures.files ∙ c.in-Ok.ensures.files in
    c.self.invariant.1.sized k d l ∙ sym (ap length is ∙ length_stands c.self.inside.schema c.args.places.now (map (λ t. t.items) c.args.texts.items)))

pub invariant_of-self : goal.invariant_of-self
invariant_of-self c =
    let old = c.self.inside.schema in
    let is = c.files-files.ensures.files ∙ c.in-Ok.ensures.files in
    let same = same_but old c.args.places.now (map (λ t. t.items) c.args.texts.items) c.files-files.result.now is in (
      record {
        workspace = subst AreWorkspaceFiles c.files-files.ensures.files c.len.ensures.workspace;
        clean = c.files-files.ensures.compiled;
      },
      subst (λ (w : List FileOf). AreOptionFiles w c.add_changed.new.self) c.files-files.ensures.files (c.add_changed.ensures.theirs old same c.self.invariant.1),
    )
