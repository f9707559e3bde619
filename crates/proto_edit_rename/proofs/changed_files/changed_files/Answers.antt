use Rattle.std.proofs.Common.{List, ℕ, Bor, false, option_map, length, ap, ◌∙◌}
use Rattle.std.proofs.lemmas.List.{length-replicate}
use Rattle.proto_edit_rename.specs.ChangedFiles.{with_rows}
use Rattle.proto_edit_rename.proofs.ChangedMarks.{are_changed_files}
use Rattle.proto_edit_rename.proofs.changed_files.changed_files.Goals as goal

pub returns : goal.returns
returns c =
    are_changed_files c.args.linked.now.link c.args.target (option_map (λ (x : Bor (List ℕ)). x.now) c.args.enum_name) (length c.args.linked.now.files) c.in_ok-changed.changed c.insert.new.self c.mark_names.new.changed c.mark_users.new.changed
    (ap length c.in_ok-changed.ensures ∙ length-replicate c.file_count.result false ∙ c.file_count.ensures.len) c.requires c.insert.ensures ((rw c.link-link.ensures.link at c.mark_names.ensures) ∙ ap (with_rows c.args.linked.now.link c.args.target.name.now c.insert.new.self) (rw c.link-link.ensures.link at c.declared_in-declared.ensures.exact))
    c.mark_users.ensures.as_many c.mark_users.ensures.kept (rw c.link-link.ensures.link at c.mark_users.ensures.users)
