use Rattle.std.proofs.Common.{◌<◌, List, length, map, take, sym, ◌∙◌, ap, subst, arith, All}
use Rattle.proto_base.proofs.Common.{Vec, length-map}
use Rattle.proto_base.specs.Undone.{undone}
use Rattle.proto_base.specs.declared.changes.Change.{Change}
use Rattle.proto_names_affected.specs.ChangedFiles.{AreChangesMarked, kind_rows_of}
use Rattle.proto_names_affected.specs.FirstWords.{AreFirstsOf}
use Rattle.proto_names_affected.specs.Renewed.{AreReferencesOf}
use Rattle.proto_names_affected.specs.declared.kind_rows.KindRow.{KindRow}
use Rattle.proto_names.proofs.GrownLists.{cut_grown, not_less, paired_now}
use Rattle.proto_names.proofs.PartsBefore.{are_references_of, meant_count, references_within, rows_below, rows_count, were_names}
use Rattle.proto_names.proofs.RenewedParts.{file_is_linked_now, meant_below_now, now_below, now_count, parts_are_clean, parts_are_link, parts_have_to_look}
use Rattle.proto_names.specs.Common.{Meant}
use Rattle.proto_names.specs.Renewal.{AreMeantBelow}
use Rattle.proto_names.proofs.updating.update_names.Goals as goal

pub update-requires-clause-within : goal.update-requires-clause-within
update-requires-clause-within c = rows_below c.args.edited.files.now c.args.edited.places.now c.args.declarations.now.table c.requires.renewed.imports_before c.args.declarations.now.rows.items (undone c.args.edited.saw.now c.args.edited.seen.now) c.args.resolutions.now.meant.items c.args.resolutions.now.references.items c.requires.table c.requires.renewed.link

pub update-requires-clause-were : goal.update-requires-clause-were
update-requires-clause-were c = were_names c.args.edited.files.now c.args.edited.places.now c.args.declarations.now.table c.requires.renewed.imports_before c.args.declarations.now.rows.items (undone c.args.edited.saw.now c.args.edited.seen.now) c.args.resolutions.now.meant.items c.args.resolutions.now.references.items c.requires.table c.requires.renewed.link

pub update-requires-clause-paired : goal.update-requires-clause-paired
update-requires-clause-paired c = rows_count c.args.edited.files.now c.args.edited.places.now c.args.declarations.now.table c.requires.renewed.imports_before c.args.declarations.now.rows.items (undone c.args.edited.saw.now c.args.edited.seen.now) c.args.resolutions.now.meant.items c.args.resolutions.now.references.items c.requires.table c.requires.renewed.link

pub affected_files-requires-clause-before : goal.affected_files-requires-clause-before
affected_files-requires-clause-before c = ap length c.deref.ensures.value ∙ sym (length-map c.in_ok-before.before.items (λ v. v.items)) ∙ ap length c.in_ok-before.ensures.before ∙ length-map c.args.edited.places.now (kind_rows_of c.args.declarations.now.table (map (λ v. v.items) c.args.declarations.now.rows.items))

pub affected_files-requires-clause-rows : goal.affected_files-requires-clause-rows
affected_files-requires-clause-rows c = now_count c.args.edited.files.now c.args.edited.places.now c.args.declarations.now.table c.requires.renewed.imports_before c.args.declarations.now.rows.items (undone c.args.edited.saw.now c.args.edited.seen.now) c.args.resolutions.now.meant.items c.args.resolutions.now.references.items c.requires.table c.requires.renewed.link c.update.new.self.table c.update.new.self.rows.items c.in_ok-before.ensures.renewed

pub affected_files-requires-clause-meant : goal.affected_files-requires-clause-meant
affected_files-requires-clause-meant c = meant_count c.args.edited.files.now c.args.edited.places.now c.args.declarations.now.table c.requires.renewed.imports_before c.args.declarations.now.rows.items (undone c.args.edited.saw.now c.args.edited.seen.now) c.args.resolutions.now.meant.items c.args.resolutions.now.references.items c.requires.table c.requires.renewed.link

pub affected_files-requires-clause-seen : goal.affected_files-requires-clause-seen
affected_files-requires-clause-seen c = omega (arith, (c.requires.renewed.sight c.are_read.ensures.0 c.are_read.ensures.1).count)

pub affected_files-requires-clause-references : goal.affected_files-requires-clause-references
affected_files-requires-clause-references c = references_within c.args.edited.files.now c.args.edited.places.now c.args.declarations.now.table c.requires.renewed.imports_before c.args.declarations.now.rows.items (undone c.args.edited.saw.now c.args.edited.seen.now) c.args.resolutions.now.meant.items c.args.resolutions.now.references.items c.requires.table c.requires.renewed.link c.grow_references.new.references.items c.grow_references.ensures.same

pub resolve_again-requires-clause-paired : goal.resolve_again-requires-clause-paired
resolve_again-requires-clause-paired c = now_count c.args.edited.files.now c.args.edited.places.now c.args.declarations.now.table c.requires.renewed.imports_before c.args.declarations.now.rows.items (undone c.args.edited.saw.now c.args.edited.seen.now) c.args.resolutions.now.meant.items c.args.resolutions.now.references.items c.requires.table c.requires.renewed.link c.update.new.self.table c.update.new.self.rows.items c.in_ok-before.ensures.renewed

pub resolve_again-requires-clause-meant : goal.resolve_again-requires-clause-meant
resolve_again-requires-clause-meant c = meant_count c.args.edited.files.now c.args.edited.places.now c.args.declarations.now.table c.requires.renewed.imports_before c.args.declarations.now.rows.items (undone c.args.edited.saw.now c.args.edited.seen.now) c.args.resolutions.now.meant.items c.args.resolutions.now.references.items c.requires.table c.requires.renewed.link

pub resolve_again-requires-clause-within : goal.resolve_again-requires-clause-within
resolve_again-requires-clause-within c = now_below c.args.edited.files.now c.args.edited.places.now c.args.declarations.now.table c.requires.renewed.imports_before c.args.declarations.now.rows.items (undone c.args.edited.saw.now c.args.edited.seen.now) c.args.resolutions.now.meant.items c.args.resolutions.now.references.items c.requires.table c.requires.renewed.link c.update.new.self.table c.update.new.self.rows.items c.in_ok-before.ensures.renewed

pub resolve_again-requires-clause-linked : goal.resolve_again-requires-clause-linked
resolve_again-requires-clause-linked c = λ reads are file lf.
    file_is_linked_now c.args.edited.files.now c.args.edited.places.now c.args.declarations.now.table c.requires.renewed.imports_before c.args.declarations.now.rows.items (undone c.args.edited.saw.now c.args.edited.seen.now) c.args.resolutions.now.meant.items c.args.resolutions.now.references.items c.requires.table c.requires.renewed.link c.update.new.self.table c.update.new.self.rows.items c.in_ok-before.ensures.renewed c.update.ensures.table reads are c.args.edited.seen.now (c.requires.renewed.sight reads are) file lf

pub renew_references-requires-clause-count : goal.renew_references-requires-clause-count
renew_references-requires-clause-count c = omega (arith, ap length c.deref-3.ensures.value, c.resolve_again.ensures.len, meant_count c.args.edited.files.now c.args.edited.places.now c.args.declarations.now.table c.requires.renewed.imports_before c.args.declarations.now.rows.items (undone c.args.edited.saw.now c.args.edited.seen.now) c.args.resolutions.now.meant.items c.args.resolutions.now.references.items c.requires.table c.requires.renewed.link, c.len-count.ensures.workspace.few)

pub renew_references-requires-clause-former : goal.renew_references-requires-clause-former
renew_references-requires-clause-former c = λ k d l j m lj.
    (let below = (c.resolve_again.ensures.below (subst (λ (log : List (Change (Vec Meant))). AreMeantBelow (length c.update.new.self.table.rows.items) log c.args.resolutions.now.meant.items) (sym c.requires.none) (meant_below_now c.args.edited.files.now c.args.edited.places.now c.args.declarations.now.table c.requires.renewed.imports_before c.args.declarations.now.rows.items (undone c.args.edited.saw.now c.args.edited.seen.now) c.args.resolutions.now.meant.items c.args.resolutions.now.references.items c.requires.table c.requires.renewed.link c.update.new.self.table c.update.new.self.rows.items c.in_ok-before.ensures.renewed))) in
    omega (arith, (subst (All (λ (x : Change (Vec Meant)). All (λ m. m.row < length c.update.new.self.table.rows.items) x.was.items)) (sym c.deref-2.ensures.value) below.before) k d l j m lj, paired_now (c.added_are_cut.ensures) c.args.resolutions.now.references.items c.grow_references.new.references.items c.grow_references.ensures.grown c.len-names.result (length c.update.new.self.table.rows.items) c.len-names.ensures (sym c.update.new.self.table.rows.ok.0) (length c.args.declarations.now.table.rows.items) c.requires.paired c.in_ok-before.ensures.renewed.names.size c.in_ok-grow_references.ensures.len))

pub renew_references-requires-clause-rows : goal.renew_references-requires-clause-rows
renew_references-requires-clause-rows c = λ k d l j m lj.
    (let below = (c.resolve_again.ensures.below (subst (λ (log : List (Change (Vec Meant))). AreMeantBelow (length c.update.new.self.table.rows.items) log c.args.resolutions.now.meant.items) (sym c.requires.none) (meant_below_now c.args.edited.files.now c.args.edited.places.now c.args.declarations.now.table c.requires.renewed.imports_before c.args.declarations.now.rows.items (undone c.args.edited.saw.now c.args.edited.seen.now) c.args.resolutions.now.meant.items c.args.resolutions.now.references.items c.requires.table c.requires.renewed.link c.update.new.self.table c.update.new.self.rows.items c.in_ok-before.ensures.renewed))) in
    omega (arith, (subst (All (λ (x : Vec Meant). All (λ m. m.row < length c.update.new.self.table.rows.items) x.items)) (sym c.deref-3.ensures.value) below.now) k d l j m lj, paired_now (c.added_are_cut.ensures) c.args.resolutions.now.references.items c.grow_references.new.references.items c.grow_references.ensures.grown c.len-names.result (length c.update.new.self.table.rows.items) c.len-names.ensures (sym c.update.new.self.table.rows.ok.0) (length c.args.declarations.now.table.rows.items) c.requires.paired c.in_ok-before.ensures.renewed.names.size c.in_ok-grow_references.ensures.len))

pub renew_references-requires-clause-within : goal.renew_references-requires-clause-within
renew_references-requires-clause-within c =
    subst (λ (ls : List (Change (Vec Meant))). All (λ x. x.place < length c.deref-3.result.now) ls) (sym c.deref-2.ensures.value)
    (λ k d l. omega (arith, c.resolve_again.ensures.within c.requires.resolved.meant k d l, c.resolve_again.ensures.len, ap length c.deref-3.ensures.value))

pub renew_references-requires-clause-before : goal.renew_references-requires-clause-before
renew_references-requires-clause-before c =
    are_references_of c.args.edited.files.now c.args.edited.places.now c.args.declarations.now.table c.requires.renewed.imports_before c.args.declarations.now.rows.items (undone c.args.edited.saw.now c.args.edited.seen.now) c.args.resolutions.now.meant.items c.args.resolutions.now.references.items c.requires.table c.requires.renewed.link c.grow_references.new.references.items c.grow_references.ensures.same (undone c.deref-2.result.now c.deref-3.result.now)
    (ap (λ (log : List (Change (Vec Meant))). undone log c.deref-3.result.now) c.deref-2.ensures.value ∙ ap (undone c.resolve_again.new.log.items) c.deref-3.ensures.value ∙ c.resolve_again.ensures.undone ∙ ap (λ (log : List (Change (Vec Meant))). undone log c.args.resolutions.now.meant.items) c.requires.none)

pub returns-in_err-grow_references-clause-resolved : goal.returns-in_err-grow_references-clause-resolved
returns-in_err-grow_references-clause-resolved c = record {
  meant = c.requires.resolved.meant;
  references = λ k d l. omega (arith, c.requires.resolved.references k d l, not_less (c.added_are_cut.ensures) c.args.resolutions.now.references.items c.grow_references.new.references.items c.grow_references.ensures.grown);
  count = omega (arith, c.requires.resolved.count, not_less (c.added_are_cut.ensures) c.args.resolutions.now.references.items c.grow_references.new.references.items c.grow_references.ensures.grown);
}

pub returns-in_err-grow_references-clause-unresolved : goal.returns-in_err-grow_references-clause-unresolved
returns-in_err-grow_references-clause-unresolved c = λ i. record { meant = undone c.args.log.now.resolutions.meant.items c.args.resolutions.now.meant.items; references = (cut_grown (c.added_are_cut.ensures) c.args.resolutions.now.references.items c.grow_references.new.references.items c.grow_references.ensures.grown c.args.log.now.resolutions.references.items c.args.log.now.resolutions.count c.requires.resolved.count) i }

pub returns-in_err-affected-clause-resolved : goal.returns-in_err-affected-clause-resolved
returns-in_err-affected-clause-resolved c = record {
  meant = c.requires.resolved.meant;
  references = λ k d l. omega (arith, c.requires.resolved.references k d l, not_less (c.added_are_cut.ensures) c.args.resolutions.now.references.items c.grow_references.new.references.items c.grow_references.ensures.grown);
  count = omega (arith, c.requires.resolved.count, not_less (c.added_are_cut.ensures) c.args.resolutions.now.references.items c.grow_references.new.references.items c.grow_references.ensures.grown);
}

pub returns-in_err-affected-clause-unresolved : goal.returns-in_err-affected-clause-unresolved
returns-in_err-affected-clause-unresolved c = λ i. record { meant = undone c.args.log.now.resolutions.meant.items c.args.resolutions.now.meant.items; references = (cut_grown (c.added_are_cut.ensures) c.args.resolutions.now.references.items c.grow_references.new.references.items c.grow_references.ensures.grown c.args.log.now.resolutions.references.items c.args.log.now.resolutions.count c.requires.resolved.count) i }

pub returns-in_err-resolve_again-clause-resolved : goal.returns-in_err-resolve_again-clause-resolved
returns-in_err-resolve_again-clause-resolved c = record {
  meant = λ k d l. omega (arith, c.resolve_again.ensures.within c.requires.resolved.meant k d l, c.resolve_again.ensures.len);
  references = λ k d l. omega (arith, c.requires.resolved.references k d l, not_less (c.added_are_cut.ensures) c.args.resolutions.now.references.items c.grow_references.new.references.items c.grow_references.ensures.grown);
  count = omega (arith, c.requires.resolved.count, not_less (c.added_are_cut.ensures) c.args.resolutions.now.references.items c.grow_references.new.references.items c.grow_references.ensures.grown);
}

pub returns-in_err-resolve_again-clause-unresolved : goal.returns-in_err-resolve_again-clause-unresolved
returns-in_err-resolve_again-clause-unresolved c = λ i. record { meant = c.resolve_again.ensures.undone i; references = (cut_grown (c.added_are_cut.ensures) c.args.resolutions.now.references.items c.grow_references.new.references.items c.grow_references.ensures.grown c.args.log.now.resolutions.references.items c.args.log.now.resolutions.count c.requires.resolved.count) i }

pub returns-then-not-branch-clause-resolved : goal.returns-then-not-branch-clause-resolved
returns-then-not-branch-clause-resolved c = record {
  meant = λ k d l. omega (arith, c.resolve_again.ensures.within c.requires.resolved.meant k d l, c.resolve_again.ensures.len);
  references = λ k d l. omega (arith, c.requires.resolved.references k d l, not_less (c.added_are_cut.ensures) c.args.resolutions.now.references.items c.grow_references.new.references.items c.grow_references.ensures.grown);
  count = omega (arith, c.requires.resolved.count, not_less (c.added_are_cut.ensures) c.args.resolutions.now.references.items c.grow_references.new.references.items c.grow_references.ensures.grown);
}

pub returns-then-not-branch-clause-unresolved : goal.returns-then-not-branch-clause-unresolved
returns-then-not-branch-clause-unresolved c = λ i. record { meant = c.resolve_again.ensures.undone i; references = (cut_grown (c.added_are_cut.ensures) c.args.resolutions.now.references.items c.grow_references.new.references.items c.grow_references.ensures.grown c.args.log.now.resolutions.references.items c.args.log.now.resolutions.count c.requires.resolved.count) i }

pub returns-in_err-renew_references-clause-resolved : goal.returns-in_err-renew_references-clause-resolved
returns-in_err-renew_references-clause-resolved c = record {
  meant = λ k d l. omega (arith, c.resolve_again.ensures.within c.requires.resolved.meant k d l, c.resolve_again.ensures.len);
  references = λ k d l. omega (arith, c.renew_references.ensures.within (λ j e m. omega (arith, c.requires.resolved.references j e m, not_less (c.added_are_cut.ensures) c.args.resolutions.now.references.items c.grow_references.new.references.items c.grow_references.ensures.grown)) k d l, c.renew_references.ensures.len);
  count = omega (arith, c.requires.resolved.count, not_less (c.added_are_cut.ensures) c.args.resolutions.now.references.items c.grow_references.new.references.items c.grow_references.ensures.grown, c.renew_references.ensures.len);
}

pub returns-in_err-renew_references-clause-unresolved : goal.returns-in_err-renew_references-clause-unresolved
returns-in_err-renew_references-clause-unresolved c = λ i. record { meant = c.resolve_again.ensures.undone i; references = (ap (take c.args.log.now.resolutions.count) c.renew_references.ensures.undone ∙ cut_grown (c.added_are_cut.ensures) c.args.resolutions.now.references.items c.grow_references.new.references.items c.grow_references.ensures.grown c.args.log.now.resolutions.references.items c.args.log.now.resolutions.count c.requires.resolved.count) i }

pub returns-clause-resolved : goal.returns-clause-resolved
returns-clause-resolved c = record {
  meant = λ k d l. omega (arith, c.resolve_again.ensures.within c.requires.resolved.meant k d l, c.resolve_again.ensures.len);
  references = λ k d l. omega (arith, c.renew_references.ensures.within (λ j e m. omega (arith, c.requires.resolved.references j e m, not_less (c.added_are_cut.ensures) c.args.resolutions.now.references.items c.grow_references.new.references.items c.grow_references.ensures.grown)) k d l, c.renew_references.ensures.len);
  count = omega (arith, c.requires.resolved.count, not_less (c.added_are_cut.ensures) c.args.resolutions.now.references.items c.grow_references.new.references.items c.grow_references.ensures.grown, c.renew_references.ensures.len);
}

pub returns-clause-unresolved : goal.returns-clause-unresolved
returns-clause-unresolved c = λ i. record { meant = c.resolve_again.ensures.undone i; references = (ap (take c.args.log.now.resolutions.count) c.renew_references.ensures.undone ∙ cut_grown (c.added_are_cut.ensures) c.args.resolutions.now.references.items c.grow_references.new.references.items c.grow_references.ensures.grown c.args.log.now.resolutions.references.items c.args.log.now.resolutions.count c.requires.resolved.count) i }

pub returns-clause-paired : goal.returns-clause-paired
returns-clause-paired c = c.renew_references.ensures.len ∙ paired_now (c.added_are_cut.ensures) c.args.resolutions.now.references.items c.grow_references.new.references.items c.grow_references.ensures.grown c.len-names.result (length c.update.new.self.table.rows.items) c.len-names.ensures (sym c.update.new.self.table.rows.ok.0) (length c.args.declarations.now.table.rows.items) c.requires.paired c.in_ok-before.ensures.renewed.names.size c.in_ok-grow_references.ensures.len

pub returns-clause-clean : goal.returns-clause-clean
returns-clause-clean c = parts_are_clean c.args.edited.files.now c.args.edited.places.now c.args.declarations.now.table c.requires.renewed.imports_before c.args.declarations.now.rows.items (undone c.args.edited.saw.now c.args.edited.seen.now) c.args.resolutions.now.meant.items c.args.resolutions.now.references.items c.requires.table c.requires.renewed.link c.update.new.self.table c.update.new.self.rows.items c.in_ok-before.ensures.renewed c.in_ok-affected.affected c.grow_references.new.references.items c.grow_references.ensures.same (subst (λ (bs : List (List KindRow)). AreChangesMarked c.update.new.self.table c.in_ok-affected.affected c.args.edited.places.now (map (λ v. v.items) c.grow_references.new.references.items) (map (λ v. v.items) c.args.resolutions.now.meant.items) bs (map (kind_rows_of c.update.new.self.table (map (λ v. v.items) c.update.new.self.rows.items)) c.args.edited.places.now)) (ap (map (λ (v : Vec KindRow). v.items)) c.deref.ensures.value ∙ c.in_ok-before.ensures.before) c.in_ok-affected.ensures.changes) c.update.ensures.table c.args.edited.saw.now c.args.edited.seen.now c.requires.renewed.sight c.requires.renewed.kept (c.in_ok-affected.ensures.sight (undone c.args.edited.saw.now c.args.edited.seen.now) c.requires.was) c.resolve_again.new.meant.items (λ reads are. c.in_ok-resolve_again.ensures.meant c.if-not-branch.false reads are) c.are_read.ensures.0 c.are_read.ensures.1

pub returns-clause-link : goal.returns-clause-link
returns-clause-link c = λ imports are_imports.
    parts_are_link c.args.edited.files.now c.args.edited.places.now c.args.declarations.now.table c.requires.renewed.imports_before c.args.declarations.now.rows.items (undone c.args.edited.saw.now c.args.edited.seen.now) c.args.resolutions.now.meant.items c.args.resolutions.now.references.items c.requires.table c.requires.renewed.link c.update.new.self.table c.update.new.self.rows.items c.in_ok-before.ensures.renewed c.in_ok-affected.affected c.grow_references.new.references.items c.grow_references.ensures.same (subst (λ (bs : List (List KindRow)). AreChangesMarked c.update.new.self.table c.in_ok-affected.affected c.args.edited.places.now (map (λ v. v.items) c.grow_references.new.references.items) (map (λ v. v.items) c.args.resolutions.now.meant.items) bs (map (kind_rows_of c.update.new.self.table (map (λ v. v.items) c.update.new.self.rows.items)) c.args.edited.places.now)) (ap (map (λ (v : Vec KindRow). v.items)) c.deref.ensures.value ∙ c.in_ok-before.ensures.before) c.in_ok-affected.ensures.changes) c.update.ensures.table c.args.edited.saw.now c.args.edited.seen.now c.requires.renewed.sight c.requires.renewed.kept (c.in_ok-affected.ensures.sight (undone c.args.edited.saw.now c.args.edited.seen.now) c.requires.was) c.resolve_again.new.meant.items (λ reads are. c.in_ok-resolve_again.ensures.meant c.if-not-branch.false reads are) c.are_read.ensures.0 c.are_read.ensures.1 c.renew_references.new.references.items (c.renew_references.ensures.len ∙ paired_now (c.added_are_cut.ensures) c.args.resolutions.now.references.items c.grow_references.new.references.items c.grow_references.ensures.grown c.len-names.result (length c.update.new.self.table.rows.items) c.len-names.ensures (sym c.update.new.self.table.rows.ok.0) (length c.args.declarations.now.table.rows.items) c.requires.paired c.in_ok-before.ensures.renewed.names.size c.in_ok-grow_references.ensures.len)
    (subst (λ (ms : List (Vec Meant)). AreReferencesOf (map (λ v. v.items) c.renew_references.new.references.items) (map (λ v. v.items) ms)) c.deref-3.ensures.value c.in_ok-renew_references.ensures.references)
    imports (are_imports c.are_read.ensures.0 c.are_read.ensures.1)

pub returns-clause-told : goal.returns-clause-told
returns-clause-told c = λ imports before link same.
    record {
      count = c.in_ok-affected.ensures.len;
      look = λ was reads are_was are.
          parts_have_to_look c.args.edited.files.now c.args.edited.places.now c.args.declarations.now.table imports c.args.declarations.now.rows.items (undone c.args.edited.saw.now c.args.edited.seen.now) c.args.resolutions.now.meant.items c.args.resolutions.now.references.items c.requires.table (before, record { link = link.link; clean = link.clean; reads = was; read = are_was }, same) c.update.new.self.table c.update.new.self.rows.items c.in_ok-before.ensures.renewed c.in_ok-affected.affected c.grow_references.new.references.items c.grow_references.ensures.same (subst (λ (bs : List (List KindRow)). AreChangesMarked c.update.new.self.table c.in_ok-affected.affected c.args.edited.places.now (map (λ v. v.items) c.grow_references.new.references.items) (map (λ v. v.items) c.args.resolutions.now.meant.items) bs (map (kind_rows_of c.update.new.self.table (map (λ v. v.items) c.update.new.self.rows.items)) c.args.edited.places.now)) (ap (map (λ (v : Vec KindRow). v.items)) c.deref.ensures.value ∙ c.in_ok-before.ensures.before) c.in_ok-affected.ensures.changes) c.update.ensures.table c.args.edited.saw.now c.args.edited.seen.now c.requires.renewed.sight c.requires.renewed.kept (c.in_ok-affected.ensures.sight (undone c.args.edited.saw.now c.args.edited.seen.now) c.requires.was) reads are;
    }

pub add_changed-requires-clause-within : goal.add_changed-requires-clause-within
add_changed-requires-clause-within c =
    subst (λ (ls : List (Change (Vec Meant))). All (λ x. x.place < length c.deref-5.result.now) ls) (sym c.deref-4.ensures.value)
    (λ k d l. omega (arith, c.resolve_again.ensures.within c.requires.resolved.meant k d l, c.resolve_again.ensures.len, ap length c.deref-5.ensures.value))

pub add_changed-requires-clause-before : goal.add_changed-requires-clause-before
add_changed-requires-clause-before c =
    let was = ap (λ (log : List (Change (Vec Meant))). undone log c.deref-5.result.now) c.deref-4.ensures.value ∙ ap (undone c.resolve_again.new.log.items) c.deref-5.ensures.value ∙ c.resolve_again.ensures.undone ∙ ap (λ (log : List (Change (Vec Meant))). undone log c.args.resolutions.now.meant.items) c.requires.none in
    subst (λ (ms : List (Vec Meant)). AreFirstsOf c.args.resolutions.now.firsts (map (λ v. v.items) ms)) (sym was) c.requires.firsts

pub returns-clause-firsts : goal.returns-clause-firsts
returns-clause-firsts c = subst (λ (ms : List (Vec Meant)). AreFirstsOf c.add_changed.new.self (map (λ v. v.items) ms)) c.deref-5.ensures.value c.add_changed.ensures.firsts

pub resolve_again-requires-clause-sized : goal.resolve_again-requires-clause-sized
resolve_again-requires-clause-sized c = c.in_ok-affected.ensures.len
