use Rattle.std.proofs.Common.{◌≡◌, ◌<◌, [], ◌∷◌, ◌++◌, List, length, length-append, Some, ap, ◌∙◌, arith}
use Rattle.proto_files.proofs.Common.{each_pushed}
use Rattle.proto_ast.proofs.Common.{past}
use Rattle.proto_desc_numbers.specs.declared.flaw.Flaw.{Flaw}
use Rattle.proto_desc_extensions.specs.Common.{custom_flaws, workspace_flaws}
use Rattle.proto_desc_extensions.proofs.ExtendedRows.{no_rows_of_files}
use Rattle.proto_desc_extensions.proofs.options.with_options.Goals as goal

pub loop-file-init : goal.loop-file-init
loop-file-init c = record {
  rows = no_rows_of_files c.args.linked.now.files c.new-rows.result c.new-rows.ensures.empty;
  len = ap length c.new-found.ensures.items;
  each = λ reads are k d l. absurd (omega (arith, l, ap length c.new-found.ensures.items));
}

pub loop-file-preserved : goal.loop-file-preserved
loop-file-preserved c =
    let files = c.args.linked.now.files in
    let file = c.loop-file.file in
    let l : file < length files = omega (arith, c.loop-file-test.true, c.file_count-file-end.ensures.len) in
    let fs = c.in_ok-flaws_of_file.field-0 in
    record {
      rows = c.in_ok-flaws_of_file.ensures.rows;
      len = omega (arith, ap length c.in_ok-push.ensures.items, length-append c.loop-file.found.items (fs ∷ []), c.loop-file.invariant.len);
      each = λ reads are.
          each_pushed (λ k flaws. flaws.items ≡ workspace_flaws (Some past) files reads k) c.loop-file.found.items c.push.new.self.items fs file c.in_ok-push.ensures.items c.loop-file.invariant.len (c.loop-file.invariant.each reads are)
          (c.in_ok-flaws_of_file.ensures.flaws reads are
          ∙ ap (λ (ns : List Flaw). ns ++ custom_flaws files reads file) (c.deref.ensures.value ∙ ap (λ v. v.items) c.index-numbers-file.is ∙ c.requires.each reads are file c.index-numbers-file.result (omega (arith, l, c.requires.len))));
    }

pub returns : goal.returns
returns c = record {
  len = omega (arith, c.loop-file.invariant.len, c.loop-file-test.false, c.file_count-file-end.ensures.len, c.loop-file.auto.file-end);
  each = c.loop-file.invariant.each;
}
