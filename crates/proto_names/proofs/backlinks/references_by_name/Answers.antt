use Rattle.std.proofs.Common.{[], ◌++◌, get_or, map, sym, ◌∙◌, ap, arith}
use Rattle.std.proofs.lemmas.List.{get_or-map, length-map}
use Rattle.proto_names.specs.Linking.{meant_in_file, references_to}
use Rattle.proto_names.proofs.MeantBy.{more_meant}
use Rattle.proto_names.proofs.backlinks.references_by_name.Goals as goal

pub loop-file-preserved : goal.loop-file-preserved
loop-file-preserved c =
    let fs = map (λ v. v.items) c.args.meant.now in
    let n = length-map c.args.meant.now (λ v. v.items) in
    let here = c.as_slice.ensures ∙ ap (λ v. v.items) c.index-meant-file.is ∙ sym (get_or-map (λ v. v.items) c.args.meant.now c.loop-file.file c.index-meant-file.result [] c.loop-file-test.true) in
    let old = map (λ v. v.items) c.loop-file.references.items in
    record {
      len = omega (arith, c.in_ok-put_all.ensures.len, c.loop-file.invariant.len);
      each = λ row. more_meant fs c.loop-file.file row (get_or old row []) (get_or (map (λ v. v.items) c.put_all.new.references.items) row []) (omega (arith, c.loop-file-test.true, n)) (c.loop-file.invariant.each row)
          (c.in_ok-put_all.ensures.each row ∙ ap (λ ms. get_or old row [] ++ references_to row (map (meant_in_file c.loop-file.file) ms)) here);
    }
