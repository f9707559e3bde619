use Rattle.std.proofs.Common.{[], get_or, length, sym, ◌∙◌, ap, subst, arith, below_more}
use Rattle.std.proofs.lemmas.List.{get_or-map}
use Rattle.proto_names_affected.specs.FirstWords.{HasFirsts}
use Rattle.proto_names_affected.proofs.ChangedFirsts.{firsts_of_all, lists_of}
use Rattle.proto_names_affected.proofs.WordSets.{has_stays, sizes_stay}
use Rattle.proto_names_affected.proofs.first_words.FirstWords.of.Goals as goal

pub loop-file-init : goal.loop-file-init
loop-file-init c = record {
  sized = c.in_ok-firsts.ensures;
  each = λ k l. absurd (omega (arith, l));
}

pub add-requires : goal.add-requires
add-requires c = record { within = λ k d l. omega (arith, c.loop-file.invariant.sized k d l, c.loop-file-test.true) }

pub loop-file-preserved : goal.loop-file-preserved
loop-file-preserved c =
    let was = c.loop-file.firsts in
    let now = c.add.new.self in
    let meant = c.args.meant.now in
    let here = c.as_slice.ensures ∙ ap (λ v. v.items) c.index-meant-file.is ∙ sym (get_or-map (λ v. v.items) meant c.loop-file.file c.index-meant-file.result [] c.loop-file-test.true) in
    record {
      sized = sizes_stay was now c.add.ensures.stay (length meant) c.loop-file.invariant.sized;
      each = below_more (λ k. HasFirsts now k (get_or (lists_of meant) k [])) c.loop-file.file
          (λ k l. has_stays was now c.add.ensures.stay k (get_or (lists_of meant) k []) (c.loop-file.invariant.each k l))
          (subst (HasFirsts now c.loop-file.file) here c.add.ensures.added);
    }

pub returns : goal.returns
returns c = firsts_of_all c.loop-file.firsts c.args.meant.now c.loop-file.file (λ l. absurd (omega (arith, l, c.loop-file-test.false))) c.loop-file.invariant.sized c.loop-file.invariant.each
