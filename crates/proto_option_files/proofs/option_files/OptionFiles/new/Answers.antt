use Rattle.std.proofs.Common.{◌≡◌, List, ℕ, ◌<◌, false, length, ap, subst, ◌∙◌, arith, below_more}
use Rattle.std.proofs.lemmas.List.{length-replicate}
use Rattle.proto_files.proofs.Common.{ReadOf, file_at}
use Rattle.proto_names_affected.proofs.WordSets.{sizes_stay}
use Rattle.proto_option_files.proofs.KeySets.{file_keys_stay, nothing_in, only_more}
use Rattle.proto_option_files.specs.OptionFiles.{HasFileKeys, HasKeys, IsReadOf, file_keys}
use Rattle.proto_option_files.proofs.option_files.OptionFiles.new.Goals as goal

pub loop-file-init : goal.loop-file-init
loop-file-init c = record {
  sized = λ k d l. ap length (c.in_ok-found.ensures k d l) ∙ length-replicate c.len.result false ∙ c.len.ensures.len;
  each = λ file lt. absurd (omega (arith, lt));
  only = λ place file is r read. absurd (nothing_in c.len.result _ c.in_ok-found.ensures place file is);
}

pub add_keys-requires : goal.add_keys-requires
add_keys-requires c =
    let within : c.loop-file.file < length c.args.files.now = omega (arith, c.loop-file-test.true, c.len-file-end.ensures.len) in
    record { within = λ k d l. omega (arith, c.loop-file.invariant.sized k d l, within) }

pub loop-file-preserved : goal.loop-file-preserved
loop-file-preserved c =
    let was = c.loop-file.found in
    let now = c.add_keys.new.self in
    let files = c.args.files.now in
    let file = c.loop-file.file in
    let keys = c.deref.result.now in
    let stay = c.add_keys.ensures.stay in
    let theirs : (r : ReadOf) → IsReadOf (file_at files file) r → keys ≡ file_keys (file_at files file) r = λ r read. c.deref.ensures.value ∙ c.in_ok-keys.ensures r read in
    record {
      sized = sizes_stay was now stay (length files) c.loop-file.invariant.sized;
      each = below_more (λ k. HasFileKeys (file_at files k) now k) file
          (λ k lt. file_keys_stay (file_at files k) was now stay k (c.loop-file.invariant.each k lt))
          (λ r read. subst (HasKeys now file) (theirs r read) c.add_keys.ensures.added);
      only = only_more files was now stay file keys c.add_keys.ensures.only theirs c.loop-file.invariant.only;
    }

pub returns-clause-theirs : goal.returns-clause-theirs
returns-clause-theirs c = record {
  sized = c.loop-file.invariant.sized;
  each = λ file lt. c.loop-file.invariant.each file (omega (arith, lt, c.loop-file-test.false, c.len-file-end.ensures.len));
}

pub returns-clause-only : goal.returns-clause-only
returns-clause-only c = c.loop-file.invariant.only
