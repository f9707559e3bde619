use Rattle.std.proofs.Common.{◌≡◌, ◌++◌, ◌∷◌, [], ℕ, List, String, Global, take, ap, ◌∙◌, arith, take_all}
use Rattle.proto_base.proofs.Common.{Vec, map_push, taken_more}
use Rattle.proto_base.specs.declared.profile.Profile.TheVariants.{Core}
use Rattle.proto_files.specs.GivenFiles.{FileOf, file_of, files_of}
use Rattle.proto_all_faults.proofs.listing.copy_files.Goals as goal

pub loop-file-preserved : goal.loop-file-preserved
loop-file-preserved c =
    let given = c.args.given.now in
    let i = c.loop-file.file-index in
    let file = c.file-item.result in
    let copy : String Global × Vec ℕ = (c.in_ok-path.path, c.in_ok-from_slice.field-0) in
    let path = c.in_ok-path.ensures.ok ∙ c.as_str.ensures.value in
    let bytes = c.in_ok-from_slice.ensures.items ∙ c.deref.ensures.value in
    let same : file_of copy ≡ file_of file = λ j. record { path = path j; bytes = bytes j; profile = Core } in
    ap files_of c.in_ok-push.ensures.items ∙ map_push file_of c.loop-file.copies.items copy
    ∙ ap (λ (fs : List FileOf). fs ++ file_of copy ∷ []) c.loop-file.invariant
    ∙ ap (λ (f : FileOf). files_of (take i given) ++ f ∷ []) same
    ∙ taken_more file_of given i file file c.loop-file-test.true c.file-item.is

pub returns : goal.returns
returns c = c.loop-file.invariant ∙ ap files_of (take_all c.loop-file.file-index c.args.given.now (omega (arith, c.loop-file-test.false)))
