use Rattle.std.proofs.Common.{◌+◌, List, ◌∷◌, ◌++◌, [], get_or, subst, sym, take}
use Rattle.std.proofs.lemmas.List.{take_more}
use Rattle.proto_desc.specs.Renewing.{AreMade}
use Rattle.proto_desc.specs.declared.renewing.Made.{Made}
use Rattle.proto_desc.proofs.MadePut.{one_more_made}
use Rattle.proto_desc.proofs.renewing.check_affected.Goals as goal

pub loop-file-preserved : goal.loop-file-preserved
loop-file-preserved c =
    let files = c.args.linked.now.files in
    let ns = c.args.affected.now in
    let k = c.loop-file.file-index in
    let done = c.loop-file.all.items in
    let made = c.in_ok-check_again.field-0 in
    subst (λ (ms : List Made). AreMade files (take (k + 1) ns) ms) (sym c.in_ok-push.ensures.items)
    (subst (λ listed. AreMade files listed (done ++ made ∷ [])) (sym (take_more ns k 0 c.loop-file-test.true))
    (one_more_made files (take k ns) done (get_or ns k 0) made c.in_ok-check_again.ensures.file c.in_ok-check_again.ensures.made c.loop-file.invariant))
