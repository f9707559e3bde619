use Rattle.std.proofs.Common.{◌≡◌, true, not, Bool, [], map, subst, IfSome, ◌==◌}
use Rattle.std.proofs.lemmas.Result.{IfOk-weaker}
use Rattle.proto_base.proofs.Common.{false≢true, list_any}
use Rattle.proto_ast.proofs.Common.{field_of, json_name_of, name_digest}
use Rattle.proto_desc_numbers.proofs.Common.{after_earlier}
use Rattle.proto_desc_checks.specs.FileFlaws.{json_clashes}
use Rattle.proto_desc_checks.proofs.JsonDigests.{no_clash}
use Rattle.proto_desc_checks.proofs.json_clashes.have_no_clash.Goals as goal

pub returns-in-Some : goal.returns-in-Some
returns-in-Some c =
    let scene = c.args.scene.now in
    let fields = map field_of c.args.fields.now in
    let digests = c.in-Some.digests.items in
    let are : digests ≡ map (λ f. name_digest (json_name_of scene f)) fields = subst (λ o. IfSome o (λ ds. ds.items ≡ map (λ f. name_digest (json_name_of scene f)) fields)) c.in-Some.is c.in_ok-digests.ensures in
    IfOk-weaker c.are_apart.result (λ apart. apart ≡ not (list_any (λ (b : Bool). b) (after_earlier (λ a b. a == b) digests))) (λ none. none ≡ true → json_clashes scene fields ≡ [])
    (λ apart is. no_clash scene fields digests apart are is) c.are_apart.ensures

pub returns-in-None : goal.returns-in-None
returns-in-None c = λ e. absurd (false≢true e)
