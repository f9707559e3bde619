use Rattle.std.proofs.Common.{◌≡◌, Bool, true, false, List, sym, ap, ◌∙◌, not, ◌||◌, codes, is_some}
use Rattle.std.proofs.lemmas.Result.{on_ok_weaker}
use Rattle.proto_case.specs.Cases.{is_pascal}
use Rattle.proto_lint_rules.specs.declared.rule.Rule.{Rule}
use Rattle.proto_lint_rules.specs.declared.rule.Rule.TheVariants as rule
use Rattle.proto_lint_names.proofs.Common.{Found, found_by, reading_of, word_in}
use Rattle.proto_lint_names.specs.Methods.{is_shared, is_standard, method_unless, type_meant}
use Rattle.proto_lint_names.proofs.Steps.{by_equal, six}
use Rattle.proto_lint_names.proofs.methods.add_method.Goals as goal

flipped : (a b : Bool) → a ≡ not b → b ≡ not a
flipped a true e = sym (ap not e)
flipped a false e = sym (ap not e)

pub returns : goal.returns
returns c =
    let r = reading_of c.args.walk.now.reading.now in
    let s = c.args.method.now in
    let told : Rule → Bool → List Found = λ rule passes. found_by c.args.walk.now.rules.now.chosen r rule (method_unless r c.args.service.now.full.now passes s) in
    let f0 = c.args.found.now in
    let f1 = c.add_name.new.found in
    let f2 = c.add_name-2.new.found in
    let f3 = c.add_name-3.new.found in
    let f4 = c.add_name-4.new.found in
    let f5 = c.add_name-5.new.found in
    let f6 = c.add_name-6.new.found in
    let all = c.args.walk.now.messages.now in
    let input = flipped (is_some s.input.stream) c.is_none-passes.result c.is_none-passes.ensures in
    let output = flipped (is_some s.output.stream) c.is_none-passes-2.result c.is_none-passes-2.ensures in
    let token = c.args.service.now.token in
    let pascal = c.is_pascal-passes.ensures ∙ ap is_pascal c.text.ensures in
    six c.add_name-6.result f0 f1 f2 f3 f4 f5 f6
    (told rule.RpcNoClientStreaming (not (is_some s.input.stream)))
    (told rule.RpcNoServerStreaming (not (is_some s.output.stream)))
    (told rule.RpcPascalCase (is_pascal (word_in r s.name)))
    (told rule.RpcRequestResponseUnique (not (is_shared all (type_meant r s.input) || is_shared all (type_meant r s.output))))
    (told rule.RpcRequestStandardName (is_standard (word_in r token) (word_in r s.name) (codes "Request") (type_meant r s.input)))
    (told rule.RpcResponseStandardName (is_standard (word_in r token) (word_in r s.name) (codes "Response") (type_meant r s.output)))
    (by_equal (told rule.RpcNoClientStreaming) c.is_none-passes.result (not (is_some s.input.stream)) f0 f1 input c.in_ok-add_name.ensures)
    (by_equal (told rule.RpcNoServerStreaming) c.is_none-passes-2.result (not (is_some s.output.stream)) f1 f2 output c.in_ok-add_name-2.ensures)
    (by_equal (told rule.RpcPascalCase) c.is_pascal-passes.result (is_pascal (word_in r s.name)) f2 f3 pascal c.in_ok-add_name-3.ensures)
    (by_equal (told rule.RpcRequestResponseUnique) (not c.has_shared-passes.result) (not (is_shared all (type_meant r s.input) || is_shared all (type_meant r s.output))) f3 f4 (ap not c.has_shared-passes.ensures) c.in_ok-add_name-4.ensures)
    (by_equal (told rule.RpcRequestStandardName) c.is_request_standard-passes.result (is_standard (word_in r token) (word_in r s.name) (codes "Request") (type_meant r s.input)) f4 f5 c.is_request_standard-passes.ensures c.in_ok-add_name-5.ensures)
    (on_ok_weaker c.add_name-6.result (by_equal (told rule.RpcResponseStandardName) c.is_response_standard-passes.result (is_standard (word_in r token) (word_in r s.name) (codes "Response") (type_meant r s.output)) f5 f6 c.is_response_standard-passes.ensures) c.add_name-6.ensures)
