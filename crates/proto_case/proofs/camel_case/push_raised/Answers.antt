use Rattle.std.proofs.Common.{List, ℕ, ◌≡◌, ◌++◌, ap, sym, ◌∙◌, arith, string_bytes}
use lib.Utf8.{encode}
use Rattle.proto_case.proofs.Camel.{raised_step}
use Rattle.proto_case.proofs.camel_case.push_raised.Goals as goal

pub returns-in_ok-push-in-Some-clause-word : goal.returns-in_ok-push-in-Some-clause-word
returns-in_ok-push-in-Some-clause-word c =
    let name = string_bytes c.args.name.now in
    let rest = c.as_str.result.now in
    let is : c.args.word.now ≡ encode c.in-Some.first ++ rest = sym c.chars-chars.ensures.rest ∙ c.in-Some.ensures.steps.0 ∙ ap (λ (bs : List ℕ). encode c.in-Some.first ++ bs) (sym c.as_str.ensures) in
    raised_step c.in-Some.first name (string_bytes c.push.new.self) c.args.word.now rest (grind (arith, c.if-first-ne95.true)) is
    (c.in_ok-push-in-Some.ensures.bytes ∙ ap (λ (d : ℕ). name ++ encode d) c.to_ascii_uppercase.ensures.value)
