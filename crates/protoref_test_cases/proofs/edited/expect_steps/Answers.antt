use Rattle.std.proofs.lemmas.Result.{on_ok_weaker}
use Rattle.protoref_test_cases.proofs.edited.expect_steps.Goals as goal

pub returns : goal.returns
returns c = on_ok_weaker c.expect_answers-held.result (λ led. record {
  files = c.in_ok-edited.edited.workspace;
  sorted = c.in_ok-edited.ensures.sorted;
  compiled = c.in_ok-edited.ensures.compiled;
  answers = led.answers;
  after = c.expect_answers-held.new.edited.workspace;
  answered = led.answered;
}) c.expect_answers-held.ensures
