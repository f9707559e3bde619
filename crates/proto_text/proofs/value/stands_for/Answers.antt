use Rattle.proto_text.proofs.Values.{test_is_says}
use Rattle.proto_text.proofs.value.stands_for.Goals as goal

pub returns-clause-test : goal.returns-clause-test
returns-clause-test c = rw c.as_bytes.ensures.value at (test_is_says c.as_bytes.result.now c.args.value.now c.is_value.result c.is_value.ensures)
