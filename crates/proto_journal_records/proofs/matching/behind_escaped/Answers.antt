use Rattle.std.proofs.Common.{List, ℕ, arith, subst, sym}
use Rattle.json.specs.Print.{escape}
use Rattle.proto_base.proofs.Common.{drop_all, drop_more}
use Rattle.proto_journal_records.specs.Behind.{IsBehind}
use Rattle.proto_journal_records.proofs.Behind.{behind_both, behind_nothing}
use Rattle.proto_journal_records.proofs.matching.behind_escaped.Goals as goal

pub loop-byte-preserved : goal.loop-byte-preserved
loop-byte-preserved c = λ o more.
    let i = c.loop-byte.byte-index in
    let text = c.args.text.now in
    c.loop-byte.invariant o (subst (λ (t : List ℕ). IsBehind (escape t) c.loop-byte.rest o) (sym (drop_more text i 0 c.loop-byte-test.true)) (behind_both c.behind_byte-rest.ensures more))

pub returns : goal.returns
returns c =
    let rest = c.loop-byte.rest in
    c.loop-byte.invariant rest (subst (λ (t : List ℕ). IsBehind (escape t) rest rest) (sym (drop_all c.loop-byte.byte-index c.args.text.now (omega (arith, c.loop-byte-test.false)))) (behind_nothing rest))
