use Rattle.std.proofs.Common.{List, ℕ, arith, subst}
use Rattle.proto_journal_records.specs.Behind.{IsBehind}
use Rattle.proto_journal_records.proofs.Behind.{code_spelled, plain_spelled, short_spelled}
use Rattle.proto_journal_records.proofs.matching.behind_byte.Goals as goal

pub returns-then-letter-gt0 : goal.returns-then-letter-gt0
returns-then-letter-gt0 c =
    subst (λ (t : List ℕ). IsBehind t c.args.bytes c.behind.result) (short_spelled c.args.byte c.short_escape-letter.result c.short_escape-letter.ensures (omega arith)) c.behind.ensures

pub returns-then-byte-lt32 : goal.returns-then-byte-lt32
returns-then-byte-lt32 c =
    subst (λ (t : List ℕ). IsBehind t c.args.bytes c.behind-then-byte-lt32.result)
    (code_spelled c.args.byte c.short_escape-letter.result c.hex_digit-high.result c.hex_digit-low.result c.short_escape-letter.ensures (omega arith) (omega arith) c.hex_digit-high.ensures c.hex_digit-low.ensures)
    c.behind-then-byte-lt32.ensures

pub returns : goal.returns
returns c =
    subst (λ (t : List ℕ). IsBehind t c.args.bytes c.behind-2.result) (plain_spelled c.args.byte c.short_escape-letter.result c.short_escape-letter.ensures (omega arith) (omega arith)) c.behind-2.ensures
