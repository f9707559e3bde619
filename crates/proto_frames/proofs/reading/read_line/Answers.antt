use Rattle.std.proofs.Common.{rules, ◌≡◌, ◌≢◌, [], ◌∷◌, Some, None, ◌+◌, ◌-◌, ◌++◌, subst, sym, arith}
use Rattle.std.proofs.lemmas.Result.{err_from_is_err_and}
use Rattle.proto_base.specs.Texts.{Text}
use Rattle.proto_frames.specs.Frames.{GivesByte, line_at, line_limit, line_ended, with_prefix}
use Rattle.proto_frames.proofs.Lines.{no_prefix, cut_off, feed_alone, line_ends, goes_on, spent, fails_on, is_line}
use Rattle.proto_frames.proofs.reading.read_line.Goals as goal

pub loop-at-init : goal.loop-at-init
loop-at-init g c = λ bytes known. (bytes, known, no_prefix c.new-line.result.items (line_at line_limit bytes) c.new-line.ensures.items)

pub returns-in-None : goal.returns-in-None
returns-in-None g c = λ bytes known.
    let inv = c.loop-at.invariant bytes known in
    let byte : GivesByte (g.R.Read.remaining c.loop-at.reader) (g.R.Read.remaining c.next_byte.new.reader) None = subst (GivesByte _ _) c.in-None.is c.in_ok-next_byte.ensures.byte in
    cut_off c.loop-at.line.items (line_limit - c.loop-at._at) (line_limit - (c.loop-at._at + 1)) inv.0 (line_at line_limit bytes) (omega arith) (byte inv.0 inv.1).0 inv.2

-- what was read of a line that goes on, at the byte that comes
pub returns-in_err-end_line-in-Some-eq13 : goal.returns-in_err-end_line-in-Some-eq13
returns-in_err-end_line-in-Some-eq13 g c = λ bytes known.
    let p = err_from_is_err_and c.from_residual-in_err-end_line-in-Some-eq13.result c.from_residual-in_err-end_line-in-Some-eq13.ensures.1 in
    let inv = c.loop-at.invariant bytes known in
    let byte : GivesByte (g.R.Read.remaining c.loop-at.reader) (g.R.Read.remaining c.next_byte.new.reader) (Some c.in-Some-eq13.field-0) = subst (GivesByte _ _) c.in-Some-eq13.is c.in_ok-next_byte.ensures.byte in
    let here = byte inv.0 inv.1 in
    let is : inv.0 ≡ 13 ∷ here.0 = subst (λ n. inv.0 ≡ n ∷ here.0) c.in-Some-eq13.field-0-test here.1 in
    rw (p.1, p.2) (fails_on c.in_err-end_line-in-Some-eq13.field-0.0 c.loop-at.line.items (line_ended here.0) (line_at line_limit bytes)
    (line_ends c.loop-at.line.items (line_limit - c.loop-at._at) (line_limit - (c.loop-at._at + 1)) inv.0 here.0 (line_at line_limit bytes) (omega arith) is inv.2)
    (c.in_err-end_line-in-Some-eq13.ensures here.0 here.2))

pub returns-in-Some-eq13 : goal.returns-in-Some-eq13
returns-in-Some-eq13 g c = λ bytes known.
    let inv = c.loop-at.invariant bytes known in
    let byte : GivesByte (g.R.Read.remaining c.loop-at.reader) (g.R.Read.remaining c.next_byte.new.reader) (Some c.in-Some-eq13.field-0) = subst (GivesByte _ _) c.in-Some-eq13.is c.in_ok-next_byte.ensures.byte in
    let here = byte inv.0 inv.1 in
    let is : inv.0 ≡ 13 ∷ here.0 = subst (λ n. inv.0 ≡ n ∷ here.0) c.in-Some-eq13.field-0-test here.1 in
    let ended = c.in_ok-end_line-in-Some-eq13.ensures here.0 here.2 in (
      ended.0,
      ended.1,
      is_line c.loop-at.line.items ended.0 (line_ended here.0) (line_at line_limit bytes)
          (line_ends c.loop-at.line.items (line_limit - c.loop-at._at) (line_limit - (c.loop-at._at + 1)) inv.0 here.0 (line_at line_limit bytes) (omega arith) is inv.2) ended.2,
    )

pub returns-in-Some-eq10 : goal.returns-in-Some-eq10
returns-in-Some-eq10 g c = λ bytes known.
    let inv = c.loop-at.invariant bytes known in
    let byte : GivesByte (g.R.Read.remaining c.loop-at.reader) (g.R.Read.remaining c.next_byte.new.reader) (Some c.in-Some-eq10.field-0) = subst (GivesByte _ _) c.in-Some-eq10.is c.in_ok-next_byte.ensures.byte in
    let here = byte inv.0 inv.1 in
    let is : inv.0 ≡ 10 ∷ here.0 = subst (λ n. inv.0 ≡ n ∷ here.0) c.in-Some-eq10.field-0-test here.1 in
    feed_alone c.loop-at.line.items (line_limit - c.loop-at._at) (line_limit - (c.loop-at._at + 1)) inv.0 here.0 (line_at line_limit bytes) (omega arith) is inv.2

pub loop-at-preserved : goal.loop-at-preserved
loop-at-preserved g c = λ bytes known.
    let inv = c.loop-at.invariant bytes known in
    let byte : GivesByte (g.R.Read.remaining c.loop-at.reader) (g.R.Read.remaining c.next_byte.new.reader) (Some c.in-Some.byte) = subst (GivesByte _ _) c.in-Some.is c.in_ok-next_byte.ensures.byte in
    let here = byte inv.0 inv.1 in
    let no_return : c.in-Some.byte ≢ 13 = omega arith in
    let no_feed : c.in-Some.byte ≢ 10 = omega arith in
    let pushed : c.push.new.self.items ≡ c.loop-at.line.items ++ (c.in-Some.byte ∷ []) = search rules in (
      here.0,
      here.2,
      subst (λ (t : Text). with_prefix t (line_at (line_limit - (c.loop-at._at + 1)) here.0) ≡ line_at line_limit bytes) (sym pushed)
          (goes_on c.loop-at.line.items (line_limit - c.loop-at._at) (line_limit - (c.loop-at._at + 1)) inv.0 c.in-Some.byte here.0 (line_at line_limit bytes) (omega arith) here.1 no_return no_feed inv.2),
    )

pub returns : goal.returns
returns g c = λ bytes known.
    let inv = c.loop-at.invariant bytes known in
    spent c.loop-at.line.items (line_limit - c.loop-at._at) inv.0 (line_at line_limit bytes) (omega arith) inv.2
