use Rattle.std.proofs.Common.{◌≡◌, ◌-◌, ◌+◌, length, Ok, Err, None, ◌∙◌, ap, arith}
use Rattle.std.proofs.lemmas.Result.{err_from_is_err_and}
use Rattle.std.proofs.lemmas.Bool.Decides.{nat_tests}
use Rattle.proto_frames.specs.Frames.{header_at, lines_limit, field}
use Rattle.proto_frames.proofs.Headers.{line_fails, header_ends, field_fails, next_line, gives_found, lines_spent}
use Rattle.proto_frames.proofs.reading.read_header.Goals as goal

pub returns-in_err-line : goal.returns-in_err-line
returns-in_err-line g c = λ bytes known.
    let p = err_from_is_err_and c.from_residual.result c.from_residual.ensures.1 in
    let inv = c.loop-at.invariant bytes known in
    rw (p.1, p.2) (line_fails (lines_limit - c.loop-at._at) (lines_limit - (c.loop-at._at + 1)) c.loop-at.len inv.0 (header_at lines_limit None bytes) c.in_err-line.field-0.0 (omega arith) inv.2 (c.in_err-line.ensures inv.0 inv.1))

pub returns-then-is_empty : goal.returns-then-is_empty
returns-then-is_empty g c = λ bytes known.
    let inv = c.loop-at.invariant bytes known in
    let line = c.in_ok-line.ensures inv.0 inv.1 in
    let empty : length c.in_ok-line.line.items ≡ 0 = grind (arith, nat_tests, c.if-is_empty.ensures, c.in_ok-line.line.ok.0) in
    rw c.ok_or.ensures.value (gives_found (g.R.Read.remaining c.read_line.new.reader) c.loop-at.len line.0 (header_at lines_limit None bytes) line.1
    (header_ends (lines_limit - c.loop-at._at) (lines_limit - (c.loop-at._at + 1)) c.loop-at.len inv.0 c.in_ok-line.line.items line.0 (header_at lines_limit None bytes) (omega arith) inv.2 line.2 empty))

pub returns-in_err-len : goal.returns-in_err-len
returns-in_err-len g c = λ bytes known.
    let p = err_from_is_err_and c.from_residual-in_err-len.result c.from_residual-in_err-len.ensures.1 in
    let inv = c.loop-at.invariant bytes known in
    let line = c.in_ok-line.ensures inv.0 inv.1 in
    let some : length c.in_ok-line.line.items ≡ 0 → ⊥ = λ none. grind (arith, nat_tests, none, c.if-is_empty.ensures, c.in_ok-line.line.ok.0) in
    let is : Err c.in_err-len.field-0.0 ≡ field c.loop-at.len c.in_ok-line.line.items = c.in_err-len.ensures ∙ ap (field c.loop-at.len) c.as_slice.ensures.value in
    rw (p.1, p.2) (field_fails (lines_limit - c.loop-at._at) (lines_limit - (c.loop-at._at + 1)) c.loop-at.len inv.0 c.in_ok-line.line.items line.0 (header_at lines_limit None bytes) c.in_err-len.field-0.0 (omega arith) inv.2 line.2 some is)

pub loop-at-preserved : goal.loop-at-preserved
loop-at-preserved g c = λ bytes known.
    let inv = c.loop-at.invariant bytes known in
    let line = c.in_ok-line.ensures inv.0 inv.1 in
    let some : length c.in_ok-line.line.items ≡ 0 → ⊥ = λ none. grind (arith, nat_tests, none, c.if-is_empty.ensures, c.in_ok-line.line.ok.0) in
    let is : Ok c.in_ok-len.len ≡ field c.loop-at.len c.in_ok-line.line.items = c.in_ok-len.ensures ∙ ap (field c.loop-at.len) c.as_slice.ensures.value in
    (line.0, line.1, next_line (lines_limit - c.loop-at._at) (lines_limit - (c.loop-at._at + 1)) c.loop-at.len c.in_ok-len.len inv.0 c.in_ok-line.line.items line.0 (header_at lines_limit None bytes) (omega arith) inv.2 line.2 some is)

pub returns : goal.returns
returns g c = λ bytes known.
    let inv = c.loop-at.invariant bytes known in
    lines_spent (lines_limit - c.loop-at._at) c.loop-at.len inv.0 (header_at lines_limit None bytes) (omega arith) inv.2
