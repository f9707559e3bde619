-- Splices that put a short text lie in it in order (for the crates above).
use Rattle.std.proofs.Common.{◌+◌, ◌-◌, [], ◌∷◌, ◌++◌, length, ap, arith, length-append}
use Rattle.proto_edit_entries.specs.Laws.{PutsAreShort}

pub puts_are_short : PutsAreShort
puts_are_short to from text new [] p a b = tt
puts_are_short to from text new (e ∷ es) p a b =
    let kept = p.0 in
    let rest = p.1 in
    let more = p.2 in
    let cut = p.3 in
    let l1 = ap length cut.0 in
    let l2 = length-append kept (e.old ++ rest) in
    let l3 = length-append e.old rest in
    let at = cut.1 in
    let l4 = ap length p.4 in
    let l5 = length-append kept (e.new ++ more) in
    let l6 = length-append e.new more in (
      omega (arith, at),
      omega (arith, at, l1, l2, l3, a),
      omega (arith, at, l4, l5, l6, b),
      puts_are_short ((to + (e.at - from)) + length e.new) (e.at + length e.old) rest more es p.5 (omega (arith, at, l1, l2, l3, a)) (omega (arith, at, l4, l5, l6, b)),
    )
