use Rattle.std.proofs.Common.{◌≡◌, ℕ, ◌<◌, List, get_or, length, map, string_bytes, sym, ap, ◌∙◌, arith, below_more}
use Rattle.std.proofs.lemmas.Bool.{not-false}
use Rattle.std.proofs.lemmas.List.{same_lists}
use Rattle.proto_base.proofs.Common.{get_or-map, length-map, word_from_same}
use Rattle.std.specs.Str.{bytes_eq}
use Rattle.proto_desc_affected.proofs.still_enums.are_same.Goals as goal

pub loop-k-preserved : goal.loop-k-preserved
loop-k-preserved c =
    (let a = c.args.a.now in
    let b = c.args.b.now in
    let k = c.loop-k.k in
    let x = c.index-a-k.result in
    let y = c.index-b-k.result in
    let in_a : k < length a = c.loop-k-test.true in
    let in_b : k < length b = omega (arith, in_a, c.if-a-b.false) in
    let same = word_from_same (string_bytes x) (string_bytes y) (not-false (bytes_eq (string_bytes x) (string_bytes y)) (sym c.ne.ensures ∙ c.if-ne.false)) in
    below_more (λ j. (d : List ℕ) → get_or (map string_bytes a) j d ≡ get_or (map string_bytes b) j d) k c.loop-k.invariant
    (λ d. get_or-map string_bytes a k x d in_a ∙ ap string_bytes (sym c.index-a-k.is) ∙ same ∙ ap string_bytes c.index-b-k.is ∙ sym (get_or-map string_bytes b k y d in_b)))

pub returns : goal.returns
returns c = λ _.
    (let a = c.args.a.now in
    let b = c.args.b.now in
    let count = length-map a string_bytes in
    same_lists (map string_bytes a) (map string_bytes b) (omega (arith, count, length-map b string_bytes, c.if-a-b.false))
    (λ j d l. c.loop-k.invariant j (omega (arith, l, count, c.loop-k-test.false)) d))
