use Rattle.std.proofs.Common.{ℕ, List, Bool, ◌&&◌, nat_le, length, map, sym, ap, ◌∙◌, string_bytes, arith}
use Rattle.std.proofs.lemmas.List.{at_drop_all}
use Rattle.proto_names_rules.specs.Forest.{under}
use Rattle.proto_edit_captures.specs.Common.{shown_from, texts_of, shown_below}
use Rattle.proto_edit_captures.proofs.UsesByTexts.{not_shown_here, shown_here}
use Rattle.proto_edit_captures.proofs.capturing.is_shown_from.Goals as goal

pub loop-part-preserved : goal.loop-part-preserved
loop-part-preserved c =
    let test : List ℕ → Bool = λ front. shown_below c.args.after.now.link.now c.args.after.now.file c.args.around.fit (texts_of c.args.after.now.names.now) front c.args.word.now in
    let here = string_bytes c.extend.new.name in
    let here_is = c.in_ok-extend.ensures ∙ ap (under (string_bytes c.loop-part.front)) c.as_str.ensures.value in
    let tested = c.in_ok-is_shown_in.ensures ∙ ap (λ z. nat_le c.args.around.least (length z) && test z) c.as_str-in-loop-part.ensures.value in
    c.loop-part.invariant ∙ not_shown_here string_bytes test c.args.around.least c.args.around.scope.now c.loop-part.part-index c.part-item.result (string_bytes c.loop-part.front) here c.loop-part-test.true c.part-item.is here_is (sym tested ∙ c.if-branch.false)

pub returns-then-branch : goal.returns-then-branch
returns-then-branch c =
    let test : List ℕ → Bool = λ front. shown_below c.args.after.now.link.now c.args.after.now.file c.args.around.fit (texts_of c.args.after.now.names.now) front c.args.word.now in
    let here = string_bytes c.extend.new.name in
    let here_is = c.in_ok-extend.ensures ∙ ap (under (string_bytes c.loop-part.front)) c.as_str.ensures.value in
    let tested = c.in_ok-is_shown_in.ensures ∙ ap (λ z. nat_le c.args.around.least (length z) && test z) c.as_str-in-loop-part.ensures.value in
    sym (c.loop-part.invariant ∙ shown_here string_bytes test c.args.around.least c.args.around.scope.now c.loop-part.part-index c.part-item.result (string_bytes c.loop-part.front) here c.loop-part-test.true c.part-item.is here_is (sym tested ∙ c.if-branch.true))

pub returns : goal.returns
returns c =
    let test : List ℕ → Bool = λ front. shown_below c.args.after.now.link.now c.args.after.now.file c.args.around.fit (texts_of c.args.after.now.names.now) front c.args.word.now in
    sym (c.loop-part.invariant ∙ at_drop_all (λ parts. shown_from test c.args.around.least (string_bytes c.loop-part.front) (map string_bytes parts)) c.args.around.scope.now c.loop-part.part-index (omega arith))
