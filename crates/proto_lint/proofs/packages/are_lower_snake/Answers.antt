use Rattle.std.proofs.Common.{◌+◌, ◌&&◌, Bool, Bor, List, ℕ, [], map, drop, sym, ◌∙◌, ap}
use Rattle.std.specs.List.{list_all}
use Rattle.proto_case.specs.Cases.{is_lower_snake}
use Rattle.proto_lint.proofs.HeadLists.{all_more}
use Rattle.proto_lint.proofs.packages.are_lower_snake.Goals as goal

-- a word for no place
abbrev no_word : Bor (List ℕ)
no_word = record { ref_ptr = (0, 0); now = [] }

pub loop-word-preserved : goal.loop-word-preserved
loop-word-preserved c =
    let ws = c.args.words.now in
    let i = c.loop-word.word-index in
    c.loop-word.invariant ∙ all_more is_lower_snake ws i no_word c.loop-word-test.true
    ∙ ap (λ (b : Bool). b && list_all is_lower_snake (map (λ w. w.now) (drop (i + 1) ws))) (sym c.is_lower_snake.ensures ∙ c.if-not-is_lower_snake.false)

pub returns-then-not-is_lower_snake : goal.returns-then-not-is_lower_snake
returns-then-not-is_lower_snake c =
    let ws = c.args.words.now in
    let i = c.loop-word.word-index in
    sym (c.loop-word.invariant ∙ all_more is_lower_snake ws i no_word c.loop-word-test.true
    ∙ ap (λ (b : Bool). b && list_all is_lower_snake (map (λ w. w.now) (drop (i + 1) ws))) (sym c.is_lower_snake.ensures ∙ c.if-not-is_lower_snake.true))
