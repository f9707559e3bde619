use Rattle.std.proofs.Common.{◌≡◌, ◌++◌, ◌∷◌, [], List, ℕ, map, sym, take, ap, ◌∙◌, append-nil, append_assoc, arith, rules, take_all, string_bytes}
use Rattle.proto_edit_entries.specs.Entries.{change_of}
use Rattle.proto_edit_entries.specs.declared.entry.Change.{Change}
use Rattle.protoref_output.specs.LogLines.{joined_paths}
use Rattle.protoref_output.proofs.LogSteps.{behind, behind_more, joined_behind}
use Rattle.protoref_output.proofs.log_lines.add_paths.Goals as goal

pub loop-change-init : goal.loop-change-init
loop-change-init c = sym (append-nil (string_bytes c.push_str.new.self))

pub loop-change-preserved : goal.loop-change-preserved
loop-change-preserved c =
    let rest : List Change = c.in-Some.rest.now in
    let start : List ℕ = string_bytes c.push_str.new.self in
    let done : List ℕ = behind (map change_of (take c.loop-change.change-index rest)) in
    let path : List ℕ = string_bytes c.change-item.result.path in
    let pushed : string_bytes c.push_str-in-loop-change.new.self ≡ (string_bytes c.loop-change.text ++ 44 ∷ []) ++ path = search rules in
    pushed
    ∙ ap (λ l. (l ++ 44 ∷ []) ++ path) c.loop-change.invariant
    ∙ append_assoc (start ++ done) (44 ∷ []) path
    ∙ append_assoc start done (44 ∷ path)
    ∙ ap (λ l. start ++ l) (sym (behind_more rest c.loop-change.change-index c.change-item.result c.loop-change-test.true c.change-item.is))

pub returns : goal.returns
returns c =
    let first : Change = c.in-Some.first.now in
    let rest : List Change = c.in-Some.rest.now in
    let start : List ℕ = string_bytes c.push_str.new.self in
    let whole : c.args.changes.now ≡ first ∷ rest = search rules in
    let old : List ℕ = string_bytes c.args.text.now in
    let begun : start ≡ old ++ string_bytes first.path = search rules in
    let all : take c.loop-change.change-index rest ≡ rest = take_all c.loop-change.change-index rest (omega arith) in
    c.loop-change.invariant
    ∙ ap (λ (l : List Change). start ++ behind (map change_of l)) all
    ∙ ap (λ l. l ++ behind (map change_of rest)) begun
    ∙ append_assoc old (string_bytes first.path) (behind (map change_of rest))
    ∙ ap (λ l. old ++ l) (sym (joined_behind (change_of first) (map change_of rest)) ∙ ap (λ (l : List Change). joined_paths (map change_of l)) (sym whole))
