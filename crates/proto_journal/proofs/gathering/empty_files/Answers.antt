use Rattle.std.proofs.Common.{◌≡◌, List, sym, ◌∙◌, ap, subst, arith, rules, map, take, ◌+◌, ℕ, take_all, String, Global, string_bytes}
use Rattle.proto_journal.proofs.Gathered.{names_of, names_taken}
use Rattle.proto_journal.proofs.gathering.empty_files.Goals as goal

pub loop-path-preserved : goal.loop-path-preserved
loop-path-preserved c =
    let i : ℕ = c.loop-path.path-index in
    let paths : List (String Global) = c.args.paths.now in
    let same : string_bytes c.in_ok-name.name ≡ string_bytes c.path-item.result = search rules in
    subst (λ files. names_of files ≡ map string_bytes (take (i + 1) paths)) (sym c.in_ok-push.ensures.items)
    (names_taken c.loop-path.files.items c.in_ok-name.name c.path-item.result c.new.result paths i c.loop-path-test.true c.path-item.is same c.loop-path.invariant)

pub returns-clause-paths : goal.returns-clause-paths
returns-clause-paths c = c.loop-path.invariant ∙ ap (map string_bytes) (take_all c.loop-path.path-index c.args.paths.now (omega arith))
