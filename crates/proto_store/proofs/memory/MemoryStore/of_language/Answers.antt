use Rattle.std.proofs.Common.{◌∙◌, refl, sym, ap, cond, bytes_eq, string_bytes, Some}
use Rattle.proto_store.proofs.Entries.{bytes_after_insert, given_in, latest}
use Rattle.proto_store.proofs.memory.MemoryStore.of_language.Goals as goal

pub loop-path-preserved-in_ok-insert : goal.loop-path-preserved-in_ok-insert
loop-path-preserved-in_ok-insert c = λ path.
    bytes_after_insert c.args.profile path c.in-Some.path c.in-Some.bytes c.loop-path.by_path c.insert.new.self c.in_ok-insert.ensures.updates
    ∙ ap (cond (bytes_eq path (string_bytes c.in-Some.path)) (Some c.in-Some.bytes.items)) (c.loop-path.invariant path)
    ∙ sym (latest c.args.profile path c.loop-path.yielded (c.in-Some.path, c.in-Some.bytes))

pub loop-path-preserved : goal.loop-path-preserved
loop-path-preserved c = λ path.
    bytes_after_insert c.args.profile path c.in-Some.path c.in-Some.bytes c.loop-path.by_path c.insert.new.self c.in_ok-insert.ensures.updates
    ∙ ap (cond (bytes_eq path (string_bytes c.in-Some.path)) (Some c.in-Some.bytes.items)) (c.loop-path.invariant path)
    ∙ sym (latest c.args.profile path c.loop-path.yielded (c.in-Some.path, c.in-Some.bytes))

pub returns-clause-language : goal.returns-clause-language
returns-clause-language c = (refl, given_in c.args.profile c.loop-path.by_path.entries)
