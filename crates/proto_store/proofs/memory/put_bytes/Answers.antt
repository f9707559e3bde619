use Rattle.std.proofs.Common.{◌≡◌, ◌∙◌, None, ap, rules}
use Rattle.proto_base.proofs.Common.{get_by_text, files_of_as}
use Rattle.proto_store.specs.Memory.{files_in}
use Rattle.proto_store.proofs.Entries.{files_after_set, files_without}
use Rattle.proto_store.proofs.memory.put_bytes.Goals as goal

pub returns-in-Some : goal.returns-in-Some
returns-in-Some c = λ p. ap (files_of_as p) (c.get_mut.follows.holds c.args.bytes).0 ∙ files_after_set p c.args.path.now c.args.bytes c.args.files.now.entries

pub returns-in_default : goal.returns-in_default
returns-in_default c = λ p.
    let none : get_by_text c.args.files.now c.args.path.now ≡ None = search rules in
    ap (files_in p) c.get_mut.follows.holds-at-none ∙ files_without p c.args.path.now c.args.bytes.items c.args.files.now.entries none
