use Rattle.std.proofs.Common.{◌≡◌, Some, sym, ap, ◌∙◌, rules, option_map}
use Rattle.proto_base.proofs.Common.{get_by_text, same_from_all_zip}
use Rattle.proto_store.specs.Common.{MemoryOf, bytes_at}
use Rattle.proto_store.proofs.Entries.{bytes_of_lookup}
use Rattle.proto_store.proofs.memory.MemoryStore.bytes.Goals as goal

pub returns-in-Ok : goal.returns-in-Ok
returns-in-Ok c =
    let found : get_by_text c.self.inside.files c.args.path.now ≡ Some c.in_ok-bytes.bytes.now = search rules in
    let same : c.in-Ok.copy.items ≡ c.in_ok-bytes.bytes.now.items = same_from_all_zip _ _ _ c.in-Ok.ensures.cases.0 (λ x y r. r) in
    ap (λ (s : MemoryOf). bytes_at c.args.path.now s.held.files) (sym c.self.view_is) ∙ bytes_of_lookup c.self.inside.profile c.args.path.now c.self.inside.files.entries ∙ ap (option_map (λ v. v.items)) found ∙ ap Some (sym same)
