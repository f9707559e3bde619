use Rattle.std.proofs.Common.{◌≡◌, ◌++◌, map, sym, ap, ◌∙◌, subst, append-nil, string_bytes, IsPermutation}
use Rattle.proto_base.proofs.Common.{IsPermutation-refl, paths_of}
use Rattle.proto_store.specs.Memory.{files_in}
use Rattle.proto_store.proofs.Entries.{entries_in_order, paths_of_keys}
use Rattle.proto_store.proofs.memory.paths_in.Goals as goal

pub returns : goal.returns
returns c = λ p.
    let entries = c.args.files.now.entries in
    let listed : map string_bytes c.loop-path.paths.items ≡ paths_of (files_in p c.args.files.now) =
    sym (append-nil (map string_bytes c.loop-path.paths.items))
    ∙ ap (λ l. map string_bytes c.loop-path.paths.items ++ map string_bytes l) (sym c.in-None.ensures.steps.0)
    ∙ c.loop-path.invariant ∙ sym (paths_of_keys p entries) in
    (entries_in_order p entries c.len.ensures.ordered, subst (λ l. IsPermutation (map string_bytes c.loop-path.paths.items) l) listed (IsPermutation-refl _))
