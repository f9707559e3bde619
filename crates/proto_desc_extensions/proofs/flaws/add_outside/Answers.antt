use Rattle.std.proofs.Common.{◌++◌, List, ap, ◌∙◌, sym, flat_map, arith, take_all}
use Rattle.proto_desc_numbers.specs.declared.flaw.Flaw.{Flaw}
use Rattle.proto_desc_extensions.specs.Common.{ExtensionAt}
use Rattle.proto_desc_extensions.proofs.SeenExtensions.{outside_at, outside_listed}
use Rattle.proto_desc_extensions.proofs.flaws.add_outside.Goals as goal

pub returns : goal.returns
returns c =
    let all = c.args.extensions.now in
    c.loop-extension.invariant
    ∙ ap (λ (xs : List ExtensionAt). c.args.found.now.items ++ flat_map outside_at xs) (take_all c.loop-extension.extension-index all (omega (arith, c.loop-extension-test.false)))
    ∙ ap (λ (fs : List Flaw). c.args.found.now.items ++ fs) (sym (outside_listed all))
