use Rattle.std.proofs.Common.{ℕ, List, Bool, ◌++◌, map, ap, ◌∙◌, bytes_eq, string_bytes}
use Rattle.proto_base.proofs.Common.{list_any, on_ok_weaker}
use Rattle.proto_base.specs.declared.fault.FaultKind.TheVariants as kind
use Rattle.proto_ast.specs.Scenes.{text}
use Rattle.proto_desc_numbers.specs.declared.flaw.Flaw.{Flaw}
use Rattle.proto_desc_numbers.specs.Flaws.{flaw_if}
use Rattle.proto_desc_checks.proofs.KnownNames.{flat_map_same}
use Rattle.proto_desc_checks.proofs.names.add_reserved.Goals as goal

pub returns : goal.returns
returns c =
    let reserved = λ (words : List (List ℕ)) (t : ℕ). flaw_if (list_any (bytes_eq (text c.args.scene.now t)) words) kind.ReservedName t in
    let known = map (λ k. k.now) c.in_ok-known.known.keys in
    let names = map string_bytes c.args.reserved.now in
    on_ok_weaker c.add_known.result
    (λ e. e ∙ ap (λ (fs : List Flaw). c.args.found.now.items ++ fs) (flat_map_same (reserved known) (reserved names) (λ t. ap (λ (b : Bool). flaw_if b kind.ReservedName t) (c.in_ok-known.ensures (text c.args.scene.now t))) c.args.names.now))
    c.add_known.ensures
