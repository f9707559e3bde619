use Rattle.std.proofs.Common.{◌++◌, codes, ap, ◌∙◌, append_assoc}
use Rattle.proto_base.specs.Texts.{Text}
use Rattle.proto_uris.proofs.joined.Goals as goal

pub returns : goal.returns
returns c =
    c.in_ok-extend_from_slice-2.ensures.items
    ∙ ap (λ (t : Text). t ++ c.args.path.now) (c.in_ok-extend_from_slice.ensures.items ∙ ap (λ (t : Text). t ++ codes "/") c.in_ok-whole.ensures.items)
    ∙ append_assoc c.args.root.now (codes "/") c.args.path.now
