use Rattle.std.proofs.Common.{◌≤◌, ◌<◌, length, map, sym, ◌∙◌, ap, subst, arith}
use Rattle.proto_names_outline.specs.Listing.{needs}
use Rattle.proto_names_faults.specs.Common.{shown, text_above}
use Rattle.proto_names_faults.proofs.FullNames.{text_at}
use Rattle.proto_names_faults.proofs.full_names.above_text.Goals as goal

pub returns-in_ok-text-in-Below : goal.returns-in_ok-text-in-Below
returns-in_ok-text-in-Below c =
    let before = c.args.before.now in
    let k = c.in-Below.k in
    let l : k < length before = omega (arith, subst (λ a. needs a ≤ length before) c.in-Below.is c.requires) in
    c.in_ok-text-in-Below.ensures.ok ∙ c.as_str.ensures.value
    ∙ sym (text_at before k c.index-before-k.result l) ∙ ap (text_above (map shown before)) (sym c.in-Below.is)
