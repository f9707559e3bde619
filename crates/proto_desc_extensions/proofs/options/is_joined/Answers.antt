use Rattle.std.proofs.Common.{Some, None, ◌++◌, sym, ap, ◌∙◌, bytes_eq}
use Rattle.proto_base.proofs.Common.{Decides-eqb, bytes_eq-Decides, slice_eq-Decides, strip_prefix_is}
use Rattle.proto_desc_numbers.proofs.CappedRanges.{agree}
use Rattle.proto_desc_extensions.proofs.OptionPrefix.{no_front, same_behind}
use Rattle.proto_desc_extensions.proofs.options.is_joined.Goals as goal

pub returns-in-Some : goal.returns-in-Some
returns-in-Some c =
    let front = c.args.front.now in
    let rest = c.args.rest.now in
    let behind = c.in-Some.behind.now in
    let decides = slice_eq-Decides Decides-eqb behind rest c.eq.result c.eq.ensures in
    agree c.eq.result (bytes_eq behind rest) (λ e. (bytes_eq-Decides behind rest).1 (decides.0 e)) (λ e. decides.1 ((bytes_eq-Decides behind rest).0 e))
    ∙ same_behind front behind rest
    ∙ ap (λ t. bytes_eq t (front ++ rest)) (sym (strip_prefix_is Decides-eqb c.args.name.now front (Some c.in-Some.behind) c.in-Some.ensures.cases))

pub returns-in-None : goal.returns-in-None
returns-in-None c = sym (no_front c.args.name.now c.args.front.now c.args.rest.now (strip_prefix_is Decides-eqb c.args.name.now c.args.front.now None c.in-None.ensures.cases))
