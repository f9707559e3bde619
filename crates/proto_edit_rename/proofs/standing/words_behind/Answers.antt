use Rattle.std.proofs.Common.{◌∙◌, sym, ap, Some, None, option_and_then}
use Rattle.proto_base.proofs.Common.{Decides-eqb, strip_prefix_is}
use Rattle.proto_edit_rename.specs.StandingTokens.{behind, words_in}
use Rattle.proto_edit_rename.proofs.NameTexts.{behind_front, no_front}
use Rattle.proto_edit_rename.proofs.standing.words_behind.Goals as goal

pub returns-in-Some : goal.returns-in-Some
returns-in-Some c =
    let front = c.args.front.now in
    let rest = c.in-Some.rest.now in
    c.words_in.ensures ∙ sym (ap (option_and_then words_in) (ap (behind front) (strip_prefix_is Decides-eqb c.args.name.now front (Some c.in-Some.rest) c.in-Some.ensures.cases) ∙ behind_front front rest))

pub returns-in-None : goal.returns-in-None
returns-in-None c =
    let front = c.args.front.now in
    sym (ap (option_and_then words_in) (no_front front c.args.name.now (strip_prefix_is Decides-eqb c.args.name.now front None c.in-None.ensures.cases)))
