use Rattle.std.proofs.Common.{◌∙◌, ap}
use Rattle.std.proofs.lemmas.Option.{none-some}
use Rattle.proto_names_table.specs.Search.{is_seen}
use Rattle.proto_names.proofs.Linking.{shows_none, shows_row}
use Rattle.proto_names.proofs.link.shows.Goals as goal

pub returns-in-Some : goal.returns-in-Some
returns-in-Some c =
    let sound = c.in-Some.ensures.sound in
    c.is_seen.ensures ∙ ap (is_seen c.args.seen.now) c.index.ensures ∙ shows_row c.args.table.now c.requires c.args.seen.now c.args.name.now c.in-Some.row c.index.result.now sound.0 sound.1

pub returns-in-None : goal.returns-in-None
returns-in-None c = shows_none c.args.table.now c.requires c.args.seen.now c.args.name.now (λ k l e. none-some k (c.in-None.ensures.complete k l e))
