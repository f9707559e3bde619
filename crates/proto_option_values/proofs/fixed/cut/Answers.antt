use Rattle.std.proofs.Common.{Some, None, lit<}
use Rattle.std.proofs.lemmas.Str.Pattern.{split_parts}
use Rattle.proto_option_values.proofs.FixedNames.{front_is, whole_is}
use Rattle.proto_option_values.proofs.fixed.cut.Goals as goal

pub returns-in-Some : goal.returns-in-Some
returns-in-Some c =
    let x = split_parts 46 c.args.text.now (Some (c.in-Some.word, c.in-Some.rest)) c.in-Some.ensures.cases (lit< tt) in
    front_is c.args.text.now c.in-Some.word.now c.in-Some.rest.now x.0 x.1

pub returns-in-None : goal.returns-in-None
returns-in-None c = whole_is c.args.text.now (split_parts 46 c.args.text.now None c.in-None.ensures.cases (lit< tt))
