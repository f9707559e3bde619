use Rattle.std.proofs.Common.{◌∙◌, ◌≡◌, subst, refl, Ok, [], List, Option, None, Some, codes, unwrap_or}
use Rattle.clap.specs.Walk.{all_of, rows_of, texts}
use Rattle.clap.specs.Words.{found_of}
use Rattle.clap.proofs.WalkLemmas.{raw_values-rows}
use Rattle.proto_base.specs.Texts.{Text}
use Rattle.protoref_arguments.specs.Requests.{IsSetFor}
use Rattle.protoref_arguments.proofs.command_line.rules_in.Goals as goal

pub returns-in-Some : goal.returns-in-Some
returns-in-Some c =
    let is : Some (texts c.in-Some.names.now) ≡ all_of (codes "RULE") (rows_of (found_of c.args.matches.now)) = c.in-Some.ensures ∙ raw_values-rows (found_of c.args.matches.now) (codes "RULE") in
    subst (λ (o : Option (List Text)). IsSetFor (unwrap_or o []) c.rules_of.result) is c.rules_of.ensures

pub returns-in-None : goal.returns-in-None
returns-in-None c =
    let is : None ≡ all_of (codes "RULE") (rows_of (found_of c.args.matches.now)) = c.in-None.ensures ∙ raw_values-rows (found_of c.args.matches.now) (codes "RULE") in
    subst (λ (o : Option (List Text)). IsSetFor (unwrap_or o []) (Ok c.all.result)) is (refl, c.all.ensures)
