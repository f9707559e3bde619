use Rattle.std.proofs.Common.{◌∙◌, sym, subst, Ok}
use Rattle.clap.specs.Words.{found_of}
use Rattle.clap.proofs.WalkLemmas.{first_value-rows}
use Rattle.protoref_arguments.specs.Requests.{IsTextOf}
use Rattle.protoref_arguments.proofs.command_line.text_of.Goals as goal

pub returns-in_ok-from_str-in-Some : goal.returns-in_ok-from_str-in-Some
returns-in_ok-from_str-in-Some c =
    subst (λ o. IsTextOf o (Ok c.in_ok-from_str-in-Some.field-0)) (c.in-Some.ensures ∙ first_value-rows (found_of c.args.matches.now) c.args.id.now) c.in_ok-from_str-in-Some.ensures.ok

pub returns-in-None : goal.returns-in-None
returns-in-None c = sym (c.in-None.ensures ∙ first_value-rows (found_of c.args.matches.now) c.args.id.now)
