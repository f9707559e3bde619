use Rattle.std.proofs.Common.{None, Some, lit<, string_bytes}
use Rattle.std.proofs.lemmas.Str.Pattern.{split_parts}
use Rattle.proto_case.specs.Camel.{camel_from}
use Rattle.proto_case.proofs.Camel.{line_end, line_step}
use Rattle.proto_case.proofs.camel_case.camel_from.Goals as goal

pub loop-before-preserved : goal.loop-before-preserved
loop-before-preserved c =
    let parts = split_parts 95 c.loop-before.rest.now (Some (c.in-Some.before, c.in-Some.behind)) c.in-Some.ensures.cases (lit< tt) in
    record {
      made = line_step (string_bytes c.loop-before.name) c.in-Some.before.now c.in-Some.behind.now c.loop-before.rest.now (string_bytes c.push_str.new.self) (string_bytes c.push_raised-in-Some.new.name) c.in_ok-rest-2.rest.now (camel_from c.args.is_up c.args.word.now)
          parts.1 parts.0 c.in_ok-push_str.ensures.bytes c.in_ok-rest-2.ensures.word c.loop-before.invariant.made;
      utf8 = c.in_ok-rest-2.ensures.utf8;
    }

pub returns : goal.returns
returns c =
    line_end (string_bytes c.loop-before.name) c.loop-before.rest.now (string_bytes c.push_str-2.new.self) (camel_from c.args.is_up c.args.word.now)
    (split_parts 95 c.loop-before.rest.now None c.in_default.ensures.cases (lit< tt)) c.in_ok-push_str-2.ensures.bytes c.loop-before.invariant.made
