use Rattle.std.proofs.Common.{sym, ap, ◌∙◌, length}
use Rattle.proto_text.specs.declared.kind.TokenKind.TheVariants as kind
use Rattle.proto_tree.proofs.ClassLemmas.{place_in, place_end}
use Rattle.proto_tree.proofs.classing.place.Goals as goal

pub returns-then-at-tokens : goal.returns-then-at-tokens
returns-then-at-tokens c = sym (place_in c.args.source.now c.args.tokens.now c.args.at (record { kind = kind.Word; span = record { start = 0; end = 0 } }) c.if-at-tokens.true)

pub returns : goal.returns
returns c = ap length c.as_bytes.ensures.value ∙ sym (place_end c.args.source.now c.args.tokens.now c.args.at c.if-at-tokens.false)
