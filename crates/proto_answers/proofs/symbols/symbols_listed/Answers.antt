use Rattle.std.proofs.Common.{◌≤◌, get_or, length, refl, ◌∙◌, arith}
use Rattle.proto_files.proofs.Common.{file_at}
use Rattle.proto_answers.specs.Common.{no_entry}
use Rattle.proto_answers.specs.declared.symbols.Symbol.{Symbol}
use Rattle.proto_answers.proofs.SymbolLists.{symbol_made, symbol_more, symbols_end}
use Rattle.proto_answers.proofs.TokenRanges.{range_stands, spans_within}
use Rattle.proto_answers.proofs.symbols.symbols_listed.Goals as goal

pub loop-listed-init : goal.loop-listed-init
loop-listed-init c = record {
  cursor = c.new-cursor.ensures.there c.args.encoding c.as_bytes-text.result.now;
  made = λ reads are. c.new-all.ensures.items;
}

pub range_from-requires-clause-start : goal.range_from-requires-clause-start
range_from-requires-clause-start c =
    (spans_within (file_at c.args.files.now c.args.file).bytes c.tokens-tokens.result.now c.tokens-tokens.ensures.tokens c.as_bytes-text.result.now (c.as_bytes-text.ensures.value ∙ c.source.ensures) (get_or c.args.declared.now c.loop-listed.listed-index no_entry).token c.span_of.result c.span_of.ensures).0

pub range_from-requires-clause-end : goal.range_from-requires-clause-end
range_from-requires-clause-end c =
    (spans_within (file_at c.args.files.now c.args.file).bytes c.tokens-tokens.result.now c.tokens-tokens.ensures.tokens c.as_bytes-text.result.now (c.as_bytes-text.ensures.value ∙ c.source.ensures) (get_or c.args.declared.now c.loop-listed.listed-index no_entry).token c.span_of.result c.span_of.ensures).1

pub container_token-requires : goal.container_token-requires
container_token-requires c =
    let need = c.requires.ordered c.loop-listed.listed-index no_entry c.loop-listed-test.true in
    omega (arith, need, c.loop-listed-test.true)

pub loop-listed-preserved : goal.loop-listed-preserved
loop-listed-preserved c =
    let file = c.args.file in
    let files = c.args.files.now in
    let e = c.args.encoding in
    let es = c.args.declared.now in
    let i = c.loop-listed.listed-index in
    let x = get_or es i no_entry in
    let s : Symbol = record { kind = x.kind; token = x.token; container = c.container_token.result; location = record { file = file; range = c.range_from.result.0 } } in
    record {
      cursor = c.range_from.ensures.there;
      made = λ reads are.
          symbol_more e files reads file es i x c.loop-listed-test.true refl (c.requires.ordered i no_entry c.loop-listed-test.true) c.requires.tokens c.loop-listed.all.items c.push_written.new.all.items s
          (c.loop-listed.invariant.made reads are)
          (symbol_made e files reads file es x s c.container_token.result (record { file = file; range = c.range_from.result.0 }) refl c.container_token.ensures
          (range_stands e files reads are file x.token c.requires.file c.as_bytes-text.result.now c.tokens-tokens.result.now c.span_of.result c.range_from.result.0 (c.as_bytes-text.ensures.value ∙ c.source.ensures) c.tokens-tokens.ensures.tokens c.span_of.ensures c.range_from.ensures.range))
          c.in_ok-push_written.ensures;
    }

pub returns : goal.returns
returns c = λ reads are.
    (let end : length c.args.declared.now ≤ c.loop-listed.listed-index = omega (arith, c.loop-listed-test.false) in
    symbols_end c.args.encoding c.args.files.now reads c.args.file c.args.declared.now c.loop-listed.listed-index end c.loop-listed.all.items (c.loop-listed.invariant.made reads are))
