use Rattle.std.proofs.Common.{◌≤◌, ◌++◌, ℕ, List, append-nil, get_or, length, map, sym, ap, ◌∙◌, arith, refl}
use Rattle.proto_files.proofs.Common.{file_at}
use Rattle.proto_names_rules.specs.Grown.{at}
use Rattle.proto_answers.proofs.LocationLists.{Located, token_more, tokens_end}
use Rattle.proto_answers.proofs.TokenRanges.{range_stands, spans_within}
use Rattle.proto_answers.proofs.references.add_locations.Goals as goal

pub loop-token-init : goal.loop-token-init
loop-token-init c = record {
  cursor = c.new-cursor.ensures.there c.args.encoding c.as_bytes-text.result.now;
  made = λ reads are. sym (append-nil c.args.all.now.items);
}

pub range_from-requires-clause-start : goal.range_from-requires-clause-start
range_from-requires-clause-start c =
    (spans_within (file_at c.args.files.now c.args.found.now.file).bytes c.tokens-tokens.result.now c.tokens-tokens.ensures.tokens c.as_bytes-text.result.now (c.as_bytes-text.ensures.value ∙ c.source.ensures) (get_or c.as_slice-token-items.result.now c.loop-token.token-index 0) c.span_of.result c.span_of.ensures).0

pub range_from-requires-clause-end : goal.range_from-requires-clause-end
range_from-requires-clause-end c =
    (spans_within (file_at c.args.files.now c.args.found.now.file).bytes c.tokens-tokens.result.now c.tokens-tokens.ensures.tokens c.as_bytes-text.result.now (c.as_bytes-text.ensures.value ∙ c.source.ensures) (get_or c.as_slice-token-items.result.now c.loop-token.token-index 0) c.span_of.result c.span_of.ensures).1

pub loop-token-preserved : goal.loop-token-preserved
loop-token-preserved c =
    let file = c.args.found.now.file in
    let files = c.args.files.now in
    let e = c.args.encoding in
    let ts = c.as_slice-token-items.result.now in
    let i = c.loop-token.token-index in
    let t = get_or ts i 0 in
    record {
      cursor = c.range_from.ensures.there;
      made = λ reads are.
          token_more e files reads c.args.left_out file ts i t c.loop-token-test.true refl c.args.all.now.items c.loop-token.all.items c.push_listed.new.all.items c.is_listed.result (record { file = file; range = c.range_from.result.0 })
          (c.loop-token.invariant.made reads are) c.is_listed.ensures
          (range_stands e files reads are file t c.requires c.as_bytes-text.result.now c.tokens-tokens.result.now c.span_of.result c.range_from.result.0 (c.as_bytes-text.ensures.value ∙ c.source.ensures) c.tokens-tokens.ensures.tokens c.span_of.ensures c.range_from.ensures.range)
          c.in_ok-push_listed.ensures;
    }

pub returns : goal.returns
returns c = λ reads are.
    (let file = c.args.found.now.file in
    let ts = c.as_slice-token-items.result.now in
    let i = c.loop-token.token-index in
    let end : length ts ≤ i = omega (arith, c.loop-token-test.false) in
    tokens_end c.args.encoding c.args.files.now reads c.args.left_out file ts i end c.args.all.now.items c.loop-token.all.items (c.loop-token.invariant.made reads are)
    ∙ ap (λ (is : List ℕ). c.args.all.now.items ++ Located c.args.encoding c.args.files.now reads c.args.left_out (map (at file) is)) c.as_slice-token-items.ensures.value)
