use Rattle.std.proofs.Common.{◌≡◌, ◌++◌, [], ap, ◌∙◌, subst, sym}
use Rattle.std.specs.Str.{IsUtf8}
use Rattle.json.specs.Print.{print}
use Rattle.serde_json.proofs.Texts.{print-outline}
use Rattle.proto_journal_records.specs.Common.{record_data, record_of}
use Rattle.proto_journal_records.specs.DataTokens.{data_tokens}
use Rattle.proto_journal_records.proofs.writing.bytes_of.Goals as goal

pub returns-clause-text : goal.returns-clause-text
returns-clause-text c =
    let d = record_data c.args.version (record_of c.args.parts.now) in
    let written = c.write_record.new.writer in
    let added = c.in_ok-write_record.ensures.written in
    let tokens : written.tokens ≡ data_tokens d = added.tokens ∙ ap (λ t. t ++ data_tokens d) c.new-writer.ensures.tokens in
    let before : written.before ≡ [] = added.before ∙ c.new-writer.ensures.before ∙ c.in_ok-with_capacity.ensures.items in
    c.into_inner.ensures.items ∙ (λ i. before i ++ print (tokens i)) ∙ print-outline d

pub returns-clause-utf8 : goal.returns-clause-utf8
returns-clause-utf8 c =
    let written = c.write_record.new.writer in
    let before : written.before ≡ [] = c.in_ok-write_record.ensures.written.before ∙ c.new-writer.ensures.before ∙ c.in_ok-with_capacity.ensures.items in
    subst IsUtf8 (sym (c.into_inner.ensures.items ∙ ap (λ b. b ++ print written.tokens) before)) c.into_inner.ensures.utf8

pub returns-clause-is : goal.returns-clause-is
returns-clause-is c = record { entry = c.in_ok-write_record.ensures.entry; texts = c.in_ok-write_record.ensures.texts; edit = c.requires }
