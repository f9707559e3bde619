use Rattle.std.proofs.Common.{◌≡◌, List, flat_map, map, ap, ◌∙◌}
use Rattle.proto_base.proofs.Common.{IfOk-weaker}
use Rattle.proto_custom_options.specs.Views.{custom_of}
use Rattle.proto_files.proofs.Common.{ReadOf, file_at}
use Rattle.proto_text.proofs.Common.{Lexeme}
use Rattle.proto_text.specs.Texts.{word_at, words}
use Rattle.proto_option_files.specs.OptionFiles.{IsReadOf, file_keys, option_keys}
use Rattle.proto_option_files.proofs.option_keys.file_keys.Goals as goal

pub returns : goal.returns
returns c =
    let f = file_at c.args.files.now c.args.file in
    let os = map custom_of c.deref.result.now in
    IfOk-weaker c.keys_of.result
    (λ keys. keys.items ≡ flat_map (option_keys (word_at c.new-words.result)) os)
    (λ keys. (r : ReadOf) → IsReadOf f r → keys.items ≡ file_keys f r)
    (λ keys is r read.
    is
    ∙ ap (λ (ls : List Lexeme). flat_map (option_keys (word_at ls)) os) (c.new-words.ensures.words r.tokens read.tokens_are)
    ∙ ap (flat_map (option_keys (words f.bytes r.tokens))) (ap (map custom_of) c.deref.ensures.value ∙ c.in_ok-options.ensures r read))
    c.keys_of.ensures
