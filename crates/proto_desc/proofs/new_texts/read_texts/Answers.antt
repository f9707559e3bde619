use Rattle.std.proofs.Common.{◌≡◌, ◌<◌, ◌≤◌, ◌+◌, ◌∙◌, length, map, ap, All, arith}
use Rattle.std.proofs.lemmas.Result.{on_err_weaker, on_ok_weaker}
use Rattle.proto_base.proofs.Common.{All-weaker, IfErr-weaker, IfOk-weaker, Vec, err_from_is_err_and, length-map}
use Rattle.proto_files.proofs.Common.{IsGrammarFault}
use Rattle.proto_files.specs.Reading.{IsFirstError}
use Rattle.proto_edit_entries.specs.Putting.{with_texts}
use Rattle.proto_desc.specs.NewTexts.{IsParsedText, IsReadText, given_text, lexed_text, read_text, texts_at}
use Rattle.proto_desc.specs.Opening.{IsOpenError}
use Rattle.proto_desc.specs.declared.texts.ReadText.{ReadText}
use Rattle.proto_desc.proofs.ReadTexts.{count_of, few_of, files_with, first_grammar_error, first_text_error, places_of}
use Rattle.proto_desc.proofs.new_texts.read_texts.Goals as goal

pub lex_texts-requires : goal.lex_texts-requires
lex_texts-requires c =
    places_of c.args.files.now c.args.places.now (map (λ t. t.items) c.args.texts.items) c.requires.places c.requires.rising given_text c.in_ok-given.given.items c.in_ok-given.ensures

pub parse_texts-requires-clause-places : goal.parse_texts-requires-clause-places
parse_texts-requires-clause-places c =
    places_of c.args.files.now c.args.places.now (map (λ t. t.items) c.args.texts.items) c.requires.places c.requires.rising lexed_text c.in_ok-lexed.lexed.items (c.in_ok-lexed.ensures.same ∙ c.in_ok-given.ensures)

pub parse_texts-requires-clause-steps : goal.parse_texts-requires-clause-steps
parse_texts-requires-clause-steps c =
    let few =
    few_of c.args.files.now c.args.places.now (map (λ t. t.items) c.args.texts.items) c.requires.places c.requires.rising lexed_text c.in_ok-lexed.lexed.items (c.in_ok-lexed.ensures.same ∙ c.in_ok-given.ensures) (length-map c.args.texts.items (λ t. t.items) ∙ c.requires.paired) c.len-count.ensures.workspace in
    omega (arith, few, c.requires.steps)

pub returns-in_err-lexed-clause-fault : goal.returns-in_err-lexed-clause-fault
returns-in_err-lexed-clause-fault c =
    let p = err_from_is_err_and c.from_residual-in_err-lexed.result c.from_residual-in_err-lexed.ensures.1 in
    rw (p.1, p.2)
    (first_text_error c.args.files.now c.args.places.now (map (λ t. t.items) c.args.texts.items) c.requires.places c.requires.rising c.len-count.ensures.workspace c.len-count.ensures.clean given_text c.in_ok-given.given.items c.in_ok-given.ensures _ c.in_err-lexed.ensures.fault)

pub returns-clause-same : goal.returns-clause-same
returns-clause-same c =
    let ts = map (λ t. t.items) c.args.texts.items in
    IfOk-weaker c.parse_texts.result
    (λ (read : Vec ReadText). map read_text read.items ≡ map lexed_text c.in_ok-lexed.lexed.items)
    (λ (read : Vec ReadText). map read_text read.items ≡ texts_at c.args.places.now ts)
    (λ read e. e ∙ c.in_ok-lexed.ensures.same ∙ c.in_ok-given.ensures) c.parse_texts.ensures.same

pub returns-clause-places : goal.returns-clause-places
returns-clause-places c =
    let files = c.args.files.now in
    let ts = map (λ t. t.items) c.args.texts.items in
    IfOk-weaker c.parse_texts.result
    (λ (read : Vec ReadText). map read_text read.items ≡ map lexed_text c.in_ok-lexed.lexed.items)
    (λ (read : Vec ReadText). All (λ t. t.place < length files) read.items)
    (λ read e. places_of files c.args.places.now ts c.requires.places c.requires.rising read_text read.items (e ∙ c.in_ok-lexed.ensures.same ∙ c.in_ok-given.ensures))
    c.parse_texts.ensures.same

pub returns-clause-read : goal.returns-clause-read
returns-clause-read c =
    IfOk-weaker c.parse_texts.result
    (λ (read : Vec ReadText). All (IsParsedText c.args.files.now) read.items) (λ (read : Vec ReadText). All (IsReadText c.args.files.now) read.items)
    (λ read all. All-weaker (IsParsedText c.args.files.now) (IsReadText c.args.files.now) (λ r p. p.reads) read.items all) c.parse_texts.ensures.read

pub returns-clause-fault : goal.returns-clause-fault
returns-clause-fault c =
    let files = c.args.files.now in
    let ps = c.args.places.now in
    let ts = map (λ t. t.items) c.args.texts.items in
    IfErr-weaker c.parse_texts.result
    (IsFirstError IsGrammarFault (files_with files lexed_text c.in_ok-lexed.lexed.items)) (IsOpenError (with_texts files ps ts))
    (λ e first. first_grammar_error files ps ts c.requires.places c.requires.rising c.len-count.ensures.workspace c.len-count.ensures.clean c.in_ok-lexed.lexed.items (c.in_ok-lexed.ensures.same ∙ c.in_ok-given.ensures) c.in_ok-lexed.ensures.lexed e first)
    c.parse_texts.ensures.fault

pub returns-clause-counted : goal.returns-clause-counted
returns-clause-counted c =
    let count =
    count_of c.args.files.now c.args.places.now (map (λ t. t.items) c.args.texts.items) c.requires.places c.requires.rising lexed_text c.in_ok-lexed.lexed.items (c.in_ok-lexed.ensures.same ∙ c.in_ok-given.ensures) (length-map c.args.texts.items (λ t. t.items) ∙ c.requires.paired) in
    let old = c.args.steps.now in
    let new = c.parse_texts.new.steps in
    on_ok_weaker c.parse_texts.result
    (λ (e : new ≡ old + length c.in_ok-lexed.lexed.items). e ∙ ap (λ n. old + n) count) c.parse_texts.ensures.counted

pub returns-clause-refused : goal.returns-clause-refused
returns-clause-refused c =
    let count =
    count_of c.args.files.now c.args.places.now (map (λ t. t.items) c.args.texts.items) c.requires.places c.requires.rising lexed_text c.in_ok-lexed.lexed.items (c.in_ok-lexed.ensures.same ∙ c.in_ok-given.ensures) (length-map c.args.texts.items (λ t. t.items) ∙ c.requires.paired) in
    let old = c.args.steps.now in
    let new = c.parse_texts.new.steps in
    on_err_weaker c.parse_texts.result
    (λ (h : (old ≤ new) × (new ≤ old + length c.in_ok-lexed.lexed.items)). (h.0, omega (arith, h.1, count))) c.parse_texts.ensures.refused
