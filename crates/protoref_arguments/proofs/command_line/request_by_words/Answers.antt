use Rattle.std.proofs.Common.{◌≡◌, ◌∙◌, ◌⊎◌, ap, ap₂, sym, ◌≤◌, length, subst, map, drop, string_bytes, []}
use Rattle.std.proofs.lemmas.List.{length-map}
use Rattle.clap.specs.Lexer.{usize_max}
use Rattle.clap.specs.Walk.{texts}
use Rattle.clap.specs.Kinds.{IsAmong, Kinds}
use Rattle.clap.specs.Words.{app_of, fault_of, is_simple, is_simple_and_free, kind_of, subcommand_of, subcommand_rows_of}
use Rattle.clap.specs.declared.error.kind.ErrorKind.TheVariants.{OutOfMemory}
use Rattle.protoref_arguments.specs.Common.{asked_by_words, words_marked, program}
use Rattle.protoref_arguments.proofs.Answering.{answer_read, answer_refused}
use Rattle.protoref_arguments.proofs.Lines.{just_simple, line, simple}
use Rattle.protoref_arguments.proofs.command_line.request_by_words.Goals as goal

pub returns-in-Ok : goal.returns-in-Ok
returns-in-Ok c =
    let ws = map string_bytes c.args.words.now in
    let few : length ws ≤ usize_max = subst (λ n. n ≤ usize_max) (sym (length-map c.args.words.now string_bytes)) c.in_ok-words.ensures.2 in
    let app : app_of c.in_ok-program.program ≡ program = c.in_ok-program.ensures in
    let handed : texts c.as_slice.result.now ≡ words_marked ws = ap texts c.as_slice.ensures.value ∙ c.in_ok-words.ensures.0 in
    let none : fault_of program (words_marked ws) ≡ [] = sym (ap₂ fault_of app handed) ∙ c.in-Ok.ensures.kinds (ap is_simple_and_free app ∙ simple) in
    let found : subcommand_rows_of c.in-Ok.matches ≡ subcommand_of program (words_marked ws) = (c.in-Ok.ensures.matches (ap is_simple app ∙ just_simple)).1 ∙ ap₂ subcommand_of app handed in
    answer_read (asked_by_words (drop 1 ws)) (words_marked ws) (subcommand_rows_of c.in-Ok.matches) c.request_of.result (line ws few c.in_ok-words.ensures.1) none found c.request_of.ensures

pub returns : goal.returns
returns c =
    let ws = map string_bytes c.args.words.now in
    let few : length ws ≤ usize_max = subst (λ n. n ≤ usize_max) (sym (length-map c.args.words.now string_bytes)) c.in_ok-words.ensures.2 in
    let app : app_of c.in_ok-program.program ≡ program = c.in_ok-program.ensures in
    let handed : texts c.as_slice.result.now ≡ words_marked ws = ap texts c.as_slice.ensures.value ∙ c.in_ok-words.ensures.0 in
    let k = kind_of c.in-Err.error in
    let fails : (k ≡ OutOfMemory) ⊎ IsAmong k (fault_of program (words_marked ws)) =
    subst (λ (ks : Kinds). (k ≡ OutOfMemory) ⊎ IsAmong k ks) (ap₂ fault_of app handed) (c.in-Err.ensures.kinds (ap is_simple_and_free app ∙ simple)) in
    answer_refused (asked_by_words (drop 1 ws)) (words_marked ws) k c.help_of.result (line ws few c.in_ok-words.ensures.1) fails c.help_of.ensures
