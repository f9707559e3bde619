use Rattle.std.proofs.Common.{◌≡◌, ℕ, List, get_or, map, ap, ◌∙◌, arith, take_all}
use Rattle.proto_text.specs.Texts.{word_at}
use Rattle.proto_names_table.specs.declared.spelled.Spelled.{Spelled}
use Rattle.proto_names_rules.proofs.Mapped.{map_more}
use Rattle.proto_names_table.proofs.SpelledNames.{Bare, bare, bare_of, names_are, no_entry, kept, well_spelled}
use Rattle.proto_names_table.proofs.last_words.spelled_names.Goals as goal

pub loop-entry-preserved : goal.loop-entry-preserved
loop-entry-preserved c =
    let text = word_at c.args.words.now in
    let es = c.args.declared.now in
    let i = c.loop-entry.entry-index in
    let e = get_or es i no_entry in
    let s : Spelled = record { above = e.above; word = c.in_ok-word.word; kind = e.kind; token = e.token } in
    let same : bare s ≡ bare_of text e = ap (λ (word : List ℕ). let b : Bare = record { above = e.above; word = word; kind = e.kind; token = e.token } in b) c.in_ok-word.ensures in
    map_more (bare_of text) bare es i no_entry c.loop-entry.spelled.items c.push.new.self.items s c.loop-entry-test.true c.in_ok-push.ensures.items c.loop-entry.invariant same

pub returns : goal.returns
returns c =
    let text = word_at c.args.words.now in
    let es = c.args.declared.now in
    let ss = c.loop-entry.spelled.items in
    let all : map bare ss ≡ map (bare_of text) es = c.loop-entry.invariant ∙ ap (map (bare_of text)) (take_all c.loop-entry.entry-index es (omega arith)) in
    record {
      names = names_are text es ss all c.requires.tokens;
      kept = kept text es ss all;
      spelled = well_spelled text es ss all c.requires.ordered;
    }
