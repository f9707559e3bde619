use Rattle.std.proofs.Math.Seq.{take-append_seam}
use Rattle.std.proofs.Common.{◌≡◌, ◌<◌, ◌++◌, ◌∷◌, [], length, sym, ◌∙◌, ap, subst, position, map, option_and_then, length-append, take}
use Rattle.std.specs.List.{All}
use Rattle.proto_names_table.specs.declared.index.Below.{Below}
use Rattle.proto_names_table.specs.Indexes.{is_below_number, word_place}
use Rattle.indexmap.specs.IndexSet.{insert_key}
use Rattle.proto_names_rules.proofs.Edited.{map_append}
use Rattle.proto_names_table.proofs.IndexAdded.{look_added, none_here, words_there, new_last, from_ok, place_within}
use Rattle.proto_names_table.proofs.index.Index.add.Goals as goal

abbrev key : goal.After-unwrap → Below
key c = record { above = c.args.above; word = c.in_ok-word.word }

keys : (c : goal.After-unwrap) → c.insert.new.self.keys ≡ c.args.self.now.rows.keys ++ key c ∷ []
keys c =
    from_ok c.insert.result c.unwrap.result c.unwrap.ensures c.insert.ensures.keys
    ∙ ap (λ z. insert_key (λ a b. is_below_number a.above a.word b) z (key c)) c.in_ok-reserve.ensures.keys
    ∙ new_last (λ a b. is_below_number a.above a.word b) c.args.self.now.rows.keys (key c)
    (none_here c.args.self.now.words.keys c.number.new.words.keys c.args.self.now.rows.keys c.args.above c.in_ok-word.word c.args.word.now
    c.in_ok-word.ensures.found c.in_ok-word.ensures.old_or_new c.in_ok-word.ensures.other c.requires.words c.requires.new)

pub returns-clause-words : goal.returns-clause-words
returns-clause-words c =
    subst (All (λ (b : Below). b.word < length c.number.new.words.keys)) (sym (keys c))
    (words_there c.args.self.now.words.keys c.number.new.words.keys c.args.self.now.rows.keys c.args.above c.in_ok-word.word c.args.word.now
    c.in_ok-word.ensures.found c.in_ok-word.ensures.old_or_new c.in_ok-word.ensures.other c.requires.words c.requires.new
    c.number.ensures.long (place_within c.number.new.words.keys c.args.word.now c.in_ok-word.word c.in_ok-word.ensures.found))

pub returns-clause-look : goal.returns-clause-look
returns-clause-look c p v =
    ap (λ z. option_and_then (λ x. position (is_below_number p x) z) (word_place c.number.new.words.keys v)) (keys c)
    ∙ look_added c.args.self.now.words.keys c.number.new.words.keys c.args.self.now.rows.keys c.args.above c.in_ok-word.word c.args.word.now
    c.in_ok-word.ensures.found c.in_ok-word.ensures.old_or_new c.in_ok-word.ensures.other c.requires.words c.requires.new p v

pub returns-clause-aboves : goal.returns-clause-aboves
returns-clause-aboves c = ap (map (λ (b : Below). b.above)) (keys c) ∙ map_append (λ (b : Below). b.above) c.args.self.now.rows.keys (key c ∷ [])

pub returns-clause-len : goal.returns-clause-len
returns-clause-len c = ap length (keys c) ∙ length-append c.args.self.now.rows.keys (key c ∷ [])

pub returns-clause-front : goal.returns-clause-front
returns-clause-front c = record {
  words = c.in_ok-word.ensures.front;
  rows = ap (take (length c.args.self.now.rows.keys)) (keys c) ∙ take-append_seam c.args.self.now.rows.keys (key c ∷ []);
}
