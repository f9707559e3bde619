use Rattle.std.proofs.Math.Seq.{take-append_seam, take-length}
use Rattle.std.proofs.Common.{◌≡◌, ℕ, List, string_bytes, String, sym, ◌∙◌, ap, inr, false, take, length, ◌∷◌, []}
use Rattle.std.specs.List.{list_any}
use Rattle.std.specs.Str.{bytes_eq}
use Rattle.std.specs.declared.alloc.Global.{Global}
use Rattle.std.proofs.lemmas.Bool.{cond-false}
use Rattle.proto_names_table.specs.Indexes.{word_place}
use Rattle.proto_names_table.proofs.Positions.{none_end}
use Rattle.proto_names_table.proofs.IndexAdded.{word_other}
use Rattle.proto_names_table.proofs.index.number.Goals as goal

absent : (words : List (String Global)) (key : String Global) (word : List ℕ) → string_bytes key ≡ word → false ≡ list_any (λ k. bytes_eq word (string_bytes k)) words → list_any (λ k. bytes_eq (string_bytes key) (string_bytes k)) words ≡ false
absent words key word is none = ap (λ z. list_any (λ k. bytes_eq z (string_bytes k)) words) is ∙ sym none

pub returns-in_ok-number-in-None-clause-old_or_new :
    goal.returns-in_ok-number-in-None-clause-old_or_new
returns-in_ok-number-in-None-clause-old_or_new c = inr (
  c.in_ok-number-in-None.ensures.index ∙ none_end (λ k. bytes_eq (string_bytes c.in_ok-key-in-None.key) (string_bytes k)) c.args.words.now.keys (ap (word_place c.args.words.now.keys) c.in_ok-key-in-None.ensures.ok ∙ sym c.in-None.ensures.index),
  sym c.in-None.ensures.index,
)

pub returns-in_ok-number-in-None-clause-other : goal.returns-in_ok-number-in-None-clause-other
returns-in_ok-number-in-None-clause-other c v ne =
    ap (λ z. word_place z v) (c.in_ok-number-in-None.ensures.keys ∙ cond-false _ _ _ (absent c.args.words.now.keys c.in_ok-key-in-None.key c.args.word.now c.in_ok-key-in-None.ensures.ok c.in-None.ensures.found))
    ∙ word_other c.args.words.now.keys c.in_ok-key-in-None.key c.args.word.now c.in_ok-key-in-None.ensures.ok v ne

pub returns-in_ok-number-in-None-clause-front : goal.returns-in_ok-number-in-None-clause-front
returns-in_ok-number-in-None-clause-front c =
    ap (take (length c.args.words.now.keys)) (c.in_ok-number-in-None.ensures.keys ∙ cond-false _ _ _ (absent c.args.words.now.keys c.in_ok-key-in-None.key c.args.word.now c.in_ok-key-in-None.ensures.ok c.in-None.ensures.found))
    ∙ take-append_seam c.args.words.now.keys (c.in_ok-key-in-None.key ∷ [])

pub returns-in-Some-clause-front : goal.returns-in-Some-clause-front
returns-in-Some-clause-front c = take-length c.args.words.now.keys
