use Rattle.std.proofs.Common.{◌+◌, ◌<◌, ◌≤◌, ◌++◌, ◌∷◌, [], length, get_or, map, string_bytes, reverse, sym, ap, subst, ◌∙◌, arith}
use Rattle.std.proofs.lemmas.List.{map-append}
use Rattle.proto_case.specs.Camel.{entry_name}
use Rattle.proto_names_outline.specs.Listing.{needs, path_at, read}
use Rattle.proto_names_rules.specs.Skeleton.{name_of}
use Rattle.proto_text.specs.Texts.{word_at}
use Rattle.proto_edit_captures.proofs.ScopePaths.{map_reverse, no_entry, one_out, outermost}
use Rattle.proto_edit_captures.proofs.scope.scope_words.Goals as goal

pub loop-above-preserved : goal.loop-above-preserved
loop-above-preserved c =
    let text = word_at c.args.words.now in
    let es = c.args.declared.now in
    let k = c.in-Below.next in
    let there : k + 1 ≤ length es = subst (λ a. needs a ≤ length es) (c.in-Below.is) c.loop-above.invariant.within in
    let l : k < length es = omega (arith, there) in
    let up = c.requires.ordered k no_entry l in
    record {
      within = omega (arith, up, l);
      words =
          ap (λ z. name_of text entry_name (path_at (read es) (get_or es k no_entry).above) ++ reverse z) (ap (map string_bytes) c.in_ok-push.ensures.items ∙ map-append string_bytes c.loop-above.outward.items (c.in_ok-last_word.field-0 ∷ []))
          ∙ one_out text es k no_entry (map string_bytes c.loop-above.outward.items) (string_bytes c.in_ok-last_word.field-0) l up c.in_ok-last_word.ensures
          ∙ ap (λ a. name_of text entry_name (path_at (read es) a) ++ reverse (map string_bytes c.loop-above.outward.items)) (sym c.in-Below.is)
          ∙ c.loop-above.invariant.words;
    }

pub returns : goal.returns
returns c =
    let text = word_at c.args.words.now in
    let es = c.args.declared.now in
    ap (map string_bytes) c.reverse.ensures.items ∙ map_reverse string_bytes c.loop-above.outward.items
    ∙ ap (λ a. name_of text entry_name (path_at (read es) a) ++ reverse (map string_bytes c.loop-above.outward.items)) (sym (outermost c.loop-above.above c.in_default.not-Below))
    ∙ c.loop-above.invariant.words
