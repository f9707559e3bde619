use Rattle.std.proofs.Common.{◌≡◌, Some, length, sym, ◌∙◌, ap}
use Rattle.proto_base.proofs.Common.{length_push, zip_end, zip_turn, contains_text, zip_first, zip_second, iter_rest}
use Rattle.proto_text.specs.Texts.{word_at}
use Rattle.proto_edit_captures.specs.Overtaking.{overtakes_by, overtakes_use}
use Rattle.proto_edit_captures.proofs.FirstOnes.{none_behind, passed_over, stops_here}
use Rattle.proto_edit_captures.proofs.overtaking.first_in_list.Goals as goal

pub returns : goal.returns
returns c =
    let us = c.args.listing.now.used.items in
    let ms = c.args.meant.now in
    let test = overtakes_by c.args.seen.now.link.now c.args.seen.now.files.now (contains_text c.args.seen.now.packages) (word_at c.args.words.now) c.args.listing.now.declared.items in
    let gives = c.into_iter-used-iterator.ensures.into_iter_gives in
    let first : iter_rest (zip_first c.into_iter-used-iterator.result) ≡ us = ap (λ z. iter_rest (zip_first z)) gives ∙ ap (λ z. iter_rest z) c.zip-used-items.ensures.first ∙ c.iter.ensures.rest ∙ c.deref.ensures.value in
    let second : iter_rest (zip_second c.into_iter-used-iterator.result) ≡ ms = ap (λ z. iter_rest (zip_second z)) gives ∙ c.zip-used-items.ensures.second.0 in
    let n = zip_end us ms c.loop-used.yielded c.into_iter-used-iterator.result c.loop-used.used-iterator c.next.new.self c.next.result first second c.loop-used.yielded_by c.in-None.is c.next.ensures.steps in
    sym (c.loop-used.invariant ∙ none_behind test us ms (length c.loop-used.yielded) n)

pub loop-used-preserved : goal.loop-used-preserved
loop-used-preserved c =
    let us = c.args.listing.now.used.items in
    let ms = c.args.meant.now in
    let test = overtakes_by c.args.seen.now.link.now c.args.seen.now.files.now (contains_text c.args.seen.now.packages) (word_at c.args.words.now) c.args.listing.now.declared.items in
    let gives = c.into_iter-used-iterator.ensures.into_iter_gives in
    let first : iter_rest (zip_first c.into_iter-used-iterator.result) ≡ us = ap (λ z. iter_rest (zip_first z)) gives ∙ ap (λ z. iter_rest z) c.zip-used-items.ensures.first ∙ c.iter.ensures.rest ∙ c.deref.ensures.value in
    let second : iter_rest (zip_second c.into_iter-used-iterator.result) ≡ ms = ap (λ z. iter_rest (zip_second z)) gives ∙ c.zip-used-items.ensures.second.0 in
    let t = zip_turn us ms c.loop-used.yielded c.into_iter-used-iterator.result c.loop-used.used-iterator c.next.new.self c.next.result first second c.loop-used.yielded_by _ c.in-Some.is c.next.ensures.steps in
    let tested =
    c.in_ok-is_overtaken.ensures
    ∙ ap (λ ds. overtakes_use c.args.seen.now.link.now c.args.seen.now.files.now (contains_text c.args.seen.now.packages) (word_at c.args.words.now) ds c.in-Some.used.now c.meaning-meaning.result.now) c.as_slice-all.ensures.value
    ∙ ap (overtakes_use c.args.seen.now.link.now c.args.seen.now.files.now (contains_text c.args.seen.now.packages) (word_at c.args.words.now) c.args.listing.now.declared.items c.in-Some.used.now) c.meaning-meaning.ensures in
    c.loop-used.invariant ∙ passed_over test us ms (length c.loop-used.yielded) c.in-Some.used.now c.in-Some.meant.now t.0 t.1 (t.2 _) (t.3 _) (sym tested ∙ c.if-branch.false) _ (length_push c.loop-used.yielded _)

pub returns-then-branch : goal.returns-then-branch
returns-then-branch c =
    let us = c.args.listing.now.used.items in
    let ms = c.args.meant.now in
    let test = overtakes_by c.args.seen.now.link.now c.args.seen.now.files.now (contains_text c.args.seen.now.packages) (word_at c.args.words.now) c.args.listing.now.declared.items in
    let gives = c.into_iter-used-iterator.ensures.into_iter_gives in
    let first : iter_rest (zip_first c.into_iter-used-iterator.result) ≡ us = ap (λ z. iter_rest (zip_first z)) gives ∙ ap (λ z. iter_rest z) c.zip-used-items.ensures.first ∙ c.iter.ensures.rest ∙ c.deref.ensures.value in
    let second : iter_rest (zip_second c.into_iter-used-iterator.result) ≡ ms = ap (λ z. iter_rest (zip_second z)) gives ∙ c.zip-used-items.ensures.second.0 in
    let t = zip_turn us ms c.loop-used.yielded c.into_iter-used-iterator.result c.loop-used.used-iterator c.next.new.self c.next.result first second c.loop-used.yielded_by _ c.in-Some.is c.next.ensures.steps in
    let tested =
    c.in_ok-is_overtaken.ensures
    ∙ ap (λ ds. overtakes_use c.args.seen.now.link.now c.args.seen.now.files.now (contains_text c.args.seen.now.packages) (word_at c.args.words.now) ds c.in-Some.used.now c.meaning-meaning.result.now) c.as_slice-all.ensures.value
    ∙ ap (overtakes_use c.args.seen.now.link.now c.args.seen.now.files.now (contains_text c.args.seen.now.packages) (word_at c.args.words.now) c.args.listing.now.declared.items c.in-Some.used.now) c.meaning-meaning.ensures in
    ap Some c.token.ensures ∙ sym (c.loop-used.invariant ∙ stops_here test us ms (length c.loop-used.yielded) c.in-Some.used.now c.in-Some.meant.now t.0 t.1 (t.2 _) (t.3 _) (sym tested ∙ c.if-branch.true))
