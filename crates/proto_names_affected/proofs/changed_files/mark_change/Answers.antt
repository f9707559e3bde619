use Rattle.std.proofs.Common.{ℕ, ◌<◌, All, List, filter, length, map, not, sym, ◌∙◌, ap, subst}
use Rattle.std.proofs.lemmas.List.Elements.{All-filter}
use Rattle.proto_names_table.specs.declared.ids.Meant.{Meant}
use Rattle.proto_names_table.specs.declared.ids.RefId.{RefId}
use Rattle.proto_names_affected.specs.Marking.{AreUsersMarked}
use Rattle.proto_names_affected.specs.KindRows.{HasLastWords, is_below_type}
use Rattle.proto_names_affected.proofs.Changes.{beginners_marked, rows_within, users_marked, users_stay}
use Rattle.proto_names_affected.proofs.changed_files.mark_change.Goals as goal

pub last_word_keys-requires-clause-within : goal.last_word_keys-requires-clause-within
last_word_keys-requires-clause-within c =
    let n = length c.args.linked.table.now.rows.items in
    let test = λ (row : ℕ). not (is_below_type c.args.linked.table.now row) in
    let came = c.in_ok-came.came.items in
    let asked_are = c.deref-3.ensures.value ∙ c.in_ok-asked.ensures ∙ ap (filter test) c.deref-2.ensures.value in
    subst (All (λ row. row < n)) (sym asked_are) (All-filter test (λ row. row < n) came (rows_within n c.args.now.now c.args.before.now came c.in_ok-came.ensures c.requires.within))

pub returns-clause-marked : goal.returns-clause-marked
returns-clause-marked c =
    let table = c.args.linked.table.now in
    let references : List (List RefId) = map (λ v. v.items) c.args.linked.references.now in
    let meant : List (List Meant) = map (λ v. v.items) c.args.linked.meant.now in
    let first = c.mark_users.new.marks in
    let marks = c.mark_beginners.new.marks in
    let gone = c.in_ok-gone.gone.items in
    let came = c.in_ok-came.came.items in
    let asked_are = c.deref-3.ensures.value ∙ c.in_ok-asked.ensures ∙ ap (filter (λ (row : ℕ). not (is_below_type table row))) c.deref-2.ensures.value in
    let keys = c.in_ok-keys.keys.keys in
    record {
      gone = users_marked marks references c.args.before.now c.args.now.now gone c.in_ok-gone.ensures
          (users_stay first marks references gone c.in_ok-mark_beginners.ensures.stay (subst (AreUsersMarked first references) c.deref.ensures.value c.mark_users.ensures.marked));
      came = beginners_marked table marks meant c.args.before.now c.args.now.now came keys c.in_ok-came.ensures
          (subst (λ rows. HasLastWords table rows keys) asked_are c.in_ok-keys.ensures) c.in_ok-mark_beginners.ensures.marked;
    }
