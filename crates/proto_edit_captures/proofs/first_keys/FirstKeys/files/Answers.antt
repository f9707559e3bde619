use Rattle.std.proofs.Common.{◌≡◌, ◌||◌, ◌&&◌, true, false, [], length, get_or, ◌∙◌, ap, inl, inr, arith}
use Rattle.std.proofs.lemmas.List.{length-replicate}
use Rattle.std.proofs.lemmas.Result.{IfOk-weaker}
use Rattle.proto_base.proofs.Common.{and_parts, or_cases}
use Rattle.proto_file_sets.specs.FileSets.{IsIn}
use Rattle.proto_names.specs.Linking.{is_visible}
use Rattle.proto_edit_captures.specs.Common.{begins}
use Rattle.proto_edit_captures.proofs.AskedFiles.{added_is_in, are_below, are_rising, is_listed}
use Rattle.proto_edit_captures.proofs.first_keys.FirstKeys.files.Goals as goal

pub files-requires : goal.files-requires
files-requires c = record { few = omega (arith, c.requires.few, c.add_new-3.ensures.count, c.add_new-2.ensures.count, c.add_new.ensures.count, ap length c.in_ok-asked.ensures, length-replicate c.args.file_count false) }

pub returns-clause-within : goal.returns-clause-within
returns-clause-within c =
    let sized = c.add_new-3.ensures.count ∙ c.add_new-2.ensures.count ∙ c.add_new.ensures.count ∙ ap length c.in_ok-asked.ensures ∙ length-replicate c.args.file_count false in
    IfOk-weaker c.files.result _ _ (λ listed is. are_below c.add_new-3.new.self listed.items c.args.file_count is sized) c.files.ensures

pub returns-clause-rising : goal.returns-clause-rising
returns-clause-rising c =
    let sized = c.add_new-3.ensures.count ∙ c.add_new-2.ensures.count ∙ c.add_new.ensures.count ∙ ap length c.in_ok-asked.ensures ∙ length-replicate c.args.file_count false in
    IfOk-weaker c.files.result _ _ (λ listed is. are_rising c.add_new-3.new.self listed.items c.args.file_count is sized) c.files.ensures

pub returns-clause-whole : goal.returns-clause-whole
returns-clause-whole c =
    let count = c.args.file_count in
    let first : length c.in_ok-asked.asked ≡ count = ap length c.in_ok-asked.ensures ∙ length-replicate count false in
    let second : length c.add_new.new.self ≡ count = c.add_new.ensures.count ∙ first in
    let third : length c.add_new-2.new.self ≡ count = c.add_new-2.ensures.count ∙ second in
    let all = c.add_new-3.new.self in
    let sized : length all ≡ count = c.add_new-3.ensures.count ∙ third in
    let none = c.in_ok-none.none in
    let empty = c.in_ok-none.ensures in
    IfOk-weaker c.files.result _ _ (λ listed is file target l asked.
    let ms = get_or c.args.link.now.meant file [] in
    let keys = c.args.self in
    let by_new = λ (h : begins ms keys.new ≡ true). c.add_new-3.ensures.kept file (c.add_new-2.ensures.kept file (added_is_in c.in_ok-asked.asked c.files_beginning_with.result.now none c.add_new.new.self empty c.add_new.ensures.files file (omega (arith, l, first)) (c.files_beginning_with.ensures.files file h))) in
    let by_old = λ (h : begins ms keys.old ≡ true). c.add_new-3.ensures.kept file (added_is_in c.add_new.new.self c.files_beginning_with-2.result.now none c.add_new-2.new.self empty c.add_new-2.ensures.files file (omega (arith, l, second)) (c.files_beginning_with-2.ensures.files file h)) in
    let by_entry = λ (h : begins ms keys.entry ≡ true). added_is_in c.add_new-2.new.self c.files_beginning_with-3.result.now none all empty c.add_new-3.ensures.files file (omega (arith, l, third)) (c.files_beginning_with-3.ensures.files file h) in
    let on : IsIn all file = elim (or_cases (begins ms keys.new || begins ms keys.entry) (begins ms keys.old && is_visible c.args.link.now file target) asked) [
      | inl word ↦ elim (or_cases (begins ms keys.new) (begins ms keys.entry) word) [
        | inl h ↦ by_new h
        | inr h ↦ by_entry h
      ]
      | inr old ↦ by_old (and_parts (begins ms keys.old) (is_visible c.args.link.now file target) old).0
    ] in
    is_listed all listed.items count is sized file l on) c.files.ensures
