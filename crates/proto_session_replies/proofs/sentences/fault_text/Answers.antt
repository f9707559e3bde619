use Rattle.std.proofs.Common.{◌≡◌, ◌++◌, ℕ, List, slice_get, Some, None, sym, ap, ◌∙◌, rules}
use Rattle.std.specs.Prelude.{codes}
use Rattle.proto_base.specs.GivenFiles.{files_of_as}
use Rattle.proto_files.specs.Faults.{fault_at}
use Rattle.proto_session_replies.proofs.FaultTexts.{fault_line_ends, least_is_first, none_without_fault}
use Rattle.proto_session_replies.proofs.InLanguage.{place_in}
use Rattle.proto_session_replies.proofs.sentences.fault_text.Goals as goal

pub returns : goal.returns
returns c =
    let x = c.in-Some.fault.now in
    let place = c.place_of_fault.result in
    let ends = fault_line_ends (fault_at x) place.line place.column in
    let said = c.without_line_feed.ensures ends.0 (c.in_ok-line-in-Some.ensures ∙ ends.1) in
    let first : slice_get c.in_ok-listed.listed.items 0 ≡ Some x = search rules in
    record {
      fault = fault_at x;
      least = least_is_first c.first_is_least.ensures.first (files_of_as c.args.profile c.args.files.now) c.in_ok-listed.listed.items x c.in_ok-listed.ensures first;
      line = (place.line, place.column, place_in c.args.profile c.args.files.now (fault_at x) place.line place.column c.place_of_fault.ensures, ap (λ (t : List ℕ). t ++ codes "\n") said ∙ sym ends.1);
    }

pub unreachable-requires : goal.unreachable-requires
unreachable-requires c =
    let none : slice_get c.in_ok-listed.listed.items 0 ≡ None = search rules in
    none_without_fault c.first_is_least.ensures.none (files_of_as c.args.profile c.args.files.now) c.in_ok-listed.listed.items c.in_ok-listed.ensures none c.requires
