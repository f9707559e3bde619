use Rattle.std.proofs.Common.{List, ℕ, option_map, position, bytes_eq, string_bytes, sym, ap, ◌∙◌}
use Rattle.proto_files.proofs.Common.{paths_of}
use Rattle.proto_session_files.specs.Views.{view_at}
use Rattle.proto_session_replies.specs.Placing.{asked_at}
use Rattle.proto_session_replies.proofs.AskedSpots.{nowhere_there, nowhere_unnamed, place_within}
use Rattle.proto_session_replies.proofs.requesting.spot.Goals as goal

pub returns-in_default : goal.returns-in_default
returns-in_default c =
    nowhere_unnamed (view_at c.args.view.now) c.args.files.now (asked_at c.args.uri.now c.args.position) (sym c.in_ok-path.ensures ∙ ap (option_map string_bytes) c.in_default.is)

pub returns-in_default-place_of_path : goal.returns-in_default-place_of_path
returns-in_default-place_of_path c =
    nowhere_there (view_at c.args.view.now) c.args.files.now (asked_at c.args.uri.now c.args.position) (string_bytes c.in-Some.path) (sym c.in_ok-path.ensures ∙ ap (option_map string_bytes) c.in-Some.is)
    (ap (λ (p : List ℕ). position (bytes_eq p) (paths_of c.args.files.now)) (sym c.as_str.ensures.value) ∙ (sym c.place_of_path.ensures ∙ c.in_default-place_of_path.is))

pub offset_in-offset-requires : goal.offset_in-offset-requires
offset_in-offset-requires c = place_within c.args.files.now c.as_str.result.now c.in-Some-place_of_path.file (sym c.place_of_path.ensures ∙ c.in-Some-place_of_path.is)

pub returns : goal.returns
returns c = record {
  path = string_bytes c.in-Some.path;
  names = sym c.in_ok-path.ensures ∙ ap (option_map string_bytes) c.in-Some.is;
  there = ap (λ (p : List ℕ). position (bytes_eq p) (paths_of c.args.files.now)) (sym c.as_str.ensures.value) ∙ (sym c.place_of_path.ensures ∙ c.in-Some-place_of_path.is);
  offset_is = c.offset_in-offset.ensures;
}
