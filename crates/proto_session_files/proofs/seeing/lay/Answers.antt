use Rattle.std.proofs.Common.{◌≡◌, ◌<◌, ◌≤◌, ℕ, List, String, Global, length, string_bytes, sym, ap, ◌∙◌, arith, rules}
use Rattle.std.specs.List.{insert, remove}
use Rattle.proto_base.proofs.Common.{Vec, length-map}
use Rattle.proto_base.specs.GivenFiles.{file_of, files_of}
use Rattle.proto_base.specs.Texts.{Path}
use Rattle.proto_session_files.specs.Seeing.{is_there, place_for}
use Rattle.proto_session_files.proofs.Laying.{laid_between, laid_there, place_within, there_within}
use Rattle.proto_session_files.proofs.seeing.lay.Goals as goal
use Rattle.proto_session_files.proofs.seeing.lay.Goals.{else-is_there, then-is_there}

pub insert-requires : goal.insert-requires
insert-requires c =
    let xs = c.args.files.now.items in
    let path = string_bytes c.args.path in
    let n = c.place_for-place.result in
    let at : n ≡ place_for path (files_of xs) =
    c.place_for-place.ensures
    ∙ ap (λ (p : Path). place_for p (files_of c.as_slice.result.now)) c.as_str.ensures.value
    ∙ ap (λ (ys : List (String Global × Vec ℕ)). place_for path (files_of ys)) c.as_slice.ensures.value in
    let is : c.is_there.result ≡ is_there path n (files_of xs) =
    c.is_there.ensures
    ∙ ap (λ (p : Path). is_there p n (files_of c.as_slice-2.result.now)) c.as_str-2.ensures.value
    ∙ ap (λ (ys : List (String Global × Vec ℕ)). is_there path n (files_of ys)) c.as_slice-2.ensures.value in
    let len : length (files_of xs) ≡ length xs = length-map xs file_of in
    elim c.if-is_there.branch [
      | then-is_there w ↦
          let lt = there_within path n (files_of xs) (sym is ∙ w.if-is_there.true) in
          let below : n < length xs = omega (arith, lt, len) in
          search rules
      | else-is_there w ↦
          let le = place_within path (files_of xs) in
          let within : n ≤ length xs = omega (arith, le, len, at) in
          search rules
    ]

pub returns : goal.returns
returns c =
    let xs = c.args.files.now.items in
    let path = string_bytes c.args.path in
    let x : String Global × Vec ℕ = (c.args.path, c.args.bytes) in
    let n = c.place_for-place.result in
    let at : n ≡ place_for path (files_of xs) =
    c.place_for-place.ensures
    ∙ ap (λ (p : Path). place_for p (files_of c.as_slice.result.now)) c.as_str.ensures.value
    ∙ ap (λ (ys : List (String Global × Vec ℕ)). place_for path (files_of ys)) c.as_slice.ensures.value in
    let is : c.is_there.result ≡ is_there path n (files_of xs) =
    c.is_there.ensures
    ∙ ap (λ (p : Path). is_there p n (files_of c.as_slice-2.result.now)) c.as_str-2.ensures.value
    ∙ ap (λ (ys : List (String Global × Vec ℕ)). is_there path n (files_of ys)) c.as_slice-2.ensures.value in
    let put : c.insert.new.self.items ≡ insert c.if-is_there.files.items n x = c.in_ok-insert.ensures.items in
    ap files_of put
    ∙ elim c.if-is_there.branch [
      | then-is_there w ↦
          let left : c.if-is_there.files.items ≡ remove xs n = search rules in
          ap (λ (ys : List (String Global × Vec ℕ)). files_of (insert ys n x)) left ∙ laid_there xs x n at (sym is ∙ w.if-is_there.true)
      | else-is_there w ↦
          let left : c.if-is_there.files.items ≡ xs = search rules in
          ap (λ (ys : List (String Global × Vec ℕ)). files_of (insert ys n x)) left ∙ laid_between xs x n at (sym is ∙ w.if-is_there.false)
    ]
