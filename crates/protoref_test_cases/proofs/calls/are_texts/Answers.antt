use Rattle.std.proofs.Common.{rules, ◌≡◌, ◌∙◌, sym, ap, ℕ, ◌+◌, ◌<◌, Bool, true, false, ◌&&◌, List, length, map, drop, get_or, arith, Bor, []}
use Rattle.std.specs.Cmp.Lexicographic.{pointwise}
use Rattle.protoref_test_cases.specs.Rows.{is_file, row_file}
use Rattle.proto_files.specs.GivenFiles.{FileOf}
use Rattle.protoref_test_cases.proofs.Lists.{same_from}
use Rattle.protoref_test_cases.proofs.calls.are_texts.Goals as goal
use Rattle.proto_files.specs.GivenFiles.{no_file}

pub returns-then-not-is_text : goal.returns-then-not-is_text
returns-then-not-is_text c =
    let files = c.args.workspace.now in
    let texts = c.args.texts.now in
    let place = c.loop-place.place in
    let row : Bor (List ℕ) × Bor (List ℕ) → FileOf = λ t. row_file t.0.now t.1.now in
    let none : FileOf = no_file in
    let nowhere : Bor (List ℕ) = record { ref_ptr = (0, 0); now = [] } in
    let behind = pointwise is_file (drop (place + 1) files) (drop (place + 1) (map row texts)) in
    let told : List FileOf → Bool = λ fs. is_file (get_or fs place none) (row (get_or texts place (nowhere, nowhere))) in
    let within : place < length texts = c.loop-place-test.true in
    let below : place < length files = omega (arith, c.loop-place.invariant.0, c.loop-place-test.true) in
    let other : is_file (get_or files place none) (row (get_or texts place (nowhere, nowhere))) ≡ false = ap told (sym c.files-files.ensures.files) ∙ sym c.is_text.ensures ∙ search (rules, c.if-not-is_text.true) in
    sym (c.loop-place.invariant.1 ∙ same_from is_file row files texts place none (nowhere, nowhere) below within ∙ ap (λ b. b && behind) other)

pub loop-place-preserved : goal.loop-place-preserved
loop-place-preserved c =
    let files = c.args.workspace.now in
    let texts = c.args.texts.now in
    let place = c.loop-place.place in
    let row : Bor (List ℕ) × Bor (List ℕ) → FileOf = λ t. row_file t.0.now t.1.now in
    let none : FileOf = no_file in
    let nowhere : Bor (List ℕ) = record { ref_ptr = (0, 0); now = [] } in
    let behind = pointwise is_file (drop (place + 1) files) (drop (place + 1) (map row texts)) in
    let told : List FileOf → Bool = λ fs. is_file (get_or fs place none) (row (get_or texts place (nowhere, nowhere))) in
    let within : place < length texts = c.loop-place-test.true in
    let below : place < length files = omega (arith, c.loop-place.invariant.0, c.loop-place-test.true) in
    let same : is_file (get_or files place none) (row (get_or texts place (nowhere, nowhere))) ≡ true = ap told (sym c.files-files.ensures.files) ∙ sym c.is_text.ensures ∙ search (rules, c.if-not-is_text.false) in
    (c.loop-place.invariant.0, c.loop-place.invariant.1 ∙ same_from is_file row files texts place none (nowhere, nowhere) below within ∙ ap (λ b. b && behind) same)
