use Rattle.std.proofs.Common.{◌≡◌, ◌+◌, ◌<◌, ◌++◌, All, AllPairs, [], ◌∷◌, ℕ, List, get_or, length, map, string_bytes, sym, subst, ap, ◌∙◌, arith, rules}
use Rattle.std.proofs.lemmas.List.Elements.{All-push}
use Rattle.std.proofs.lemmas.List.Quantifiers.{all_pairs_push}
use Rattle.proto_base.proofs.Common.{All-weaker, Vec, get_or_default, length-map, map-append}
use Rattle.proto_base.specs.Texts.{Text}
use Rattle.proto_edit_entries.specs.Putting.{with_texts}
use Rattle.proto_files.specs.GivenFiles.{file_at, no_file}
use Rattle.proto_session_files.proofs.OtherTexts.{is_given, kept_more, set_more}
use Rattle.proto_session_files.proofs.compiling.other_texts.Goals as goal
use Rattle.proto_session_files.proofs.compiling.other_texts.Goals.{else-ne-3, then-ne-3+in_ok-from_slice+in_ok-push+in_ok-push-2}

pub loop-place-preserved : goal.loop-place-preserved
loop-place-preserved c =
    let w = c.args.files.now in
    let xs = c.args.seen.now in
    let i = c.loop-place.place in
    let x = c.index-seen-place.result in
    let f = file_at w i in
    let before = c.loop-place.invariant in
    let l : i < length w = search rules in
    let m : i < length xs = omega (arith, l, before.long) in
    let at : x ≡ get_or xs i x = search rules in
    let here : f ≡ get_or w i f = get_or_default w i no_file f l in
    let path : f.path ≡ string_bytes x.0 = search rules in
    let profile : f.profile ≡ c.args.profile = search rules in
    elim c.if-ne-3.branch [
      | then-ne-3+in_ok-from_slice+in_ok-push+in_ok-push-2 b ↦
          let old = c.loop-place.texts.items in
          let own = c.loop-place.places.items in
          let v = b.in_ok-from_slice.field-0 in
          let ps : c.if-ne-3.places.items ≡ own ++ i ∷ [] = search rules in
          let grown : c.if-ne-3.texts.items ≡ old ++ v ∷ [] = search rules in
          let copied : v.items ≡ x.1.items = search rules in
          let ts : map (λ (t : Vec ℕ). t.items) c.if-ne-3.texts.items ≡ map (λ (t : Vec ℕ). t.items) old ++ x.1.items ∷ [] =
          ap (λ (vs : List (Vec ℕ)). map (λ (t : Vec ℕ). t.items) vs) grown
          ∙ map-append (λ (t : Vec ℕ). t.items) old (v ∷ [])
          ∙ ap (λ (bytes : Text). map (λ (t : Vec ℕ). t.items) old ++ bytes ∷ []) copied in
          let paired : length (map (λ (t : Vec ℕ). t.items) old) ≡ length own = length-map old (λ (t : Vec ℕ). t.items) ∙ before.paired in
          record {
            long = before.long;
            whole =
                ap (λ (ns : List ℕ). with_texts w ns (map (λ t. t.items) c.if-ne-3.texts.items)) ps
                ∙ ap (λ (bs : List Text). with_texts w (c.loop-place.places.items ++ i ∷ []) bs) ts
                ∙ set_more c.args.profile w xs i x f l m at here c.loop-place.places.items (map (λ t. t.items) c.loop-place.texts.items) paired before.whole (sym path) (sym profile);
            within = subst (All (λ (p : ℕ). p < i + 1)) (sym ps) (All-push (λ (p : ℕ). p < i + 1) own i (All-weaker (λ (p : ℕ). p < i) (λ (p : ℕ). p < i + 1) (λ p h. omega (arith, h)) own before.within) (omega arith));
            rising = subst (AllPairs (λ (p q : ℕ). p < q)) (sym ps) (all_pairs_push (λ (p q : ℕ). p < q) own i before.rising (λ k d lt. before.within k d lt));
            paired = search rules;
          }
      | else-ne-3 b ↦
          let bytes : f.bytes ≡ x.1.items = search rules in
          let ps : c.if-ne-3.places.items ≡ c.loop-place.places.items = search rules in
          let ts : c.if-ne-3.texts.items ≡ c.loop-place.texts.items = search rules in
          record {
            long = before.long;
            whole = rw (ps, ts) (before.whole ∙ kept_more c.args.profile w xs i x f l m at here (is_given c.args.profile f x path profile bytes));
            within = search rules;
            rising = search rules;
            paired = search rules;
          }
    ]
