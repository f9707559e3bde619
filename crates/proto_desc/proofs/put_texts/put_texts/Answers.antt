use Rattle.std.proofs.Common.{◌≡◌, ℕ, ◌<◌, ◌+◌, List, [], ◌∷◌, ◌++◌, length, get_or, map, sym, ap, ◌∙◌, subst, arith, rules, is_ok, if◌then◌else◌, All}
use Rattle.std.specs.Prelude.{vec_len}
use Rattle.proto_base.proofs.Common.{All-push, YieldsList-from_vec, YieldsList-turn, length_push, map_push}
use Rattle.proto_files.proofs.Common.{file_at, FileOf}
use Rattle.proto_files.specs.GivenFiles.{no_file}
use Rattle.proto_files.proofs.FirstErrors.{given_at}
use Rattle.proto_desc.specs.NewTexts.{IsReadText, TextAt, read_text, with_all, with_old, with_text}
use Rattle.proto_desc.specs.declared.texts.ReadText.{ReadText}
use Rattle.proto_desc.proofs.WithTexts.{length-with_all, profile_stays, still_read, text_and_back, with_more, with_older}
use Rattle.proto_desc.proofs.put_texts.put_texts.Goals as goal

-- one is put, and what stood there is noted behind the others
put_one : (files now next : List FileOf) (old : List ReadText) (yielded : List ReadText) (t was : ReadText) → t.place < length now → next ≡ with_text now (read_text t) → was.place ≡ t.place → was.source ≡ (file_at now t.place).bytes → now ≡ with_all files (map read_text yielded) → with_old (map read_text old) now ≡ files
    → (next ≡ with_all files (map read_text (yielded ++ t ∷ []))) × (with_old (map read_text (old ++ was ∷ [])) next ≡ files)
put_one files now next old yielded t was within put place source is back = (
  put ∙ ap (λ (fs : List FileOf). with_text fs (read_text t)) is ∙ sym (with_more files (map read_text yielded) (read_text t)) ∙ ap (with_all files) (sym (map_push read_text yielded t)),
  ap (λ (os : List TextAt). with_old os next) (map_push read_text old was)
      ∙ with_older (map read_text old) (read_text was) next
      ∙ ap (with_old (map read_text old)) ((λ i. with_text (put i) (record { place = place i; text = source i })) ∙ text_and_back now (read_text t) within)
      ∙ back,
)

-- the languages stay
languages : (files now : List FileOf) (ts : List TextAt) → now ≡ with_all files ts → (k : ℕ) → (file_at now k).profile ≡ (file_at files k).profile
languages files now ts e k = ap (λ (fs : List FileOf). (file_at fs k).profile) e ∙ profile_stays files ts k no_file

pub put_text-requires-clause-place : goal.put_text-requires-clause-place
put_text-requires-clause-place c =
    let all = YieldsList-from_vec c.args.texts.items (search rules) (search rules) in
    let turn = YieldsList-turn all c.loop-text.yielded _ c.loop-text.yielded_by _ c.next.new.self c.in-Some.text c.in-Some.is c.next.ensures.steps in
    let at = given_at (λ (t : ReadText). t.place < length c.args.files.now) c.args.texts.items (length c.loop-text.yielded) c.in-Some.text c.requires.places turn in
    let there : c.in-Some.text.place < length c.args.files.now = at in
    omega (arith, there, ap length c.loop-text.invariant.files, length-with_all c.args.files.now (map read_text c.loop-text.yielded))

pub put_text-requires-clause-read : goal.put_text-requires-clause-read
put_text-requires-clause-read c =
    let all = YieldsList-from_vec c.args.texts.items (search rules) (search rules) in
    let turn = YieldsList-turn all c.loop-text.yielded _ c.loop-text.yielded_by _ c.next.new.self c.in-Some.text c.in-Some.is c.next.ensures.steps in
    still_read c.args.files.now c.loop-text.files c.in-Some.text (languages c.args.files.now c.loop-text.files (map read_text c.loop-text.yielded) c.loop-text.invariant.files)
    (given_at (IsReadText c.args.files.now) c.args.texts.items (length c.loop-text.yielded) c.in-Some.text c.requires.read turn)

pub unwrap-requires : goal.unwrap-requires
unwrap-requires c =
    let all = YieldsList-from_vec c.args.texts.items (search rules) (search rules) in
    let turn = YieldsList-turn all c.loop-text.yielded _ c.loop-text.yielded_by _ c.next.new.self c.in-Some.text c.in-Some.is c.next.ensures.steps in
    let lt : length c.loop-text.yielded < length c.args.texts.items = turn.0 in
    c.push.ensures.succeeds (omega (arith, lt, c.loop-text.invariant.len, c.loop-text.invariant.room))

pub loop-text-preserved : goal.loop-text-preserved
loop-text-preserved c =
    let files = c.args.files.now in
    let now = c.loop-text.files in
    let text = c.in-Some.text in
    let was = c.put_text.result in
    let old = c.loop-text.old.items in
    let all = YieldsList-from_vec c.args.texts.items (search rules) (search rules) in
    let turn = YieldsList-turn all c.loop-text.yielded _ c.loop-text.yielded_by _ c.next.new.self text c.in-Some.is c.next.ensures.steps in
    let at = given_at (λ (t : ReadText). t.place < length files) c.args.texts.items (length c.loop-text.yielded) text c.requires.places turn in
    let there : text.place < length files = at in
    let within : text.place < length now = omega (arith, there, ap length c.loop-text.invariant.files, length-with_all files (map read_text c.loop-text.yielded)) in
    let noted : c.push.new.self.items ≡ old ++ was ∷ [] = c.push.ensures.items ∙ ap (λ r. if is_ok r then old ++ was ∷ [] else old) c.unwrap.ensures in
    let one = put_one files now c.put_text.new.files old c.loop-text.yielded text was within c.put_text.ensures.files c.put_text.ensures.place c.put_text.ensures.source c.loop-text.invariant.files c.loop-text.invariant.back in
    record {
      files = one.0;
      back = ap (λ rs. with_old (map read_text rs) c.put_text.new.files) noted ∙ one.1;
      places = subst (λ rs. All (λ (t : ReadText). t.place < length files) rs) (sym noted) (All-push (λ (t : ReadText). t.place < length files) old was c.loop-text.invariant.places (omega (arith, there, c.put_text.ensures.place)));
      read = subst (λ rs. All (IsReadText files) rs) (sym noted) (All-push (IsReadText files) old was c.loop-text.invariant.read (still_read now files was (λ k. sym (languages files now (map read_text c.loop-text.yielded) c.loop-text.invariant.files k)) c.put_text.ensures.read));
      len = omega (arith, c.push.ensures.len ∙ ap (λ r. if is_ok r then vec_len c.loop-text.old + 1 else vec_len c.loop-text.old) c.unwrap.ensures, c.loop-text.invariant.len, length_push c.loop-text.yielded text);
      room = omega (arith, c.push.ensures.capacity, c.loop-text.invariant.room);
    }

pub returns-clause-places : goal.returns-clause-places
returns-clause-places c = λ k d l. omega (arith, c.loop-text.invariant.places k d l, ap length c.loop-text.invariant.files, length-with_all c.args.files.now (map read_text c.loop-text.yielded))

pub returns-clause-read : goal.returns-clause-read
returns-clause-read c = λ k d l.
    still_read c.args.files.now c.loop-text.files (get_or c.loop-text.old.items k d) (languages c.args.files.now c.loop-text.files (map read_text c.loop-text.yielded) c.loop-text.invariant.files) (c.loop-text.invariant.read k d l)
