use Rattle.std.proofs.Common.{◌≡◌, ℕ, ◌<◌, List, [], ◌∷◌, ◌++◌, get_or, length, map, sym, ap, ◌∙◌, arith, rules}
use Rattle.proto_base.proofs.Common.{Vec, YieldsList-from_vec, YieldsList-turn, get_or_default, length-map, length_push, map_push}
use Rattle.proto_desc.specs.NewTexts.{TextAt, given_text, texts_at}
use Rattle.proto_desc.specs.declared.texts.GivenText.{GivenText}
use Rattle.proto_desc.proofs.WithTexts.{no_texts, one_more_text}
use Rattle.proto_desc.proofs.new_texts.texts_at.Goals as goal

pub loop-bytes-init : goal.loop-bytes-init
loop-bytes-init c = record {
  len = ap length c.new-given.ensures.items;
  same = ap (map given_text) c.new-given.ensures.items ∙ sym (no_texts c.args.places.now);
}

-- one text more, with the place that stands where the next is
more : (places : List ℕ) (given news : List GivenText) (yielded : List (Vec ℕ)) (bytes : Vec ℕ) (n : ℕ) → n ≡ length yielded → length yielded < length places → news ≡ given ++ record { place = get_or places n 0; bytes = bytes } ∷ [] → map given_text given ≡ texts_at places (map (λ (t : Vec ℕ). t.items) yielded)
    → map given_text news ≡ texts_at places (map (λ (t : Vec ℕ). t.items) (yielded ++ bytes ∷ []))
more places given news yielded bytes n e lt is same =
    let texts = map (λ (t : Vec ℕ). t.items) yielded in
    let place = get_or places n 0 in
    let long : length texts ≡ length yielded = length-map yielded (λ (t : Vec ℕ). t.items) in
    let there : place ≡ get_or places (length texts) place = get_or_default places n 0 place (omega (arith, e, lt)) ∙ ap (λ m. get_or places m place) (e ∙ sym long) in
    ap (map given_text) is
    ∙ map_push given_text given (record { place = place; bytes = bytes })
    ∙ ap (λ (ts : List TextAt). ts ++ record { place = place; text = bytes.items } ∷ []) same
    ∙ sym (one_more_text places texts place bytes.items (omega (arith, long, lt)) there)
    ∙ ap (texts_at places) (sym (map_push (λ (t : Vec ℕ). t.items) yielded bytes))

pub loop-bytes-preserved : goal.loop-bytes-preserved
loop-bytes-preserved c =
    let all = YieldsList-from_vec c.args.texts.items (search rules) (search rules) in
    let turn = YieldsList-turn all c.loop-bytes.yielded _ c.loop-bytes.yielded_by _ c.next.new.self c.in-Some.bytes c.in-Some.is c.next.ensures.steps in
    let lt : length c.loop-bytes.yielded < length c.args.texts.items = turn.0 in
    let given = c.loop-bytes.given.items in
    let one : GivenText = record { place = get_or c.args.places.now c.len.result 0; bytes = c.in-Some.bytes } in
    record {
      len = omega (arith, ap length c.in_ok-push.ensures.items, length_push given one, length_push c.loop-bytes.yielded c.in-Some.bytes, c.loop-bytes.invariant.len);
      same =
          more c.args.places.now given c.push.new.self.items c.loop-bytes.yielded c.in-Some.bytes c.len.result
          (omega (arith, c.len.ensures, c.loop-bytes.given.ok, c.loop-bytes.invariant.len)) (omega (arith, lt, c.requires))
          c.in_ok-push.ensures.items c.loop-bytes.invariant.same;
    }
