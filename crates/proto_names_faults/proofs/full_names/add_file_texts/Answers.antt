use Rattle.std.proofs.Common.{◌≡◌, ◌+◌, ◌++◌, ◌≤◌, ℕ, List, [], drop, length, map, refl, sym, ◌∙◌, ap, subst, arith, append-nil, length-drop, take_all}
use Rattle.proto_names_outline.specs.Listing.{needs}
use Rattle.proto_names_table.specs.Spelled.{named_on}
use Rattle.proto_names_faults.specs.Common.{NamedText, name_at, shown}
use Rattle.proto_names_faults.proofs.FullNames.{texts_turn}
use Rattle.proto_names_faults.proofs.full_names.add_file_texts.Goals as goal

pub loop-one-init : goal.loop-one-init
loop-one-init c = record { len = omega arith; names = sym (append-nil (map shown c.args.all.now.items)) }

pub split_at-requires : goal.split_at-requires
split_at-requires c = omega (arith, c.len-first.ensures, c.args.all.now.ok.0, ap length c.as_slice.ensures.value, c.loop-one.invariant.len)

pub full_text-requires : goal.full_text-requires
full_text-requires c =
    let ordered = subst (λ s. needs s.above ≤ c.loop-one.one-index) (sym c.one-item.is) (c.requires.ordered c.loop-one.one-index c.one-item.result c.loop-one-test.true) in
    omega (arith, ordered, ap length c.split_at.ensures.back, length-drop c.len-first.result c.as_slice.result.now, c.len-first.ensures, c.args.all.now.ok.0, ap length c.as_slice.ensures.value, c.loop-one.invariant.len)

pub loop-one-preserved : goal.loop-one-preserved
loop-one-preserved c =
    let s = c.one-item.result in
    let old = c.args.all.now.items in
    let all = c.loop-one.all.items in
    let text = c.in_ok-text.text in
    let new : NamedText = record { text = text; kind = s.kind; file = c.args.file; token = s.token } in
    let first : c.len-first.result ≡ length old = c.len-first.ensures ∙ c.args.all.now.ok.0 in
    let own : c.split_at.result.1.now ≡ drop (length old) all = c.split_at.ensures.back ∙ ap (λ (k : ℕ). drop k c.as_slice.result.now) first ∙ ap (λ (ts : List NamedText). drop (length old) ts) c.as_slice.ensures.value in
    record {
      len = omega (arith, c.loop-one.invariant.len, c.in_ok-push.ensures.len, c.loop-one.all.ok.0, c.push.new.self.ok.0);
      names = texts_turn c.args.file c.args.spelled.now c.loop-one.one-index s old all c.push.new.self.items c.split_at.result.1.now new c.requires c.loop-one-test.true c.one-item.is own c.loop-one.invariant.names c.in_ok-push.ensures.items
          c.in_ok-text.ensures refl refl refl;
    }

pub returns : goal.returns
returns c = c.loop-one.invariant.names ∙ ap (λ ss. map shown c.args.all.now.items ++ map name_at (named_on c.args.file [] ss)) (take_all c.loop-one.one-index c.args.spelled.now c.loop-one-test.false)
