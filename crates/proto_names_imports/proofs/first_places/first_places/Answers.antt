use Rattle.std.proofs.Common.{◌≡◌, ◌<◌, ◌+◌, ◌-◌, [], Some, length, map, drop, option_map, string_bytes, sym, ◌∙◌, subst, arith}
use Rattle.proto_base.proofs.Common.{get_or-map, length-map, hash_map_updates_text}
use Rattle.indexmap.specs.IndexMap.{get_by_text}
use Rattle.proto_names_rules.specs.Faults.{file_with_path}
use Rattle.proto_names_imports.proofs.Resolving.{index_step}
use Rattle.proto_names_imports.proofs.first_places.first_places.Goals as goal

pub loop-place-preserved : goal.loop-place-preserved
loop-place-preserved c =
    let low : c.loop-place.place - 1 < length c.args.texts.now = omega (arith, c.loop-place-test.true, c.loop-place.invariant.within) in
    let up : c.loop-place.place ≡ c.loop-place.place - 1 + 1 = omega (arith, c.loop-place-test.true) in
    let ps = map (λ p. p.now) c.args.texts.now in
    record {
      within = omega (arith, low);
      index = λ path.
          (let old = subst (λ n. get_by_text c.loop-place.index path ≡ option_map (λ k. k + n) (file_with_path (drop n ps) path)) up (c.loop-place.invariant.index path) in
          index_step ps (c.loop-place.place - 1) path (string_bytes c.in_ok-text.text) (get_by_text c.loop-place.index path) (get_by_text c.insert.new.self path) (omega (arith, low, length-map c.args.texts.now (λ p. p.now)))
          (c.in_ok-text.ensures.ok ∙ sym (get_or-map (λ p. p.now) c.args.texts.now (c.loop-place.place - 1) (record { ref_ptr = (0, 0); now = [] }) [] low)) old (hash_map_updates_text (string_bytes c.in_ok-text.text) c.loop-place.index c.insert.new.self (Some (c.loop-place.place - 1)) c.in_ok-insert.ensures.updates path));
    }
