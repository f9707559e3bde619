use Rattle.std.proofs.Common.{◌∙◌, arith}
use Rattle.proto_names_rules.specs.declared.kind.Kind.TheVariants.{Entry}
use Rattle.proto_names_rules.proofs.Common.{EntryOf, key_word, value_word}
use Rattle.proto_names_outline.specs.Common.{Below, path_of, read}
use Rattle.proto_names_outline.proofs.Growing.{adds_then, adds_below, path_below, stable, entry_last, given_last}
use Rattle.proto_names_outline.proofs.field_listing.list_entry.Goals as goal

pub add-requires : goal.add-requires
add-requires c = record { within = omega arith; token = entry_last (path_of (read c.args.listing.now.declared.items) c.args.scope) c.args.token }

pub add-requires-2 : goal.add-requires-2
add-requires-2 c =
    let above = path_of (read c.args.listing.now.declared.items) c.args.scope in
    record {
      within = omega (arith, c.in_ok-index.ensures.index.1);
      token = given_last _ above c.args.token key_word (path_below (EntryOf c.args.token) Entry c.in_ok-index.index c.in_ok-index.ensures.adds c.in_ok-index.ensures.index.0);
    }

pub add-requires-3 : goal.add-requires-3
add-requires-3 c =
    let above = path_of (read c.args.listing.now.declared.items) c.args.scope in
    let same = stable c.in_ok-add.ensures.adds (Below c.in_ok-index.index) (omega (arith, c.in_ok-index.ensures.index.1)) in
    record {
      within = omega (arith, c.in_ok-index.ensures.index.1, c.in_ok-add.ensures.adds.grown);
      token = given_last _ above c.args.token value_word (same ∙ path_below (EntryOf c.args.token) Entry c.in_ok-index.index c.in_ok-index.ensures.adds c.in_ok-index.ensures.index.0);
    }

pub returns : goal.returns
returns c = adds_below (EntryOf c.args.token) Entry c.in_ok-index.index c.in_ok-index.ensures.adds c.in_ok-index.ensures.index.0 (adds_then c.in_ok-add.ensures.adds c.in_ok-add-2.ensures.adds (omega (arith, c.in_ok-index.ensures.index.1)))
