use Rattle.std.proofs.Common.{◌++◌, refl, sym, arith, append-nil}
use Rattle.proto_tree.specs.File.{extension_tree}
use Rattle.proto_names_outline.specs.Common.{settings_uses, type_uses}
use Rattle.proto_names_outline.proofs.Growing.{adds_as, adds_turn, adds_end}
use Rattle.proto_names_outline.proofs.Listed.{inner_uses, extensions_placed, extensions_parted}
use Rattle.proto_names_outline.proofs.extend_listing.list_extensions.Goals as goal

pub loop-extension-preserved : goal.loop-extension-preserved
loop-extension-preserved c = record {
  within = omega (arith, c.in_ok-list_extension.ensures.grown, c.loop-extension.invariant.within);
  rest = λ final rest. c.loop-extension.invariant.rest final (adds_turn extension_tree extensions_placed inner_uses extensions_parted c.args.extensions.now c.loop-extension.extension-index c.extension-item.result (omega arith) c.extension-item.is (adds_as c.in_ok-list_extension.ensures (λ path. refl) (λ path. sym (append-nil (type_uses path c.extension-item.result.field.kind ++ settings_uses path c.extension-item.result.field.settings)))) rest c.loop-extension.invariant.within);
}

pub returns : goal.returns
returns c = c.loop-extension.invariant.rest c.loop-extension.listing (adds_end extension_tree extensions_placed inner_uses extensions_parted c.args.extensions.now c.loop-extension.extension-index (omega arith) c.loop-extension.listing c.args.above)
