use Rattle.std.proofs.Common.{◌≡◌, zero, suc, ◌++◌, All, codes, ap, ◌∙◌, refl, arith, string_bytes}
use Rattle.std.proofs.lemmas.List.Elements.{All-append, All-from_get_or}
use Rattle.percent_encoding.specs.Percent.{percent_encode}
use Rattle.percent_encoding.specs.Iter.{encoded_text}
use Rattle.percent_encoding.proofs.PercentLemmas.{IsByte}
use Rattle.proto_base.specs.Texts.{Text}
use Rattle.proto_uris.specs.Uris.{scheme, uri_below}
use Rattle.proto_uris.specs.declared.TheConstants.{ESCAPED}
use Rattle.proto_uris.proofs.Back.{leads_back}
use Rattle.proto_uris.proofs.uri_of.Goals as goal

slash : All IsByte (codes "/")
slash zero d lt = omega arith
slash (suc k) d lt = absurd (omega arith)

pub returns-clause-exact : goal.returns-clause-exact
returns-clause-exact c =
    c.in_ok-append_to.ensures.ok ∙ ap (λ (t : Text). t ++ encoded_text c.percent_encode.result) c.in_ok-uri.ensures.ok
    ∙ ap (λ (t : Text). scheme ++ t) (c.percent_encode.ensures.text ∙ ap (percent_encode ESCAPED) (c.as_slice.ensures.value ∙ c.in_ok-whole.ensures))

pub returns-clause-back : goal.returns-clause-back
returns-clause-back c = λ root down.
    let is_root : All IsByte c.args.root.now = All-from_get_or IsByte c.args.root.now 0 (λ i within. omega (arith, c.type_inv.root i)) in
    let is_path : All IsByte c.args.path.now = All-from_get_or IsByte c.args.path.now 0 (λ i within. omega (arith, c.type_inv.path i)) in
    let small : All IsByte (c.args.root.now ++ (codes "/" ++ c.args.path.now)) =
    All-append IsByte c.args.root.now (codes "/" ++ c.args.path.now) is_root (All-append IsByte (codes "/") c.args.path.now slash is_path) in
    let uri : string_bytes c.append_to.new.out ≡ uri_below c.args.root.now c.args.path.now =
    c.in_ok-append_to.ensures.ok ∙ ap (λ (t : Text). t ++ encoded_text c.percent_encode.result) c.in_ok-uri.ensures.ok
    ∙ ap (λ (t : Text). scheme ++ t) (c.percent_encode.ensures.text ∙ ap (percent_encode ESCAPED) (c.as_slice.ensures.value ∙ c.in_ok-whole.ensures)) in
    leads_back ESCAPED (record { percent = refl; query = refl; fragment = refl; slash = refl }) c.args.root.now c.args.path.now (string_bytes c.append_to.new.out) small root down uri
