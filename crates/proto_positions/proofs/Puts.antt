-- Edits of a text as text edits.
use Rattle.std.proofs.Common.{◌≡◌, ℕ, ◌+◌, List, [], ◌∷◌, ◌++◌, length, take, drop, map, refl, sym, ap, ◌∙◌, arith, append_assoc, take_at, drop_at, length-append}
use Rattle.std.specs.List.{AllByRecursion}
use Rattle.proto_text.specs.Edits.{Edit, IsCut, Puts}
use Rattle.proto_positions.specs.declared.encoding.Encoding.{Encoding}
use Rattle.proto_positions.specs.Positions.{offset_of, position_of}
use Rattle.proto_positions.specs.TextEdits.{HavePositions, TextEditsPut, lsp_put, text_edit}
use Rattle.proto_positions.proofs.Walks.{positions_lead_back}

puts_after : (e : Encoding) (text prefix rest : List ℕ) (from : ℕ) (new : List ℕ) (es : List Edit) → text ≡ prefix ++ rest → length prefix ≡ from
    → Puts from rest es new → AllByRecursion (HavePositions text) es → lsp_put e text (map (text_edit e text) es) ≡ prefix ++ new
puts_after e text prefix rest from new [] is len p all = is ∙ ap (λ (t : List ℕ). prefix ++ t) (sym p)
puts_after e text prefix rest from new (d ∷ ds) is len p all =
    let kept : List ℕ = p.0 in
    let after : List ℕ = p.1 in
    let more : List ℕ = p.2 in
    let cut : IsCut rest from d.at d.old kept after = p.3 in
    let done : List ℕ = lsp_put e text (map (text_edit e text) ds) in
    let at : length (prefix ++ kept) ≡ d.at = omega (arith, length-append prefix kept, cut.1, len) in
    let end : length (prefix ++ (kept ++ d.old)) ≡ d.at + length d.old = omega (arith, length-append prefix (kept ++ d.old), length-append kept d.old, cut.1, len) in
    let whole : text ≡ (prefix ++ (kept ++ d.old)) ++ after = is ∙ ap (λ (t : List ℕ). prefix ++ t) (cut.0 ∙ sym (append_assoc kept d.old after)) ∙ sym (append_assoc prefix (kept ++ d.old) after) in
    let rest_put : done ≡ (prefix ++ (kept ++ d.old)) ++ more = puts_after e text (prefix ++ (kept ++ d.old)) after (d.at + length d.old) more ds whole end p.5 all.1 in
    let regrouped : done ≡ (prefix ++ kept) ++ (d.old ++ more) = rest_put ∙ append_assoc prefix (kept ++ d.old) more ∙ ap (λ (t : List ℕ). prefix ++ t) (append_assoc kept d.old more) ∙ sym (append_assoc prefix kept (d.old ++ more)) in
    let begins : offset_of e text (position_of e text d.at) ≡ d.at = positions_lead_back e text d.at all.0.0 in
    let ends : offset_of e text (position_of e text (d.at + length d.old)) ≡ d.at + length d.old = positions_lead_back e text (d.at + length d.old) all.0.1 in
    let taken : take (offset_of e text (position_of e text d.at)) done ≡ prefix ++ kept =
    ap (λ n. take n done) begins ∙ ap (take d.at) regrouped ∙ take_at (prefix ++ kept) (d.old ++ more) d.at at in
    let left : drop (offset_of e text (position_of e text (d.at + length d.old))) done ≡ more =
    ap (λ n. drop n done) ends ∙ ap (drop (d.at + length d.old)) rest_put ∙ drop_at (prefix ++ (kept ++ d.old)) more (d.at + length d.old) end in
    ap (λ (t : List ℕ). t ++ (d.new ++ drop (offset_of e text (position_of e text (d.at + length d.old))) done)) taken
    ∙ ap (λ (t : List ℕ). (prefix ++ kept) ++ (d.new ++ t)) left
    ∙ append_assoc prefix kept (d.new ++ more)
    ∙ ap (λ (t : List ℕ). prefix ++ t) (sym p.4)

pub text_edits_put : TextEditsPut
text_edits_put e text new es p all = puts_after e text [] text 0 new es refl refl p all
