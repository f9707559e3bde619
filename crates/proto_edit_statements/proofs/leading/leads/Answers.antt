use Rattle.std.proofs.Common.{◌≡◌, ◌↔◌, ◌<◌, ℕ, List, [], get_or, length, map, refl, sym, ◌∙◌, ap, subst, All, Contains}
use Rattle.proto_base.proofs.Common.{get_or-map}
use Rattle.proto_names_rules.proofs.Common.{Leads, stop}
use Rattle.proto_names_imports.proofs.Common.{all_imports, IsMarked}
use Rattle.proto_names_imports.specs.declared.import.FileImport.{FileImport}
use Rattle.proto_edit_statements.proofs.LeadingOwn.{leads_by_own, own_leads}
use Rattle.proto_edit_statements.proofs.leading.leads.Goals as goal

pub returns-then-from-to : goal.returns-then-from-to
returns-then-from-to c =
    let is = map (λ v. v.items) c.args.imports.now in
    (λ _. subst (λ z. Leads (all_imports 0 is) c.args.from z) c.if-from-to.true stop, λ _. refl)

pub files_led_to-requires-clause-first : goal.files_led_to-requires-clause-first
files_led_to-requires-clause-first c =
    let own = c.deref.ensures.value ∙ ap (λ v. v.items) c.index-imports-from.is in
    subst (All (λ (i : FileImport). i.to < length c.args.imports.now)) (sym own) (c.requires.within c.args.from c.index-imports-from.result c.requires.from)

pub returns : goal.returns
returns c =
    let items = c.args.imports.now in
    let is = map (λ v. v.items) items in
    let from = c.args.from in
    let own : c.deref.result.now ≡ get_or is from [] = c.deref.ensures.value ∙ ap (λ v. v.items) c.index-imports-from.is ∙ sym (get_or-map (λ v. v.items) items from c.index-imports-from.result [] c.requires.from) in
    let led = subst (λ (z : List FileImport). (g : ℕ) → IsMarked c.in_ok-led_to.led_to g ↔ ((i : FileImport) × Contains z i × Leads (all_imports 0 is) i.to g)) own c.in_ok-led_to.ensures c.args.to in (
      λ t. own_leads is from c.args.to (led.0 (sym c.contains.ensures ∙ t)),
      λ h. c.contains.ensures ∙ led.1 (leads_by_own is from h refl c.if-from-to.false),
    )
