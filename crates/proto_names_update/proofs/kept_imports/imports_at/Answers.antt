use Rattle.std.proofs.Common.{◌≡◌, ◌+◌, ◌<◌, List, [], ◌∷◌, ◌++◌, length, get_or, map, sym, ◌∙◌, ap, subst, arith, length-append, All, IfSome}
use Rattle.std.proofs.lemmas.List.{get_or_append_left, get_or_push}
use Rattle.proto_base.proofs.Common.{All-push, Vec, length-map, map-append}
use Rattle.proto_files.specs.FilesRead.{AreRead, ReadOf}
use Rattle.proto_names_imports.specs.Laws.{AreImportsOf}
use Rattle.proto_names_imports.specs.declared.import.FileImport.{FileImport}
use Rattle.proto_names_update.proofs.Places.{before_more}
use Rattle.proto_names_update.proofs.kept_imports.imports_at.Goals as goal

pub loop-place-preserved : goal.loop-place-preserved
loop-place-preserved c =
    let i = c.loop-place.invariant in
    let files = c.args.files.now in
    let places = c.args.places.now in
    let k = c.loop-place.place-index in
    let lists = c.loop-place.lists.items in
    let seen = map (λ (v : Vec FileImport). v.items) lists in
    let own = c.in-Some.own in
    let items : c.push.new.self.items ≡ lists ++ own ∷ [] = c.in_ok-push-in-Some.ensures.items in
    let next : map (λ (v : Vec FileImport). v.items) c.push.new.self.items ≡ seen ++ own.items ∷ [] = ap (map (λ (v : Vec FileImport). v.items)) items ∙ map-append (λ (v : Vec FileImport). v.items) lists (own ∷ []) in
    let size : length seen ≡ k = length-map lists (λ v. v.items) ∙ i.len in
    let imports = subst (λ o. IfSome o (λ (v : Vec FileImport). (reads : List ReadOf) → AreRead files reads → AreImportsOf files reads (get_or places k 0) v.items)) c.in-Some.is c.in_ok-own.ensures.imports in
    let within = subst (λ o. IfSome o (λ (v : Vec FileImport). All (λ x. x.to < length files) v.items)) c.in-Some.is c.in_ok-own.ensures.within in
    record {
      len = omega (arith, ap length items, length-append lists (own ∷ []), i.len);
      within = subst (All (λ (v : Vec FileImport). All (λ x. x.to < length files) v.items)) (sym items) (All-push (λ (v : Vec FileImport). All (λ x. x.to < length files) v.items) lists own i.within within);
      each = λ reads are.
          before_more (λ j. AreImportsOf files reads (get_or places j 0) (get_or (map (λ (v : Vec FileImport). v.items) c.push.new.self.items) j [])) k
          (λ j l. subst (AreImportsOf files reads (get_or places j 0)) (sym (ap (λ z. get_or z j []) next ∙ get_or_append_left seen (own.items ∷ []) [] j (omega (arith, l, size)))) (i.each reads are j l))
          (subst (AreImportsOf files reads (get_or places k 0)) (sym (ap (λ z. get_or z k []) next ∙ get_or_push seen own.items [] k size)) (imports reads are));
    }

pub returns-clause-len : goal.returns-clause-len
returns-clause-len c = omega (arith, c.loop-place.invariant.len, c.loop-place-test.false, c.loop-place.auto.place-index-end)

pub returns-clause-imports : goal.returns-clause-imports
returns-clause-imports c = λ reads are. record { each = λ k l. c.loop-place.invariant.each reads are k (omega (arith, l, c.loop-place-test.false)) }

pub returns-in-None-clause-rebuild : goal.returns-in-None-clause-rebuild
returns-in-None-clause-rebuild c = λ rebuild reads are. record { at = c.loop-place.place-index; within = c.loop-place-test.true; unsound = c.in_ok-own.ensures.none c.in-None.is reads are }
