-- What is put has the paths of the files before, and differs from them by the changes.
use Rattle.std.proofs.Common.{◌≡◌, List, [], ◌∷◌, inl, inr, refl, sym, subst}
use Rattle.proto_files.specs.GivenFiles.{FileOf, paths_of}
use Rattle.proto_edit_entries.proofs.Common.{ChangeOf, inverted, AreRising, ArePut, EachPuts, IsEntry, IsPut, put_in_order, rising_back}
use Rattle.proto_edit.specs.Compiled.{AreCompiled}
use Rattle.proto_edit.specs.Workspaces.{Asked, IsMappedStep, IsUndo}
use Rattle.proto_edit.proofs.GivenAgain.{are_short}
use Rattle.proto_journal.specs.Written.{DifferBy}
use Rattle.proto_store.specs.Stores.{languages_of}

each_path : (cs : List ChangeOf) (w after : List FileOf) → EachPuts cs w after → paths_of after ≡ paths_of w
each_path cs [] [] p = refl
each_path cs [] (g ∷ gs) p = absurd p
each_path cs (f ∷ fs) [] p = absurd p
each_path cs (f ∷ fs) (g ∷ gs) p = let rest : paths_of gs ≡ paths_of fs = each_path cs fs gs p.1 in λ i. p.0.path i ∷ rest i

each_language : (cs : List ChangeOf) (w after : List FileOf) → EachPuts cs w after → languages_of after ≡ languages_of w
each_language cs [] [] p = refl
each_language cs [] (g ∷ gs) p = absurd p
each_language cs (f ∷ fs) [] p = absurd p
each_language cs (f ∷ fs) (g ∷ gs) p = let rest : languages_of gs ≡ languages_of fs = each_language cs fs gs p.1 in λ i. p.0.profile i ∷ rest i

pub put_paths : (w after : List FileOf) (cs : List ChangeOf) → IsPut w cs after → paths_of after ≡ paths_of w
put_paths w after cs p = each_path cs w after p.each

pub undo_paths : (w before : List FileOf) (cs : List ChangeOf) → IsUndo w cs before → paths_of before ≡ paths_of w
undo_paths w before cs u = put_paths w before (inverted cs) u.put

pub undo_languages : (w before : List FileOf) (cs : List ChangeOf) → IsUndo w cs before → languages_of before ≡ languages_of w
undo_languages w before cs u = each_language (inverted cs) w before u.put.each

-- ---- the files that differ

walk_differs : (fs : List FileOf) (cs : List ChangeOf) (gs : List FileOf) → ArePut fs cs gs → DifferBy cs fs gs
walk_differs [] cs [] p = tt
walk_differs [] cs (g ∷ gs) p = absurd (none_put g gs p.1)
  where
    none_put : (x : FileOf) (xs : List FileOf) → x ∷ xs ≡ [] → ⊥
    none_put x xs e = cc
walk_differs (f ∷ fs) cs [] p = absurd p
walk_differs (f ∷ fs) [] (g ∷ gs) p = (p.1.0, walk_differs fs [] gs (subst (λ (z : List ChangeOf). ArePut fs z gs) p.1.1 p.2))
walk_differs (f ∷ fs) (c ∷ cs) (g ∷ gs) p = elim p.1 [
  | inl x ↦ inl (x.0, x.1, x.4, walk_differs fs cs gs (subst (λ (z : List ChangeOf). ArePut fs z gs) x.3 p.2))
  | inr x ↦ inr (x.0, x.1, walk_differs fs (c ∷ cs) gs (subst (λ (z : List ChangeOf). ArePut fs z gs) x.2 p.2))
]

put_differs : (w after : List FileOf) (cs : List ChangeOf) → AreCompiled w → AreCompiled after → AreRising cs → IsPut w cs after → DifferBy cs w after
put_differs w after cs from to rising put = walk_differs w cs after (put_in_order w cs after from.workspace.ordered rising (are_short after to) put)

-- changes turned round are of the same files
turned_back : (cs : List ChangeOf) (fs gs : List FileOf) → DifferBy (inverted cs) fs gs → DifferBy cs fs gs
turned_back cs [] [] d = tt
turned_back cs [] (g ∷ gs) d = absurd d
turned_back cs (f ∷ fs) [] d = absurd d
turned_back [] (f ∷ fs) (g ∷ gs) d = (d.0, turned_back [] fs gs d.1)
turned_back (c ∷ cs) (f ∷ fs) (g ∷ gs) (inl d) = inl (d.0, d.1, d.2, turned_back cs fs gs d.3)
turned_back (c ∷ cs) (f ∷ fs) (g ∷ gs) (inr d) = inr (d.0, d.1, turned_back (c ∷ cs) fs gs d.2)

pub step_differs : (w after : List FileOf) (e : Asked) (cs : List ChangeOf) → AreCompiled w → IsEntry cs → IsMappedStep w e cs after → DifferBy cs w after
step_differs w after e cs from is s = put_differs w after cs from s.compiled is.rising s.step.put

pub undo_differs : (w before : List FileOf) (cs : List ChangeOf) → AreCompiled w → IsEntry cs → IsUndo w cs before → DifferBy cs w before
undo_differs w before cs from is u = turned_back cs w before (put_differs w before (inverted cs) from u.compiled (rising_back cs is.rising) u.put)

-- ---- of other names

pub differ_from : (was w will after : List FileOf) (changes cs : List ChangeOf) → was ≡ w → will ≡ after → changes ≡ cs → DifferBy cs w after → DifferBy changes was will
differ_from was w will after changes cs a b c d =
    subst (λ (z : List ChangeOf). DifferBy z was will) (sym c) (subst (λ (z : List FileOf). DifferBy cs z will) (sym a) (subst (λ (z : List FileOf). DifferBy cs w z) (sym b) d))
