-- What is reached by public imports: the relation, and walks along the lists of files.
use Rattle.std.proofs.Common.{ℕ, ◌<◌, List, refl, sym, subst}
use Rattle.proto_names_rules.proofs.Common.{Import, Workspace, Reaches, here, along, ImportsAreOfFiles}
use Rattle.proto_names_imports.specs.Walks.{Walks, stays, goes}
use Rattle.proto_lint.specs.ImportTables.{ArePublic}

pub walk_reaches : (next : List (List ℕ)) (imports : List Import) → ArePublic next imports → {f g : ℕ} → Walks next f g → Reaches imports f g
walk_reaches next imports public stays = here
walk_reaches next imports public {f} {g} (goes h c w) =
    let i = (public f h).0 c in
    along i.0 i.1 i.2 i.4 (subst (λ n. Reaches imports n g) (sym i.3) (walk_reaches next imports public w))

pub reach_walks : (next : List (List ℕ)) (imports : List Import) → ArePublic next imports → {f g : ℕ} → Reaches imports f g → Walks next f g
reach_walks next imports public here = stays
reach_walks next imports public {f} (along i c e p r) = goes i.to ((public f i.to).1 (i, c, e, refl, p)) (reach_walks next imports public r)

pub reached_within : (w : Workspace) → ImportsAreOfFiles w → {f g : ℕ} → f < w.files → Reaches w.imports f g → g < w.files
reached_within w ok l here = l
reached_within w ok l (along i c e p r) = reached_within w ok (ok i c).1 r
