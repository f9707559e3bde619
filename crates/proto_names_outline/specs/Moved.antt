-- What a tree imports where its tokens are moved.
use Rattle.proto_tree.specs.Moved.{Move}
use Rattle.proto_names_outline.specs.FromTree.{Wanted}

-- an import of which the path stands at another token
abbrev pub move_wanted : Move → Wanted → Wanted
move_wanted g w = record { path = g w.path; is_public = w.is_public; is_weak = w.is_weak }
