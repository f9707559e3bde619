use Rattle.proto_names.proofs.link.Link.replace.Goals as goal

pub replace_with-requires-clause-were : goal.replace_with-requires-clause-were
replace_with-requires-clause-were c =
    let was = c.requires.link in
    record { before = was.0; link = was.1; made = tt; same = was.2 }
