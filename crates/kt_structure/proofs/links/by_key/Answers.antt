use Rattle.kt_structure.proofs.links.by_key.Goals as goal

pub returns : goal.returns
returns c = record { kept = c.of_rows.ensures.kept }
