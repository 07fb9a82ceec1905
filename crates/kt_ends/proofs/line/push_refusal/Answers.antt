use Rattle.kt_ends.proofs.line.push_refusal.Goals as goal

pub returns-in-WrongTable : goal.returns-in-WrongTable
returns-in-WrongTable c = rw c.in-WrongTable.is c.push_found.ensures
