use Rattle.kt_files.proofs.RecordLemmas.{file_gains_nothing}
use Rattle.kt_files.proofs.file.OutputFile.grows.Goals as goal

pub returns-in-OfSet : goal.returns-in-OfSet
returns-in-OfSet c = λ no samples rows blocks text.
    file_gains_nothing samples rows c.args.self.now c.in-OfSet.field-0 c.in-OfSet.table blocks text (c.grows.ensures no samples rows) c.in-OfSet.is
