use Rattle.kt_schema.proofs.FileLemmas.{files_read_back}
use Rattle.kt_schema.proofs.laws.files_are_read_back.Goals as goal

pub returns : goal.returns
returns c = files_read_back c.headers_are_read_back.ensures c.records_are_read_back.ensures
