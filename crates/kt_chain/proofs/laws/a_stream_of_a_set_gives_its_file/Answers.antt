use Rattle.kt_chain.specs.SetRecords.{stream_gives_file}
use Rattle.kt_chain.proofs.laws.a_stream_of_a_set_gives_its_file.Goals as goal

pub returns : goal.returns
returns c = stream_gives_file
