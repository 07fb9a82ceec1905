use Rattle.kt_periods.specs.OwnTables.{own_stream}
use Rattle.kt_periods.proofs.laws.a_stream_of_a_set_gives_its_table.Goals as goal

pub returns : goal.returns
returns c = own_stream
