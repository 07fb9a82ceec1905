use Rattle.std.proofs.Common.{refl}
use Rattle.kt_cells.specs.Records.{record_bytes}
use Rattle.kt_schema.proofs.record_sinks.footprint_record.Goals as goal

pub returns : goal.returns
unfolding record_bytes
returns c = rw (c.write_u32-3.ensures, c.write_u32-2.ensures, c.write_u32.ensures) refl
