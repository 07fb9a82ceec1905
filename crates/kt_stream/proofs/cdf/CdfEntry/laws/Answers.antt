use Rattle.kt_stream.proofs.Distributions.{cdf_lawful}
use Rattle.kt_stream.proofs.cdf.CdfEntry.laws.Goals as goal

pub returns : goal.returns
returns c = record { value = cdf_lawful }
