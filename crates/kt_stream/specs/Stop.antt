-- How a wrong field is refused.
-- The rules: docs/STREAMS.md, "What is refused".
use Rattle.kt_stream.specs.declared.read.HeaderFault.{HeaderFault}
use Rattle.kt_stream.specs.declared.read.HeaderFault.TheVariants as header
use Rattle.kt_stream.specs.declared.read.Misfit.{Misfit}
use Rattle.kt_stream.specs.declared.stop.StreamStop.{StreamStop}
use Rattle.kt_stream.specs.declared.stop.StreamStop.TheVariants.{NotProfile, WrongStream, BadSamples, BadSet, BadRecord}

-- a wrong field of the header
abbrev pub header_stop : HeaderFault → StreamStop
header_stop header.NotProfile = NotProfile
header_stop (header.WrongStream found) = WrongStream found
header_stop (header.BadSamples found) = BadSamples found
header_stop (header.BadSet found) = BadSet found

-- a wrong field of a record
abbrev pub record_stop : Misfit → StreamStop
record_stop misfit = BadRecord misfit.at misfit.cause
