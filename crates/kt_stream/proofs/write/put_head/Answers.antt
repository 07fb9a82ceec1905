use Rattle.kt_stream.proofs.Heading.{header_back}
use Rattle.kt_stream.proofs.write.put_head.Goals as goal

pub returns-in-Cdf-clause-back : goal.returns-in-Cdf-clause-back
returns-in-Cdf-clause-back c = header_back c.args.kind c.args.head

pub returns-in-Gul-clause-back : goal.returns-in-Gul-clause-back
returns-in-Gul-clause-back c = header_back c.args.kind c.args.head

pub returns-in-Summary-clause-back : goal.returns-in-Summary-clause-back
returns-in-Summary-clause-back c = header_back c.args.kind c.args.head
