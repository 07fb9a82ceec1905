use Rattle.kt_front.proofs.to_file.source_file.Goals as goal

pub returns-in-Footprint : goal.returns-in-Footprint
returns-in-Footprint g c = rw c.in-Footprint.is (c.footprint_file.ensures c.args.extra)

pub returns-in-FootprintIdx : goal.returns-in-FootprintIdx
returns-in-FootprintIdx g c = rw c.in-FootprintIdx.is (c.index_file.ensures c.args.extra)
