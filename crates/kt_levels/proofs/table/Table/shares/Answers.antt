use Rattle.std.proofs.Common.{arith}
use Rattle.kt_levels.proofs.TableLemmas.{shares-are, shares-inside, table-long}
use Rattle.kt_levels.proofs.table.Table.shares.Goals as goal

pub lane-requires : goal.lane-requires
lane-requires c = record { place = shares-inside c.self.inside c.self.invariant c.args.self.now c.self.view_is c.args.place c.requires.place }

pub returns-clause-value : goal.returns-clause-value
returns-clause-value c = shares-are c.self.inside c.self.invariant c.args.self.now c.self.view_is c.args.place c.lane.result.now c.requires.place c.lane.ensures.value

pub returns-clause-most : goal.returns-clause-most
returns-clause-most c = omega (arith, table-long c.self.inside c.self.invariant c.args.self.now c.self.view_is, c.self.invariant.most)
