use Rattle.std.specs.HashMap.{get}
use Rattle.kt_keys.specs.Keys.{same_triple}
use Rattle.kt_keys.specs.UnitTable.{value_of}
use Rattle.kt_structure.proofs.TermLemmas.{units-found}
use Rattle.kt_structure.proofs.terms.Terms.new.Goals as goal

pub returns : goal.returns
returns c = record {
  value = record {
    units = units-found c.args.policytc.now (value_of c.in_ok-first.first) (get same_triple c.in_ok-others.others) c.in_ok-first.ensures.value c.in_ok-others.ensures.value;
    ids = c.in_ok-by_id.ensures.value;
  };
}
