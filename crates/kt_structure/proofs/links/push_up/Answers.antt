use Rattle.std.proofs.Common.{◌∙◌, sym}
use Rattle.kt_structure.specs.Plan.{link_to}
use Rattle.kt_keys.specs.UnitTable.{value_of}
use Rattle.kt_structure.proofs.LinkLemmas.{made-none, made-some}
use Rattle.kt_structure.proofs.links.push_up.Goals as goal

pub returns-in-None : goal.returns-in-None
returns-in-None c =
    let found = value_of c.args.next.now (c.args.level, c.args.end.unit) in
    let none = sym c.in-None.is ∙ c.of.ensures.value in
    record {
      links = made-none (link_to c.args.level c.args.end.unit) found _ none;
      ends = made-none (link_to 0 c.args.end.child) found _ none;
    }

pub returns-in_ok-push-in-Some-2 : goal.returns-in_ok-push-in-Some-2
returns-in_ok-push-in-Some-2 c =
    let found = value_of c.args.next.now (c.args.level, c.args.end.unit) in
    let some = sym c.in-Some.is ∙ c.of.ensures.value in
    record {
      links = made-some (link_to c.args.level c.args.end.unit) found c.in-Some.unit _ _ some c.in_ok-push-in-Some.ensures.items;
      ends = made-some (link_to 0 c.args.end.child) found c.in-Some.unit _ _ some c.in_ok-push-in-Some-2.ensures.items;
    }
