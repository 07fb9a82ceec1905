use Rattle.std.proofs.Common.{ℕ, List, ◌∙◌, slice_index}
use Rattle.std.proofs.lemmas.List.{length-map}
use Rattle.kt_rec.specs.ByIdLaws.{with-missed}
use Rattle.kt_lanes.specs.Lanes.{column}
use Rattle.kt_lanes.proofs.by_id.add_amounts_by_id.Goals as goal

pub returns-in_default : goal.returns-in_default
returns-in_default g c =
    let found = c.args.found.now in
    record {
      value = record {
        count_is = c.requires.same;
        wide = c.requires.wide;
        each = λ k less. with-missed c.args.ids.now (column k found) c.args.id (g.A.Amounts.amount c.args.more.now k) c.in_default.field-0 c.requires.rising (length-map found (λ (one : List ℕ). slice_index one k) ∙ c.requires.same) c.in_default.ensures.position;
      };
    }
