-- The rows of what is kept stay as long as they were.
use Rattle.std.proofs.Common.{◌≡◌, ℕ, ◌+◌, List, Vec, Global, length, ap, arith, sym, ◌∙◌}
use Rattle.std.specs.List.{length_refill}
use Rattle.std.specs.Vec.{with_items}
use Rattle.std.proofs.lemmas.Result.{IfOk-from_err}
use Rattle.kt_gul.specs.Coverage.{IsScratch}
use Rattle.kt_gul.proofs.FrontLemmas.{where_refused}
use Rattle.kt_gul.proofs.coverage.push_coverage.Goals as goal

-- a list whose items are written over stays as long
written_over : (row : Vec ℕ Global) (items : List ℕ) (width : ℕ) → length row.items ≡ width → length (with_items row items).items ≡ width
written_over row items width long = sym (length_refill row.len row.items items row.ok.0) ∙ (row.ok.0 ∙ long)

pub push_group-requires-clause-value : goal.push_group-requires-clause-value
push_group-requires-clause-value g c = c.tiv-tiv.ensures.value

pub push_group-requires-clause-few : goal.push_group-requires-clause-few
push_group-requires-clause-few g c = omega (arith, c.tiv-tiv.ensures.value, c.requires.value)

pub push_group-requires-clause-empty : goal.push_group-requires-clause-empty
push_group-requires-clause-empty g c = c.clear.ensures.items

pub push_group-requires-clause-totals : goal.push_group-requires-clause-totals
push_group-requires-clause-totals g c = ap length c.deref_mut.ensures.value ∙ c.requires.scratch.totals

pub push_group-requires-clause-before : goal.push_group-requires-clause-before
push_group-requires-clause-before g c = ap length c.deref_mut-2.ensures.value ∙ c.requires.scratch.before

pub push_group-requires-clause-cut : goal.push_group-requires-clause-cut
push_group-requires-clause-cut g c = ap length c.deref_mut-3.ensures.value ∙ c.requires.scratch.cut

pub returns : goal.returns
returns g c = record {
  scratch = record {
    totals = written_over c.args.scratch.totals c.push_group.new.totals (c.args.draw.samples + 2) c.requires.scratch.totals;
    before = written_over c.args.scratch.before c.push_group.new.before (c.args.draw.samples + 2) c.requires.scratch.before;
    cut = written_over c.args.scratch.cut c.push_group.new.cut (c.args.draw.samples + 2) c.requires.scratch.cut;
  };
  takes = c.in_ok-losses.ensures.takes;
  ok = c.in_ok-losses.ensures.ok;
  front = tt;
}

pub returns-in_err-losses : goal.returns-in_err-losses
returns-in_err-losses g c = record {
  scratch = IfOk-from_err c.from_residual.result (IsScratch (c.args.draw.samples + 2)) c.from_residual.ensures.0;
  takes = IfOk-from_err c.from_residual.result _ c.from_residual.ensures.0;
  ok = IfOk-from_err c.from_residual.result _ c.from_residual.ensures.0;
  front = where_refused c.from_residual.result c.in_err-losses.ensures.front;
}
