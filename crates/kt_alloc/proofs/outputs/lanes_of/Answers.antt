use Rattle.std.proofs.Common.{◌<◌, ◌∙◌, ◌++◌, [], List, length, slice_index_or, ap, sym, subst, All, take_all}
use Rattle.std.specs.List.{cons_option, filter_map}
use Rattle.std.proofs.lemmas.List.Elements.{All-from_recursion}
use Rattle.kt_levels.specs.Row.{Shared}
use Rattle.kt_runs.specs.RowLaws.{made-more}
use Rattle.kt_alloc.specs.Table.{record_in}
use Rattle.kt_alloc.specs.declared.outlets.Outlet.{Outlet}
use Rattle.kt_alloc.proofs.outputs.lanes_of.Goals as goal

-- an outlet for want of another
abbrev none : Outlet
none = record { id = 0; place = 0 }

pub keep-requires : goal.keep-requires
keep-requires c =
    let at = c.loop-outlet.outlet-index in
    record {
      place =
          subst (λ (table : List Shared). All (λ (row : Shared). (slice_index_or c.args.outlets.now at none).place < length row.shares) table) (sym c.loop-outlet.invariant.table)
          (All-from_recursion (λ (outlet : Outlet). All (λ (row : Shared). outlet.place < length row.shares) c.args.table) c.args.outlets.now c.requires.places at none c.loop-outlet-test.true);
    }

pub loop-outlet-preserved : goal.loop-outlet-preserved
loop-outlet-preserved c =
    let at = c.loop-outlet.outlet-index in
    let before = c.loop-outlet.made.records in
    record {
      table = c.keep.ensures.table ∙ c.loop-outlet.invariant.table;
      records =
          made-more (record_in c.args.event c.args.table) c.args.outlets.now before c.keep.new.self.records at none c.loop-outlet-test.true c.loop-outlet.invariant.records
          (c.in_ok-keep.ensures.ok ∙ ap (λ (table : List Shared). before ++ cons_option (record_in c.args.event table (slice_index_or c.args.outlets.now at none)) []) c.loop-outlet.invariant.table);
    }

pub returns : goal.returns
returns c = record {
  rows = c.into_lanes.ensures.rows ∙ ap length c.loop-outlet.invariant.table;
  value =
      c.into_lanes.ensures.records
      ∙ (c.loop-outlet.invariant.records ∙ ap (filter_map (record_in c.args.event c.args.table)) (take_all c.loop-outlet.outlet-index c.args.outlets.now c.loop-outlet-test.false));
}
