use Rattle.std.proofs.Common.{◌≡◌, ◌++◌, ◌∙◌, drop, length, take, arith, length-append, length-take-le}
use Rattle.kt_runs.specs.WrittenLaws.{put-more}
use Rattle.kt_alloc.specs.Table.{record_in}
use Rattle.kt_alloc.specs.declared.outlets.Outlet.{Outlet}
use Rattle.kt_alloc.proofs.outputs.put_records.Goals as goal

pub loop-outlet-preserved : goal.loop-outlet-preserved
loop-outlet-preserved c =
    let none : Outlet = record { id = 0; place = 0 } in
    let room = c.loop-outlet.room in
    let used = c.put.new.room in
    let long : length used ≡ room.len = c.put.ensures.room ∙ c.deref_mut.ensures.len in
    let all = used ++ drop (length used) room.items in
    let front : length (take room.len all) ≡ room.len = length-take-le room.len all (omega (arith, long, length-append used (drop (length used) room.items))) in
    record {
      room = omega (arith, c.loop-outlet.invariant.room, front, room.ok.0);
      written = put-more (record_in c.args.event c.args.table.now) c.args.outlets.now c.loop-outlet.outlet-index none c.args.out.now c.loop-outlet.out c.put.new.out c.loop-outlet-test.true c.loop-outlet.invariant.written c.in_default.ensures.ok;
    }
