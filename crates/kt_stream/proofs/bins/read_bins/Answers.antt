use Rattle.std.proofs.Common.{◌≡◌, ◌+◌, ◌-◌, suc, drop, sym, arith}
use Rattle.std.proofs.lemmas.List.{take_rest}
use Rattle.kt_stream.specs.declared.read.Read.TheVariants.{Got}
use Rattle.kt_stream.specs.Bins.{bin_in}
use Rattle.kt_stream.proofs.BinsRead.{bins_got, bin_more, bin_short, bin_wrong, no_bin}
use Rattle.kt_stream.proofs.bins.read_bins.Goals as goal

pub returns-in-Short : goal.returns-in-Short
returns-in-Short c =
    let left : c.args.count - c.loop-i.i ≡ suc (c.args.count - 1 - c.loop-i.i) = omega (arith, c.loop-i-test.true) in
    bin_short c.args.count c.args.bytes.now c.args.at c.loop-i.bins.items c.loop-i.before c.loop-i.used (c.args.count - c.loop-i.i) (c.args.count - 1 - c.loop-i.i) c.loop-i.invariant.go left (sym (rw take_rest at c.in-Short.ensures))

pub returns-in-Wrong : goal.returns-in-Wrong
returns-in-Wrong c =
    let left : c.args.count - c.loop-i.i ≡ suc (c.args.count - 1 - c.loop-i.i) = omega (arith, c.loop-i-test.true) in
    bin_wrong c.args.count c.args.bytes.now c.args.at c.loop-i.bins.items c.loop-i.before c.loop-i.used (c.args.count - c.loop-i.i) (c.args.count - 1 - c.loop-i.i) c.in-Wrong.misfit c.loop-i.invariant.go left (sym (rw take_rest at c.in-Wrong.ensures))

pub loop-i-preserved : goal.loop-i-preserved
loop-i-preserved c =
    let left : c.args.count - c.loop-i.i ≡ suc (c.args.count - (c.loop-i.i + 1)) = omega (arith, c.loop-i-test.true) in
    let read : bin_in (c.args.count - 1 - c.loop-i.i) c.loop-i.before (drop c.loop-i.used c.args.bytes.now) (c.args.at + c.loop-i.used) ≡ Got c.in-Got.bin = sym (rw take_rest at c.in-Got.ensures) in
    let step : c.args.count - 1 - c.loop-i.i ≡ c.args.count - (c.loop-i.i + 1) = omega arith in
    record {
      go = bin_more c.args.count c.args.bytes.now c.args.at c.loop-i.bins.items c.push_reserved.new.self.items c.loop-i.before c.loop-i.used (c.args.count - c.loop-i.i) (c.args.count - (c.loop-i.i + 1)) c.in-Got.bin c.loop-i.invariant.go left
          (rw step at read) c.push_reserved.ensures.items;
      size = omega (arith, c.loop-i.invariant.size);
      some = omega (arith, c.loop-i.invariant.some, c.push_reserved.ensures.len);
      room = omega (arith, c.loop-i.invariant.room, c.push_reserved.ensures.capacity);
    }

pub returns : goal.returns
returns c =
    let read = no_bin c.args.count c.args.bytes.now c.args.at c.loop-i.bins.items c.loop-i.before c.loop-i.used (c.args.count - c.loop-i.i) c.loop-i.invariant.go (omega (arith, c.loop-i-test.false)) in
    let count = (bins_got c.args.count 0 c.args.bytes.now c.args.at c.loop-i.bins.items read).count in
    rw c.from_vec.ensures.value (read, omega (arith, c.loop-i.invariant.size, count, c.loop-i-test.false, c.loop-i.auto.i-end))
