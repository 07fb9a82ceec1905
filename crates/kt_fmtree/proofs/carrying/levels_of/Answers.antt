use Rattle.std.proofs.Common.{◌≡◌, ◌+◌, ◌-◌, ap, sym, arith, length}
use Rattle.std.proofs.lemmas.List.{length-map}
use Rattle.kt_fmtree.proofs.RowLemmas.{count, base-climbs, made}
use Rattle.kt_fmtree.proofs.carrying.levels_of.Goals as goal

pub row_at-requires : goal.row_at-requires
row_at-requires c =
    let long : length c.in_ok-rows.rows.items ≡ length c.args.levels.now - 1 + 1 = count _ _ _ _ c.in_ok-rows.ensures.value in
    let same = ap length c.deref.ensures.value in
    omega (arith, long, same)

pub base_row-requires : goal.base_row-requires
base_row-requires c =
    base-climbs _ _ _ _ _ _ _ _ (length c.args.levels.now) c.requires.some c.requires.can c.in_ok-leaves.ensures.value c.in_ok-rows.ensures.value c.deref.ensures.value c.row_at.ensures.value c.nodes_at.ensures.value

pub returns : goal.returns
returns c = record {
  value =
      made _ _ _ _ _ _ _ _ _ (length c.args.levels.now) c.requires.some (sym (length-map c.args.levels.now _)) c.in_ok-leaves.ensures.value c.in_ok-rows.ensures.value c.deref.ensures.value c.row_at.ensures.value c.nodes_at.ensures.value c.in_ok-bases.ensures.value;
}
