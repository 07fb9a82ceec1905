use Rattle.std.proofs.Common.{◌∙◌, List, Vec, Global, ℕ, length, ap, sym, subst, arith}
use Rattle.kt_lanes.specs.Lanes.{AreLanes}
use Rattle.kt_levels.specs.ByLanes.{AreLong, row_in}
use Rattle.kt_levels.proofs.ByRowsLemmas.{policies-wide, rows-turned, shares-wide}
use Rattle.kt_levels.proofs.by_rows.lanes_by_rows.Goals as goal

pub first_len-requires : goal.first_len-requires
first_len-requires c = record { some = omega (arith, ap length c.deref.ensures.value, c.in_ok-rows.ensures.value.shares_many, c.requires.lanes.some) }

pub turned-requires : goal.turned-requires
turned-requires c =
    let same = c.first_len.ensures.value ∙ ap (λ rows. length (row_in rows 0)) c.deref.ensures.value in
    record {
      wide =
          subst (λ n. AreLong n c.deref-2.result.now) (sym same)
          (subst (AreLong _) (sym c.deref-2.ensures.value) (shares-wide c.args.programme.now c.args.lanes.now c.args.rule c.args.layers.now c.args.width c.requires.lanes.some c.in_ok-rows.rows c.in_ok-rows.ensures.value c.is_of_a_tree.ensures.kept));
    }

pub turned-requires-2 : goal.turned-requires-2
turned-requires-2 c = record {
  wide =
      subst (AreLong _) (sym c.deref-3.ensures.value) (policies-wide c.args.programme.now c.args.lanes.now c.args.rule c.args.layers.now c.args.width c.requires.lanes.some c.in_ok-rows.rows c.in_ok-rows.ensures.value c.is_of_a_tree.ensures.kept);
}

pub returns : goal.returns
returns c =
    let policies = c.in_ok-policies.policies in
    record {
      value =
          rows-turned c.args.programme.now c.args.lanes.now c.args.rule c.args.layers.now c.args.width c.requires.lanes.some c.in_ok-rows.rows c.in_ok-rows.ensures.value _ _ _
          (subst (λ (rows : List (Vec ℕ Global)). AreLanes (length rows) c.first_len.result (row_in rows) c.in_ok-shares.shares) c.deref-2.ensures.value c.in_ok-shares.ensures.value)
          (subst (λ (rows : List (Vec ℕ Global)). AreLanes (length rows) (length c.args.layers.now) (row_in rows) policies) c.deref-3.ensures.value c.in_ok-policies.ensures.value);
    }
