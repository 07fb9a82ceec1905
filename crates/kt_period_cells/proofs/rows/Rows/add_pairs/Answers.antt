-- The losses of a record, pair by pair.
use Rattle.std.proofs.Common.{◌≡◌, inl, inr, pos, List, [], arith, ◌∙◌, refl, ⊎_elim, cond}
use Rattle.std.proofs.lemmas.Grind.{common_steps}
use Rattle.std.specs.Prelude.{true, false, Bool}
use Rattle.kt_stream.specs.declared.entry.Pair.{Pair}
use Rattle.kt_cell.specs.Losses.{KeyLoss}
use Rattle.kt_period_cells.specs.Rows.{spot_losses}
use Rattle.kt_period_cells.proofs.Walks.{record_stop, going_pair, going_passed}
use Rattle.kt_period_cells.proofs.rows.Rows.add_pairs.Goals as goal

-- no pair
abbrev none : Pair
none = record { sidx = pos 0; loss = 0 }

-- the losses of a pair that is added up
taken : (b : Bool) (xs : List KeyLoss) → true ≡ b → cond b xs [] ≡ xs
taken true xs e = refl
taken false xs e = cc

-- the losses of a pair that is passed over
passed : (b : Bool) (xs : List KeyLoss) → false ≡ b → cond b xs [] ≡ []
passed false xs e = refl
passed true xs e = cc

pub returns-in-Err-clause-step : goal.returns-in-Err-clause-step
returns-in-Err-clause-step c = λ before stands.
    let g = c.loop-pair.invariant.going before stands in
    let s = c.in-Err.ensures.step _ _ g in (
      ⊎_elim (λ e. inl e) (λ found. inr (record_stop (spot_losses c.args.perspective c.args.set c.args.summary c.args.spots.now) c.args.pairs.now c.loop-pair.pair-index none before _ c.in-Err.stop (omega arith) (taken _ _ c.if-not-is_added.ensures) found)) s.0,
      s.1,
    )

pub loop-pair-preserved : goal.loop-pair-preserved
loop-pair-preserved c =
    let now = c.loop-pair.invariant in
    record {
      size = (c.in-Ok.ensures.size.0 ∙ now.size.0, c.in-Ok.ensures.size.1 ∙ now.size.1);
      rows = c.in-Ok.ensures.rows ∙ now.rows;
      greatest = c.in-Ok.ensures.journal;
      going = λ before stands.
          going_pair (spot_losses c.args.perspective c.args.set c.args.summary c.args.spots.now) c.args.pairs.now c.loop-pair.pair-index none before _ _ _ (omega arith) (taken _ _ c.if-not-is_added.ensures)
          (c.in-Ok.ensures.step _ _ (now.going before stands));
    }

pub loop-pair-preserved-then-not-is_added : goal.loop-pair-preserved-then-not-is_added
loop-pair-preserved-then-not-is_added c =
    let now = c.loop-pair.invariant in
    record {
      size = now.size;
      rows = now.rows;
      greatest = now.greatest;
      going = λ before stands.
          going_passed (spot_losses c.args.perspective c.args.set c.args.summary c.args.spots.now) c.args.pairs.now c.loop-pair.pair-index none before _ _ (omega arith) (passed _ _ c.if-not-is_added.ensures) (now.going before stands);
    }

pub returns-clause-step : goal.returns-clause-step
returns-clause-step c = grind (arith, common_steps)

pub add_pair-requires : goal.add_pair-requires
add_pair-requires c = grind (arith, common_steps)
