use Rattle.std.proofs.Common.{◌≡◌, ◌∙◌, ◌≤◌, ℕ, List, [], ap, arith, get_or, subst, sym, take}
use Rattle.std.specs.BTreeSet.{insert_key}
use Rattle.std.proofs.lemmas.List.{get_or_default}
use Rattle.std.proofs.lemmas.List.Sums.{fold_more}
use Rattle.std.proofs.lemmas.Map.Views.{All-insert_key}
use Rattle.kt_rec.specs.declared.exposure.Item.{Item}
use Rattle.kt_tables.specs.Kept.{item_key}
use Rattle.kt_tables.specs.Lookups.{pair_of, pair_order}
use Rattle.kt_tables.specs.PairLaws.{ArePairsRising, pairs-rise}
use Rattle.kt_tables.specs.PairsMade.{ArePairsUpto, IsPairUpto}
use Rattle.kt_tables.proofs.lookups.items.pairs.Goals as goal

pub push_pair-requires-clause-rising : goal.push_pair-requires-clause-rising
push_pair-requires-clause-rising c = subst ArePairsRising (sym c.loop-row.invariant.made) (pairs-rise (take c.loop-row.row-index c.args.items.now))

pub loop-row-preserved : goal.loop-row-preserved
loop-row-preserved c =
    let none : Item = record { item_id = 0; coverage_id = 0; areaperil_id = 0; vulnerability_id = 0; group_id = 0 } in
    let items = c.args.items.now in
    let i = c.loop-row.row-index in
    let row = get_or items i none in
    let pair : ℕ × ℕ = pair_of row in
    let put : c.push_pair.new.pairs.items ≡ insert_key pair_order c.loop-row.pairs.items pair = c.in_ok-push_pair.ensures.value in
    record {
      made = put ∙ (ap (λ (pairs : List (ℕ × ℕ)). insert_key pair_order pairs pair) c.loop-row.invariant.made ∙ sym (fold_more (λ (pairs : List (ℕ × ℕ)) item. insert_key pair_order pairs (pair_of item)) [] items i none c.loop-row-test.true));
      upto = λ k d from below.
          let higher : item_key row ≤ item_key (get_or items k d) = subst (λ (item : Item). item_key row ≤ item_key item) (get_or_default items k none d below) (c.requires.rising i k none (omega arith) below) in
          subst (ArePairsUpto (pair_of (get_or items k d))) (sym put)
          (All-insert_key pair_order pair (IsPairUpto (pair_of (get_or items k d))) c.loop-row.pairs.items (c.loop-row.invariant.upto k d (omega arith) below) (c.in_ok-push_pair.ensures.short, higher));
    }
