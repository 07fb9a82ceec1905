use Rattle.std.proofs.Common.{◌≡◌, ◌+◌, ◌∙◌, ◌∷◌, ◌++◌, [], ℕ, List, map, take, ap, arith, subst, sym}
use Rattle.std.specs.Prelude.{All}
use Rattle.std.proofs.lemmas.List.{map-append, take_more}
use Rattle.std.proofs.lemmas.List.Elements.{All-push}
use Rattle.kt_tables.specs.Lookups.{summary_in}
use Rattle.kt_sum.specs.SetSums.{AreReady, HoldLanes}
use Rattle.kt_sum.specs.declared.set_sums.SetSums.{SetSums}
use Rattle.kt_sum.proofs.lanes.no_set_sums.Goals as goal

pub loop-set-preserved : goal.loop-set-preserved
loop-set-preserved c =
    let here = c.loop-set in
    let losses = c.args.losses.now in
    let sets = c.args.sets.now in
    let find = summary_in c.args.perspective c.args.portfolio.now.rows in
    let sums = here.sums.items in
    let one = c.in_ok-new.field-0 in
    let more = c.in_ok-push.ensures.items in
    let wide : losses.rows + 2 ≡ c.args.samples + 3 = omega (arith, c.requires.rows) in
    let ids = c.deref.ensures.value ∙ c.in_ok-ids.ensures.value in
    record {
      sets =
          ap (λ (sums : List SetSums). map (λ one. one.set) sums) more
          ∙ map-append (λ (one : SetSums). one.set) sums (one ∷ [])
          ∙ ap (λ (sets : List ℕ). sets ++ one.set ∷ []) here.invariant.sets
          ∙ ap (λ (set : ℕ). take here.set-index sets ++ set ∷ []) c.in_ok-new.ensures.set
          ∙ sym (take_more sets here.set-index 0 c.loop-set-test.true);
      ready = subst (λ (sums : List SetSums). All (AreReady losses) sums) (sym more) (All-push (AreReady losses) sums one here.invariant.ready (c.in_ok-new.ensures.ready losses wide ids));
      none = subst (λ (sums : List SetSums). All (HoldLanes find losses 0) sums) (sym more) (All-push (HoldLanes find losses 0) sums one here.invariant.none (c.in_ok-new.ensures.none losses wide ids));
    }
