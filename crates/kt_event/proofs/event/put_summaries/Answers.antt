use Rattle.std.proofs.Common.{◌≡◌, ◌∙◌, ◌∷◌, [], ◌++◌, List, length, map, refl, append_assoc, append-nil, ap, arith, subst, sym}
use Rattle.std.specs.Vec.Iter.{into_iter_items}
use Rattle.std.proofs.lemmas.List.{map-append}
use Rattle.kt_block.specs.Block.{AreSummaries}
use Rattle.kt_block.specs.Terms.{set_numbers}
use Rattle.kt_block.specs.declared.block.Summaries.{Summaries}
use Rattle.kt_sum.specs.SetSums.{set_records}
use Rattle.kt_sum.specs.declared.set_records.SetRecords.{SetRecords}
use Rattle.kt_event.proofs.SetLemmas.{of_set, sets_good, sets_made}
use Rattle.kt_event.proofs.event.put_summaries.Goals as goal

-- nothing is left where no more items are
nothing_left : (rest : List SetRecords) → length rest ≡ 0 → rest ≡ []
nothing_left [] none = refl
nothing_left (one ∷ rest) none = absurd (omega arith)

pub loop-one-preserved : goal.loop-one-preserved
loop-one-preserved c =
    let here = c.loop-one in
    let one = c.in-Some.one in
    let before = c.args.made.now in
    let put = of_set c.args.perspective in
    let steps : into_iter_items here.one-iterator ≡ one ∷ into_iter_items c.next.new.self = c.in-Some.ensures.steps.0 in
    record {
      all = append_assoc here.yielded (one ∷ []) _ ∙ rw (← steps) here.invariant.all;
      left = let gone = c.in-Some.ensures.steps.1 in let more = ap length steps in let left = here.invariant.left in omega arith;
      made = c.in_ok-push.ensures.ok
          ∙ ap (λ (made : List Summaries). made ++ put one ∷ []) here.invariant.made
          ∙ append_assoc before (map put here.yielded) (put one ∷ [])
          ∙ ap (λ (made : List Summaries). before ++ made) (sym (map-append put here.yielded (one ∷ [])));
    }

pub returns : goal.returns
returns c =
    let here = c.loop-one in
    let perspective = c.args.perspective in
    let rows = c.args.portfolio.now.rows in
    let rule = c.args.portfolio.now.need.rule in
    let losses = c.args.losses.now.records in
    let before = c.args.made.now in
    let items = c.in_ok-summaries.summaries.items in
    let empty : into_iter_items here.one-iterator ≡ [] = nothing_left _ (sym here.invariant.left ∙ c.in-None.ensures.steps.0) in
    let all : here.yielded ≡ items = sym (append-nil here.yielded) ∙ rw empty at here.invariant.all ∙ c.into_iter-one-iterator.ensures.into_iter_gives.0 in
    let made : here.made ≡ before ++ map (of_set perspective) items = here.invariant.made ∙ ap (λ (made : List SetRecords). before ++ map (of_set perspective) made) all in
    record {
      ok =
          made
          ∙ ap (λ (made : List SetRecords). before ++ map (of_set perspective) made) (c.in_ok-summaries.ensures.value ∙ ap (map (set_records perspective rows rule losses)) (c.deref.ensures.value ∙ c.in_ok-sets.ensures.value))
          ∙ ap (λ (made : List Summaries). before ++ made) (sets_made rows perspective rule losses (set_numbers rows perspective));
      good = subst (AreSummaries c.args.samples) (sym made) (sets_good c.args.samples perspective before items c.requires.good c.in_ok-summaries.ensures.good);
    }
