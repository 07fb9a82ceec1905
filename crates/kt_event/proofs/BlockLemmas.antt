-- The summaries of the perspectives of a run, one behind the other.
use Rattle.std.proofs.Common.{◌≡◌, ℕ, true, List, [], ◌∷◌, ◌++◌, map, refl, sym, ap, ◌∙◌, append_assoc, append-nil}
use Rattle.std.specs.List.{filter, flat_map, range_with_len}
use Rattle.std.proofs.lemmas.List.{map-append}
use Rattle.kt_event.specs.Losses.{block_of_losses, layers_up_to, losses_of, set_summaries, summaries_of}
use Rattle.kt_event.specs.Needs.{chain_need}
use Rattle.kt_keys.specs.declared.need.Need.{Need}
use Rattle.kt_block.specs.Terms.{has_insured, has_net, net_sets, output_perspectives, run_sets, sets_of, summary_set}
use Rattle.kt_block.specs.declared.block.Summaries.{Summaries}
use Rattle.kt_block.specs.declared.terms.SummarySet.{SummarySet}
use Rattle.kt_block.specs.declared.terms.Terms.{Terms}
use Rattle.kt_alloc.specs.Insured.{layer_sums}
use Rattle.kt_block.specs.declared.layer_sum.LayerSum.{LayerSum}
use Rattle.kt_rec.specs.Rows.{Rows}
use Rattle.kt_rec.specs.declared.perspective.Perspective.{Perspective}
use Rattle.kt_rec.specs.declared.perspective.Perspective.TheVariants.{Gul, Il, Ri}
use Rattle.kt_stream.specs.declared.entry.LossRecord.{LossRecord}
use Rattle.kt_tables.specs.Lookups.{has_summary_set}
use Rattle.kt_fmtree.specs.Programme.{tree_of}

module _ (terms : Terms) (rows : Rows) (losses : List LossRecord) where
  -- the sets of a perspective sum its losses
  each_set : (perspective : Perspective) (sets : List ℕ) → map (summaries_of rows terms.rule (losses_of terms rows losses perspective)) (map (summary_set perspective) sets) ≡ map (set_summaries terms rows losses) (map (summary_set perspective) sets)
  each_set perspective [] = refl
  each_set perspective (set ∷ sets) = ap (λ (more : List Summaries). summaries_of rows terms.rule (losses_of terms rows losses perspective) (summary_set perspective set) ∷ more) (each_set perspective sets)

  pub of_perspective : (perspective : Perspective) (rule : ℕ) (records : List LossRecord) → rule ≡ terms.rule → records ≡ losses_of terms rows losses perspective → map (summaries_of rows rule records) (sets_of rows perspective) ≡ map (set_summaries terms rows losses) (sets_of rows perspective)
  of_perspective perspective rule records same are =
      ap (λ (r : ℕ). map (summaries_of rows r records) (sets_of rows perspective)) same
      ∙ ap (λ (rs : List LossRecord). map (summaries_of rows terms.rule rs) (sets_of rows perspective)) are
      ∙ each_set perspective (filter (has_summary_set perspective rows) (range_with_len 1 9))

  -- the sets of outputs: those of insured losses, and those of net losses
  pub output_sets : (last : Perspective) → has_insured last ≡ true → flat_map (sets_of rows) (output_perspectives last) ≡ sets_of rows Il ++ net_sets rows last
  output_sets Gul insured = cc
  output_sets Il insured = refl
  output_sets Ri insured = ap (λ (sets : List SummarySet). sets_of rows Il ++ sets) (append-nil (sets_of rows Ri))

  -- where there are net losses their sets are those
  pub sets_of_net : (last : Perspective) → has_net last ≡ true → net_sets rows last ≡ sets_of rows Ri
  sets_of_net Gul net = cc
  sets_of_net Il net = cc
  sets_of_net Ri net = refl

  -- the summaries of insured losses, and those of net losses behind them
  pub output_summaries : (before middle now : List Summaries) → has_insured terms.last ≡ true
      → middle ≡ before ++ map (set_summaries terms rows losses) (sets_of rows Il) → now ≡ middle ++ map (set_summaries terms rows losses) (net_sets rows terms.last)
      → now ≡ before ++ map (set_summaries terms rows losses) (flat_map (sets_of rows) (output_perspectives terms.last))
  output_summaries before middle now insured one other =
      other ∙ ap (λ (xs : List Summaries). xs ++ map (set_summaries terms rows losses) (net_sets rows terms.last)) one
      ∙ append_assoc before (map (set_summaries terms rows losses) (sets_of rows Il)) (map (set_summaries terms rows losses) (net_sets rows terms.last))
      ∙ ap (λ (xs : List Summaries). before ++ xs) (sym (map-append (set_summaries terms rows losses) (sets_of rows Il) (net_sets rows terms.last)) ∙ ap (map (set_summaries terms rows losses)) (sym (output_sets terms.last insured)))

  -- the sums of the layers, where there are insured losses
  pub layers_are : (last : Perspective) → has_insured last ≡ true → layer_sums (tree_of rows 0) terms.rule terms.samples losses ≡ layers_up_to last terms rows losses
  layers_are Gul insured = cc
  layers_are Il insured = refl
  layers_are Ri insured = refl

  -- the summaries of all sets
  pub all_summaries : (first now : List Summaries) → first ≡ map (set_summaries terms rows losses) (sets_of rows Gul) → now ≡ first ++ map (set_summaries terms rows losses) (flat_map (sets_of rows) (output_perspectives terms.last)) → now ≡ map (set_summaries terms rows losses) (run_sets rows terms.last)
  all_summaries first now one other =
      other ∙ ap (λ (xs : List Summaries). xs ++ map (set_summaries terms rows losses) (flat_map (sets_of rows) (output_perspectives terms.last))) one
      ∙ sym (map-append (set_summaries terms rows losses) (sets_of rows Gul) (flat_map (sets_of rows) (output_perspectives terms.last)))

  -- a block of its parts
  pub block_is : (event : ℕ) (summaries : List Summaries) (layers : List LayerSum) → summaries ≡ map (set_summaries terms rows losses) (run_sets rows terms.last) → layers ≡ layers_up_to terms.last terms rows losses → record { event = event; summaries = summaries; layers = layers } ≡ block_of_losses terms rows event losses
  block_is event summaries layers one other =
      ap (λ (xs : List Summaries). record { event = event; summaries = xs; layers = layers }) one
      ∙ ap (λ (xs : List LayerSum). record { event = event; summaries = map (set_summaries terms rows losses) (run_sets rows terms.last); layers = xs }) other

-- the rule of a need is that of its terms
pub rule_is : (terms : Terms) (need : Need) → need ≡ chain_need terms → need.rule ≡ terms.rule
rule_is terms need is = ap (λ (one : Need). one.rule) is
