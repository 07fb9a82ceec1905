-- The stages of a run of all stages that is done have the premises of a split run.
use Rattle.std.proofs.Common.{◌≡◌, ◌≤◌, ◌+◌, ℕ, zero, suc, true, false, List, [], ◌∷◌, ◌++◌, map, refl, sym, arith, ne_eqb}
use Rattle.std.specs.List.{AllByRecursion, range_with_len}
use Rattle.kt_block.specs.Terms.{AreTerms, has_insured, has_net}
use Rattle.kt_block.specs.declared.terms.Terms.{Terms}
use Rattle.kt_loop.specs.ListLaws.{all_joined}
use Rattle.kt_out.specs.NamedFiles.{FileMap}
use Rattle.kt_rec.specs.Rows.{Rows}
use Rattle.kt_rec.specs.declared.perspective.Perspective.{Perspective}
use Rattle.kt_rec.specs.declared.perspective.Perspective.TheVariants.{Gul, Il, Ri}
use Rattle.kt_words.specs.declared.command.Command.{Command}
use Rattle.kt_words.specs.declared.command.Command.TheVariants.{FmcalcNet, Getmodel, Summarycalc}
use Rattle.kt_split.proofs.Served.{split_run}
use Rattle.kt_split.specs.RunDone.{IsDoneOver}
use Rattle.kt_split.specs.RunNeeds.{IsOfRun}
use Rattle.kt_split.specs.SplitRuns.{EachFits, IsSplitRun, ground_up_stages, loss_stages, split_stages}

-- a run with net losses goes up to them
net_last : (last : Perspective) → has_net last ≡ true → last ≡ Ri
net_last Gul has = cc
net_last Il has = cc
net_last Ri has = refl

net_insured : (last : Perspective) → has_net last ≡ true → has_insured last ≡ true
net_insured Gul has = cc
net_insured Il has = cc
net_insured Ri has = refl

module _ (files : FileMap) (terms : Terms) (rows : Rows) (are : AreTerms terms) (done : IsDoneOver files terms rows) where
  abbrev AreOfRun : List Command → Type 0
  AreOfRun stages = AllByRecursion (IsOfRun terms) stages

  of_stages : (stages : List Command) → AreOfRun stages → EachFits files stages → IsSplitRun files terms.samples rows stages
  of_stages stages of fits = split_run files terms rows are done.loads stages done.done of fits

  pub distributions_run : EachFits files (Getmodel ∷ []) → IsSplitRun files terms.samples rows (Getmodel ∷ [])
  distributions_run fits = of_stages (Getmodel ∷ []) (tt, tt) fits

  pub ground_up_run : EachFits files (ground_up_stages terms) → IsSplitRun files terms.samples rows (ground_up_stages terms)
  ground_up_run fits = of_stages (ground_up_stages terms) (tt, (refl, tt)) fits

  pub gul_summaries_run : (set : ℕ) → EachFits files (split_stages terms Gul set) → IsSplitRun files terms.samples rows (split_stages terms Gul set)
  gul_summaries_run set fits = of_stages (split_stages terms Gul set) (tt, (refl, (tt, tt))) fits

  pub insured_run : has_insured terms.last ≡ true → EachFits files (ground_up_stages terms ++ loss_stages Il terms.rule 0) → IsSplitRun files terms.samples rows (ground_up_stages terms ++ loss_stages Il terms.rule 0)
  insured_run has fits = of_stages (ground_up_stages terms ++ loss_stages Il terms.rule 0) (tt, (refl, ((has, refl), tt))) fits

  pub insured_summaries_run : (set : ℕ) → has_insured terms.last ≡ true → EachFits files (split_stages terms Il set) → IsSplitRun files terms.samples rows (split_stages terms Il set)
  insured_summaries_run set has fits = of_stages (split_stages terms Il set) (tt, (refl, ((has, refl), ((has, refl), tt)))) fits

  -- the stages of reinsurance
  nets_of : terms.last ≡ Ri → (first count : ℕ) → 1 ≤ first → first + count ≤ terms.stages + 1 → AreOfRun (map (FmcalcNet 2) (range_with_len first count))
  nets_of last first zero some most = tt
  nets_of last first (suc count) some most = ((last, some, omega (arith, most)), nets_of last (first + 1) count (omega (arith, some)) (omega (arith, most)))

  module _ (has : has_net terms.last ≡ true) where
    pub net_run : (count : ℕ) → count ≤ terms.stages → EachFits files (ground_up_stages terms ++ loss_stages Ri terms.rule count) → IsSplitRun files terms.samples rows (ground_up_stages terms ++ loss_stages Ri terms.rule count)
    net_run count few fits =
        of_stages (ground_up_stages terms ++ loss_stages Ri terms.rule count)
        (tt, (refl, ((net_insured terms.last has, refl), nets_of (net_last terms.last has) 1 count (omega arith) (omega (arith, few))))) fits

    pub net_summaries_run : (set : ℕ) → EachFits files (split_stages terms Ri set) → IsSplitRun files terms.samples rows (split_stages terms Ri set)
    net_summaries_run set fits =
        let nets = nets_of (net_last terms.last has) 1 terms.stages (omega arith) (omega arith) in
        let last : IsOfRun terms (Summarycalc false set 2) = (net_insured terms.last has, sym (ne_eqb terms.rule 0 (are.of_items has))) in
        of_stages (split_stages terms Ri set) (tt, (refl, ((net_insured terms.last has, refl), all_joined (IsOfRun terms) (map (FmcalcNet 2) (range_with_len 1 terms.stages)) (Summarycalc false set 2 ∷ []) nets (last, tt)))) fits
