-- The rows of each kind of curve.
use Rattle.std.proofs.Common.{◌≡◌, ◌⊎◌, inl, inr, ℕ, List, ◌++◌, true, refl, sym, ap, ◌∙◌}
use Rattle.kt_rec.specs.declared.curve.Curve.{Curve}
use Rattle.kt_period_cells.specs.declared.group.SummaryCells.{SummaryCells}
use Rattle.kt_period_cells.specs.SummaryRows.{group_entries}
use Rattle.kt_cell.specs.Amounts.{amount_at}
use Rattle.kt_period_cells.specs.Outcomes.{on_more}
use Rattle.kt_curve.specs.Exceedance.{lec_rows}
use Rattle.kt_curve.specs.LossesOfSamples.{ranks_samples}
use Rattle.kt_curve.proofs.lec.append_group.Goals as goal

-- rows that two kinds have are those of a curve of one of them
of_kinds : {one other curve : Curve} (rows : Curve → List ℕ) → rows one ≡ rows other → (curve ≡ one) ⊎ (curve ≡ other) → rows one ≡ rows curve
of_kinds rows same (inl is) = ap rows (sym is)
of_kinds rows same (inr is) = same ∙ ap rows (sym is)

-- the rows of a summary, by the kind
abbrev rows_by : SummaryCells → List ℕ → Curve → List ℕ
rows_by group returns kind = lec_rows kind group.perspective group.set group.periods group.samples (amount_at group.maxima (group_entries group)) returns group.summary

-- both kinds are made of the losses of samples, and so is a curve of one of them
of_samples : {one other curve : Curve} → ranks_samples one ≡ true → ranks_samples other ≡ true → (curve ≡ one) ⊎ (curve ≡ other) → ranks_samples curve ≡ true
of_samples first second (inl is) = ap ranks_samples is ∙ first
of_samples first second (inr is) = ap ranks_samples is ∙ second

pub returns-in-FullAep-clause-ok : goal.returns-in-FullAep-clause-ok
returns-in-FullAep-clause-ok c = on_more c.append_full.result (λ rows. rows ∙ ap (λ text. c.args.out.now ++ text) (of_kinds (rows_by c.args.group.now c.args.returns.now) refl c.in-FullAep.is)) c.append_full.ensures.ok

pub returns-in-SampleAep-clause-ok : goal.returns-in-SampleAep-clause-ok
returns-in-SampleAep-clause-ok c = on_more c.append_period_means.result (λ rows. rows ∙ ap (λ text. c.args.out.now ++ text) (of_kinds (rows_by c.args.group.now c.args.returns.now) refl c.in-SampleAep.is)) c.append_period_means.ensures.ok

pub append_wheat-requires-clause-samples : goal.append_wheat-requires-clause-samples
append_wheat-requires-clause-samples c = c.requires.samples (of_samples refl refl c.in-WheatAep.is)

pub returns-in-WheatAep-clause-ok : goal.returns-in-WheatAep-clause-ok
returns-in-WheatAep-clause-ok c = on_more c.append_wheat.result (λ rows. rows ∙ ap (λ text. c.args.out.now ++ text) (of_kinds (rows_by c.args.group.now c.args.returns.now) refl c.in-WheatAep.is)) c.append_wheat.ensures.ok

pub append_rank_means-requires-clause-samples : goal.append_rank_means-requires-clause-samples
append_rank_means-requires-clause-samples c = c.requires.samples (of_samples refl refl c.in-WheatmeanAep.is)

pub returns-in-WheatmeanAep-clause-ok : goal.returns-in-WheatmeanAep-clause-ok
returns-in-WheatmeanAep-clause-ok c = on_more c.append_rank_means.result (λ rows. rows ∙ ap (λ text. c.args.out.now ++ text) (of_kinds (rows_by c.args.group.now c.args.returns.now) refl c.in-WheatmeanAep.is)) c.append_rank_means.ensures.ok
