-- What all events of a run share.
-- The rules: docs/FINANCIAL_MODULE.md, "Levels", "Reinsurance".
use Rattle.std.specs.Prelude.{◌≡◌, ◌⊎◌, ℕ, Option, Some, None, Result, Err}
use Rattle.kt_alloc.specs.Index.{AreIndexed}
use Rattle.kt_rec.specs.Rows.{Rows}
use Rattle.kt_rec.specs.declared.foot_rows.ModelStop.{ModelStop}
use Rattle.kt_rec.specs.declared.foot_rows.ModelStop.TheVariants.{OutOfMemory}
use Rattle.kt_rec.specs.declared.perspective.Perspective.{Perspective}
use Rattle.kt_rec.specs.declared.perspective.Perspective.TheVariants.{Gul, Il, Ri}
use Rattle.kt_ri.specs.Stages.{AreStages}
use Rattle.kt_structure.specs.Structure.{IsStructure, kept_by}
use Rattle.kt_tables.specs.Portfolio.{PortfolioRows}
use Rattle.kt_fmtree.specs.Programme.{tree_of}
use Rattle.kt_event.specs.Losses.{stage_trees}
use Rattle.kt_event.specs.Needs.{chain_need}
use Rattle.kt_block.specs.Terms.{AreTerms}
use Rattle.kt_event.specs.declared.plan.Base.{Base}
use Rattle.kt_event.specs.declared.plan.Plan.{Plan}
use Rattle.kt_block.specs.declared.terms.Terms.{Terms}

-- the structure of the base's programme and its outputs
pub record IsBase (rows : Rows) (base : Base) : Type 0 where
  pub structure : IsStructure (tree_of rows 0) (kept_by base.structure)
  pub outputs : AreIndexed rows.fm_xref base.outputs

-- there is a base exactly where there are insured losses
abbrev pub HasBase : Perspective → Rows → Option Base → Type 0
HasBase Gul rows None = Unit {0}
HasBase Gul rows (Some base) = ⊥
HasBase Il rows None = ⊥
HasBase Il rows (Some base) = IsBase rows base
HasBase Ri rows None = ⊥
HasBase Ri rows (Some base) = IsBase rows base

-- the stages whose programmes are kept: those of net losses
abbrev pub kept_stages : Perspective → ℕ → ℕ
kept_stages Gul stages = 0
kept_stages Il stages = 0
kept_stages Ri stages = stages

-- the terms of a plan
abbrev pub terms_of : Plan → Terms
terms_of plan = plan.terms

-- a plan is that of a portfolio, which was loaded for its terms
pub record IsPlan (portfolio : PortfolioRows) (plan : Plan) : Type 0 where
  pub terms : AreTerms plan.terms
  pub need : portfolio.need ≡ chain_need plan.terms
  pub base : HasBase plan.terms.last portfolio.rows plan.base
  pub stages : AreStages (stage_trees portfolio.rows (kept_stages plan.terms.last plan.terms.stages)) plan.stages.items

-- an answer is this one, or want of memory
abbrev pub IsOrMemory : {A : Type 0} → Result A ModelStop → Result A ModelStop → Type 0
IsOrMemory wanted answer = (answer ≡ wanted) ⊎ (answer ≡ Err OutOfMemory)
