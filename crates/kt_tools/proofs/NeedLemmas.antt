-- The tables that a tool stands on are among those that its command needs.
use Rattle.std.proofs.Common.{◌≡◌, ◌≢◌, ◌∙◌, ◌<◌, ℕ, zero, suc, Bool, true, false, List, [], ◌∷◌, Option, Some, refl, sym, ap, subst, arith}
use Rattle.std.specs.Prelude.{IfSome, slice_index_or, slice_set}
use Rattle.kt_event.specs.Needs.{chain_need, chain_tables, programme_tables, with_stages, with_tables}
use Rattle.kt_block.specs.Terms.{AreTerms, has_net}
use Rattle.kt_keys.specs.Refusals.{is_loaded}
use Rattle.kt_keys.specs.declared.need.Need.{Need}
use Rattle.kt_load.specs.EventRows.{HasFootprint}
use Rattle.kt_load.specs.FileNames.{table_at}
use Rattle.kt_load.specs.FootprintSize.{footprint_size-known}
use Rattle.kt_out.specs.InputFiles.{InputsState}
use Rattle.kt_rec.specs.TableSet.{is_in, place_of, with_table}
use Rattle.kt_rec.specs.declared.curve.Curve.{Curve}
use Rattle.kt_rec.specs.declared.perspective.Perspective.{Perspective}
use Rattle.kt_rec.specs.declared.perspective.Perspective.TheVariants.{Gul, Il, Ri}
use Rattle.kt_rec.specs.declared.table.Table.{Table}
use Rattle.kt_rec.specs.declared.table.Table.TheVariants as table
use Rattle.kt_rec.specs.declared.table.TableId.{TableId}
use Rattle.kt_rec.specs.declared.table_set.TableSet.{TableSet}
use Rattle.kt_tables.specs.Portfolio.{PortfolioRows}
use Rattle.kt_front.specs.Loading.{IsOfFiles}
use Rattle.kt_front.specs.ModelStage.{IsModelReady}
use Rattle.kt_tools.specs.Needs.{chain_terms, command_need}
use Rattle.kt_tools.specs.Uses.{command_uses}
use Rattle.kt_words.specs.Command.{AreNet, IsChain}
use Rattle.kt_words.specs.declared.command.Command.{Command}
use Rattle.kt_words.specs.declared.command.Command.TheVariants.{Fmcalc, FmcalcNet, Aalcalc, Leccalc, Getmodel, Gulcalc, Eltcalc, Convert, Chain, Gen}

-- a command loads a table
abbrev pub Loads : ℕ → Table → Option Need → Type 0
Loads stage t need = IfSome need (λ one. is_loaded one stage t ≡ true)

-- what the need of a command has, its portfolio has
pub has : (P : Need → Type 0) (command same : Command) (need : Need) → command ≡ same → command_need command ≡ Some need → IfSome (command_need same) P → P need
has P command same need is needs holds = subst (λ (one : Option Need). IfSome one P) (sym (ap command_need is) ∙ needs) holds

pub loads : (stage : ℕ) (t : Table) (command same : Command) (need : Need) → command ≡ same → command_need command ≡ Some need → Loads stage t (command_need same) → is_loaded need stage t ≡ true
loads stage t command same need is needs holds = has (λ one. is_loaded one stage t ≡ true) command same need is needs holds

pub insured_loads : (rule : ℕ) → Loads 0 table.FmProgramme (command_need (Fmcalc rule))
unfolding is_loaded
insured_loads rule = refl

-- each of the ten programmes
pub net_loads : (rule stage : ℕ) → stage < 10 → Loads stage table.FmProgramme (command_need (FmcalcNet rule stage))
unfolding is_loaded
net_loads rule zero below = refl
net_loads rule (suc zero) below = refl
net_loads rule (suc (suc zero)) below = refl
net_loads rule (suc (suc (suc zero))) below = refl
net_loads rule (suc (suc (suc (suc zero)))) below = refl
net_loads rule (suc (suc (suc (suc (suc zero))))) below = refl
net_loads rule (suc (suc (suc (suc (suc (suc zero)))))) below = refl
net_loads rule (suc (suc (suc (suc (suc (suc (suc zero))))))) below = refl
net_loads rule (suc (suc (suc (suc (suc (suc (suc (suc zero)))))))) below = refl
net_loads rule (suc (suc (suc (suc (suc (suc (suc (suc (suc zero))))))))) below = refl
net_loads rule (suc (suc (suc (suc (suc (suc (suc (suc (suc (suc stage)))))))))) below = absurd (omega arith)

pub aal_loads : Loads 0 table.Occurrence (command_need Aalcalc)
unfolding is_loaded
aal_loads = refl

pub lec_loads : (curve : Curve) → Loads 0 table.Occurrence (command_need (Leccalc curve))
unfolding is_loaded
lec_loads curve = refl

pub random_loads : (samples : ℕ) (cut : Bool) → Loads 0 table.Random (command_need (Gulcalc samples cut))
unfolding is_loaded
random_loads samples cut = refl

pub bins_loads : (samples : ℕ) (cut : Bool) → Loads 0 table.DamageBinDict (command_need (Gulcalc samples cut))
unfolding is_loaded
bins_loads samples cut = refl

-- what the tool of damage distributions stands on
abbrev pub LoadsHazard : Need → Type 0
LoadsHazard need = (is_loaded need 0 table.DamageBinDict ≡ true) × (is_loaded need 0 table.Footprint ≡ true) × (is_loaded need 0 table.FootprintIdx ≡ true)

hazard_loads : IfSome (command_need Getmodel) LoadsHazard
unfolding is_loaded
hazard_loads = (refl, refl, refl)

pub model_ready : (command : Command) (portfolio : PortfolioRows) (inputs : InputsState) → command ≡ Getmodel → command_need command ≡ Some portfolio.need → IsOfFiles inputs portfolio → IsModelReady portfolio inputs.held
model_ready command portfolio inputs is needs are =
    let hazard = has LoadsHazard command Getmodel portfolio.need is needs hazard_loads in
    record {
      bins = hazard.0;
      footprint = hazard.1;
      index = hazard.2;
      file = footprint_size-known inputs.held portfolio.need portfolio.rows are (has (λ one. is_in one.loaded (table_at 0 table.Footprint) ≡ true) command Getmodel portfolio.need is needs refl);
    }

-- ---- a run of all stages

-- net losses have an allocation rule of items
of_items : (last : Perspective) (rule stages : ℕ) → AreNet last rule stages → has_net last ≡ true → rule ≢ 0
of_items Gul rule stages net is = cc
of_items Il rule stages net is = cc
of_items Ri rule stages net is = λ none. omega (arith, net.0, none)

-- the words of a run are terms that it can have
pub are_terms : (samples : ℕ) (cut : Bool) (rule : ℕ) (last : Perspective) (stages workers batch : ℕ) → IsChain samples rule last stages workers batch → AreTerms (chain_terms samples cut rule last stages)
are_terms samples cut rule last stages workers batch is = record { some = is.some_samples; few = is.few_samples; rule = is.known_rule; stages = is.few_stages; of_items = of_items last rule stages is.net }

-- what is in a set stays there
kept : (set : List Bool) (place other : ℕ) → slice_index_or set other false ≡ true → slice_index_or (slice_set set place true) other false ≡ true
kept [] place other is = is
kept (one ∷ set) zero zero is = refl
kept (one ∷ set) zero (suc other) is = is
kept (one ∷ set) (suc place) zero is = is
kept (one ∷ set) (suc place) (suc other) is = kept set place other is

kept_behind : (set : TableSet) (stage : ℕ) (tables : List Table) (id : TableId) → is_in set id ≡ true → is_in (with_tables set stage tables) id ≡ true
kept_behind set stage [] id is = is
kept_behind set stage (one ∷ more) id is = kept_behind (with_table set (table_at stage one)) stage more id (kept set.present (place_of (table_at stage one)) (place_of id) is)

kept_by_stages : (set : TableSet) (stages : ℕ) (id : TableId) → is_in set id ≡ true → is_in (with_stages set stages) id ≡ true
kept_by_stages set zero id is = is
kept_by_stages set (suc stages) id is = kept_behind (with_stages set stages) (suc stages) programme_tables id (kept_by_stages set stages id is)

-- every run loads the footprint
chain_footprint : (last : Perspective) (stages : ℕ) → is_in (chain_tables last stages) (table_at 0 table.Footprint) ≡ true
chain_footprint Gul stages = refl
chain_footprint Il stages = refl
chain_footprint Ri stages = kept_by_stages (chain_tables Il stages) stages (table_at 0 table.Footprint) refl

-- the portfolio of a run was loaded for its terms
pub chain_has : (command : Command) (need : Need) (samples : ℕ) (cut : Bool) (rule : ℕ) (last : Perspective) (stages workers batch : ℕ) → command ≡ Chain samples cut rule last stages workers batch → command_need command ≡ Some need → need ≡ chain_need (chain_terms samples cut rule last stages)
chain_has command need samples cut rule last stages workers batch is needs = has (λ one. one ≡ chain_need (chain_terms samples cut rule last stages)) command (Chain samples cut rule last stages workers batch) need is needs refl

-- the footprint's file is as long as it was when the tables were loaded
pub chain_file : (command : Command) (portfolio : PortfolioRows) (inputs : InputsState) (samples : ℕ) (cut : Bool) (rule : ℕ) (last : Perspective) (stages workers batch : ℕ) → command ≡ Chain samples cut rule last stages workers batch → command_need command ≡ Some portfolio.need → IsOfFiles inputs portfolio → HasFootprint inputs.held portfolio.rows.footprint_size
chain_file command portfolio inputs samples cut rule last stages workers batch is needs are =
    footprint_size-known inputs.held portfolio.need portfolio.rows are
    (has (λ one. is_in one.loaded (table_at 0 table.Footprint) ≡ true) command (Chain samples cut rule last stages workers batch) portfolio.need is needs (chain_footprint last stages))

-- a command that needs tables uses the input files
pub uses_files : (command : Command) (need : Need) → command_need command ≡ Some need → (command_uses command).inputs ≡ true
uses_files (Eltcalc heading) need is = cc
uses_files (Convert conversion) need is = cc
uses_files (Gen seed items events workers) need is = cc
uses_files command need is = refl
