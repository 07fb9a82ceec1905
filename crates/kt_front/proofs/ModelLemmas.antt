-- How the tool of damage distributions takes an event.
use Rattle.std.proofs.Common.{◌≡◌, ℕ, List, [], refl, sym, subst, Option, None, Some, Result, Ok, Err}
use Rattle.std.specs.Prelude.{IfSome, IsSomeAnd, length, unwrap_or}
use Rattle.kt_ends.specs.declared.tool_stop.ToolStop.{ToolStop}
use Rattle.kt_ends.specs.declared.tool_stop.ToolStop.TheVariants as tool
use Rattle.kt_ends.specs.declared.status.Refusal.{Refusal}
use Rattle.kt_load.specs.EventRows.{HasFootprint, footprint_name}
use Rattle.kt_loop.specs.Calculation.{Step}
use Rattle.kt_loop.specs.Steps.{StepsBy}
use Rattle.kt_out.specs.NamedFiles.{FileMap}
use Rattle.kt_front.specs.ModelStage.{HoldsFootprint}

-- the footprint's file is there where files are known
pub has_footprint : (held : Option FileMap) (size : ℕ) (files : FileMap) → held ≡ Some files → HasFootprint held size → files footprint_name ≡ Some (unwrap_or (files footprint_name) [])
has_footprint held size files known has = by_file (files footprint_name) (subst (λ h. HasFootprint h size) known has)
  where
    by_file : (file : Option (List ℕ)) → IsSomeAnd file (λ bytes. length bytes ≡ size) → file ≡ Some (unwrap_or file [])
    by_file None is = absurd is
    by_file (Some bytes) is = refl

-- a step that stays at a state stands where that state does
pub steps_as : {S T : Type 0} (step : Step S Refusal) (made : S) (stands : S → Type 0) (text text_now : List ℕ) (result : Result T ToolStop) → stands made → StepsBy step (λ next. next ≡ made) text text_now result → StepsBy step stands text text_now result
steps_as step made stands text text_now (Ok done) stood steps = record { next = steps.next; reached = steps.reached; state = subst stands (sym steps.state) stood; wrote = steps.wrote }
steps_as step made stands text text_now (Err (tool.Refused why)) stood steps = steps
steps_as step made stands text text_now (Err tool.ReadFault) stood steps = steps
steps_as step made stands text text_now (Err tool.WriteFault) stood steps = steps
steps_as step made stands text text_now (Err tool.NoMemory) stood steps = steps

-- what is said of the footprint's bytes where files are known
pub of_footprint : (P : List ℕ → Type 0) (held : Option FileMap) (footprint : List ℕ) → HoldsFootprint held footprint → IfSome held (λ files. IfSome (files footprint_name) P) → P footprint
of_footprint P held footprint holds told = subst (λ (file : Option (List ℕ)). IfSome file P) holds.bytes (subst (λ (known : Option FileMap). IfSome known (λ files. IfSome (files footprint_name) P)) holds.known told)
