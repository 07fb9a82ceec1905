-- A record goes on a run by the last record of it.
use Rattle.std.proofs.Common.{◌≡◌, ℕ, ◌-◌, ◌<◌, List, [], ◌∷◌, length, get_or, sym, ap, ◌∙◌, arith, suc}
use Rattle.kt_stream.specs.declared.entry.Placed.{Placed}
use Rattle.kt_loop.specs.declared.run_key.RunKey.{RunKey}
use Rattle.kt_loop.specs.Runs.{goes_on, joins}

pub joins_last : {E : Type 0} (key : E → RunKey) (run : List (Placed E)) (next last : Placed E) → 0 < length run → last ≡ get_or run (length run - 1) last → joins key run next ≡ goes_on (key last.entry) (key next.entry)
joins_last key [] next last some is = absurd (omega arith)
joins_last key (first ∷ []) next last some is = ap (λ (placed : Placed _). goes_on (key placed.entry) (key next.entry)) (sym is)
joins_last key (first ∷ (second ∷ later)) next last some is =
    let e : length (first ∷ (second ∷ later)) - 1 ≡ suc (length (second ∷ later) - 1) = omega arith in
    joins_last key (second ∷ later) next last (omega arith) (is ∙ ap (λ (n : ℕ). get_or (first ∷ (second ∷ later)) n last) e)
