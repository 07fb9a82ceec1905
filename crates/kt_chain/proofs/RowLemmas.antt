-- The footprint rows that were read are those of a run, and the events of a part are those between two places.
use Rattle.std.proofs.Common.{◌≡◌, ◌≤◌, ◌<◌, ℕ, suc, ◌+◌, ◌*◌, List, [], ◌∷◌, drop, length, map, min, take, Option, sym, ap, subst, ◌∙◌, arith}
use Rattle.std.specs.Prelude.{IfSome, slice_index_or}
use Rattle.std.specs.List.{AllByRecursion}
use Rattle.std.proofs.lemmas.List.{drop-take, get_or-take, length-take-le, take_min}
use Rattle.std.proofs.Math.Nat.{min_comm}
use Rattle.std.proofs.Math.Seq.{drop-cons}
use Rattle.kt_block.specs.declared.terms.Terms.{Terms}
use Rattle.kt_load.specs.EventRows.{EventRows, OnFootprint, event_rows, event_with_rows, footprint_name}
use Rattle.kt_out.specs.NamedFiles.{FileMap}
use Rattle.kt_rec.specs.Rows.{Rows}
use Rattle.kt_chain.specs.Events.{RunInput}
use Rattle.kt_chain.specs.Rounds.{HasRows, part_events}
use Rattle.kt_chain.specs.Runs.{AreGivenRows, IsRunOf}

-- events with the rows that stand in a run's footprint
each_has : (rows : Rows) (run : RunInput) → run.rows ≡ rows → (events : List ℕ) → AllByRecursion (HasRows run) (map (event_with_rows rows run.footprint) events)
each_has rows run is [] = tt
each_has rows run is (event ∷ events) = (ap (λ (r : Rows). event_rows r run.footprint event) (sym is), each_has rows run is events)

-- the rows that were read are those of every run of these input files
pub rows_given : (held : Option FileMap) (rows : Rows) (events : List ℕ) (given : List EventRows) → OnFootprint held (λ bytes. given ≡ map (event_with_rows rows bytes) events) → (terms : Terms) (run : RunInput) → IsRunOf held terms rows run → AreGivenRows run given
rows_given held rows events given known terms run is =
    let in_file : IfSome (is.files footprint_name) (λ bytes. given ≡ map (event_with_rows rows bytes) events) =
    subst (λ (files : Option FileMap). OnFootprint files (λ bytes. given ≡ map (event_with_rows rows bytes) events)) is.known known in
    let here : given ≡ map (event_with_rows rows run.footprint) events =
    subst (λ (file : Option (List ℕ)). IfSome file (λ bytes. given ≡ map (event_with_rows rows bytes) events)) is.footprint in_file in
    subst (AllByRecursion (HasRows run)) (sym here) (each_has rows run is.rows_are events)

-- the events between the places of a part are the part's
pub between_places : (given : List EventRows) (batch part first behind : ℕ) → first ≡ part * batch → behind ≡ min (length given) (part * batch + batch) → drop first (take behind given) ≡ part_events batch given part
between_places given batch part first behind first_is behind_is =
    ap (λ (n : ℕ). drop n (take behind given)) first_is
    ∙ ap (λ (n : ℕ). drop (part * batch) (take n given)) (behind_is ∙ min_comm (length given) (part * batch + batch))
    ∙ ap (drop (part * batch)) (take_min (part * batch + batch) given)
    ∙ drop-take (part * batch) batch given

-- an event of a part, and those behind it
pub next_given : (given : List EventRows) (behind n : ℕ) (none : EventRows) → n < behind → behind ≤ length given → drop n (take behind given) ≡ slice_index_or given n none ∷ drop (n + 1) (take behind given)
next_given given behind n none below within =
    let list = take behind given in
    let next : suc n ≡ n + 1 = omega arith in
    let inside : n < length list = omega (arith, below, length-take-le behind given within) in
    drop-cons list n none inside
    ∙ ap (λ (one : EventRows). one ∷ drop (suc n) list) (get_or-take behind given n none below)
    ∙ ap (λ (m : ℕ). slice_index_or given n none ∷ drop m list) next
