-- The runs of a stream of distributions are what ground-up losses are made of.
use Rattle.std.proofs.Common.{◌≡◌, ℕ, ◌+◌, ◌*◌, ◌<◌, ◌^◌, Bool, true, false, List, [], ◌∷◌, zero, suc, Option, None, Some, length, get_or, map, refl, ap, sym, subst, arith, add-one, ◌∙◌}
use Rattle.std.specs.Prelude.{nat_eq, nat_lt, ◌&&◌, ◌||◌, slice_index}
use Rattle.std.specs.List.{AllByRecursion, flat_map}
use Rattle.std.specs.List.Sorted.{IsStrictlyIncreasing}
use Rattle.std.proofs.lemmas.Bool.{eqb-true, ltb-true}
use Rattle.std.proofs.lemmas.List.Elements.{All-from_recursion}
use Rattle.kt_gul.specs.GroundUp.{ground_up_records}
use Rattle.kt_gul.specs.StruckItems.{AreCdfs, cdf_key as place_key}
use Rattle.kt_ends.specs.declared.status.Refusal.{Refusal}
use Rattle.kt_loop.specs.ByRun.{RunCalculation, by_run, outcome_by_run}
use Rattle.kt_loop.specs.Outcome.{outcome}
use Rattle.kt_loop.specs.Runs.{IsRun, bare, cdf_key, goes_on}
use Rattle.kt_loop.specs.declared.run_key.RunKey.{RunKey}
use Rattle.kt_stream.specs.declared.stop.StreamStop.{StreamStop}
use Rattle.kt_rec.specs.Rows.{Rows}
use Rattle.kt_stream.specs.Bins.{IsCdf, cdf_form, cdf_shape}
use Rattle.kt_stream.specs.Losses.{loss_bytes}
use Rattle.kt_stream.specs.Reader.{IsPlaced}
use Rattle.kt_stream.specs.declared.entry.Cdf.{Cdf}
use Rattle.kt_stream.specs.declared.entry.Placed.{Placed}
use Rattle.kt_stream.specs.declared.kind.Head.{Head}
use Rattle.kt_front.specs.GulOutcome.{GulMade, GulOptions, gul_runs, made_runs, run_losses}

-- the keys of two pairs are in the order of the pairs
key_rises : (one two other next : ℕ) → two < 2 ^ 32 → next < 2 ^ 32 → (nat_lt one other || (nat_eq one other && nat_lt two next)) ≡ true → one * 2 ^ 32 + two < other * 2 ^ 32 + next
key_rises one two other next short fits is = by_tests (nat_lt one other) (nat_eq one other) (nat_lt two next) refl refl refl is
  where
    by_tests : (less same later : Bool) → nat_lt one other ≡ less → nat_eq one other ≡ same → nat_lt two next ≡ later → (less || (same && later)) ≡ true → one * 2 ^ 32 + two < other * 2 ^ 32 + next
    by_tests true same later l s r h = omega (arith, ltb-true one other l)
    by_tests false true true l s r h = omega (arith, eqb-true one other s, ltb-true two next r)
    by_tests false true false l s r h = cc
    by_tests false false later l s r h = cc

both_parts : (a b : Bool) → (a && b) ≡ true → (a ≡ true) × (b ≡ true)
both_parts true b is = (refl, is)
both_parts false b is = cc

-- the records of a run are those that it holds
map_bare : (run : List (Placed Cdf)) → map (λ placed. placed.entry) run ≡ bare run
map_bare [] = refl
map_bare (placed ∷ later) = ap (λ (rest : List Cdf). placed.entry ∷ rest) (map_bare later)

module _ (bins : ℕ) (head : Head) where
  abbrev IsGood : Placed Cdf → Type 0
  IsGood placed = IsPlaced Cdf cdf_form (λ shape samples cdf. IsCdf shape.bins cdf) (cdf_shape bins) head placed

  each_good : (run : List (Placed Cdf)) → AllByRecursion IsGood run → AllByRecursion (IsCdf bins) (bare run)
  each_good [] all = tt
  each_good (placed ∷ later) all = (all.0.good, each_good later all.1)

  -- the next of a run has a greater key
  step : (first second : Placed Cdf) → IsGood first → IsGood second → goes_on (cdf_key first.entry) (cdf_key second.entry) ≡ true → place_key first.entry < place_key second.entry
  step first second one other is =
      let short = one.good.vulnerability.1 in
      let fits = other.good.vulnerability.1 in
      key_rises first.entry.areaperil first.entry.vulnerability second.entry.areaperil second.entry.vulnerability (omega arith) (omega arith) (both_parts _ _ is).1

  rises : (run : List (Placed Cdf)) → AllByRecursion IsGood run → IsRun cdf_key run → (k : ℕ) → suc k < length (map place_key (bare run)) → slice_index (map place_key (bare run)) k < slice_index (map place_key (bare run)) (suc k)
  rises [] all is k within = absurd (omega arith)
  rises (last ∷ []) all is k within = absurd (omega arith)
  rises (first ∷ (second ∷ later)) all is zero within = step first second all.0 all.1.0 is.0
  rises (first ∷ (second ∷ later)) all is (suc k) within = rises (second ∷ later) all.1 is.1 k (omega arith)

  rising : (run : List (Placed Cdf)) → AllByRecursion IsGood run → IsRun cdf_key run → IsStrictlyIncreasing (map place_key (bare run))
  rising run all is = λ k within. subst (λ n. slice_index (map place_key (bare run)) k < slice_index (map place_key (bare run)) n) (sym (add-one k)) (rises run all is k (subst (λ n. n < length (map place_key (bare run))) (add-one k) within))

  pub are_cdfs : (run : List (Placed Cdf)) → AllByRecursion IsGood run → IsRun cdf_key run → AreCdfs bins (map (λ placed. placed.entry) run)
  are_cdfs run all is = subst (AreCdfs bins) (sym (map_bare run)) (record { each = All-from_recursion (IsCdf bins) (bare run) (each_good run all); rising = rising run all is })

-- the losses of a run that is not empty
pub losses_of_run : (rows : Rows) (options : GulOptions) (run : List (Placed Cdf)) (first : Placed Cdf) → 0 < length run → first ≡ get_or run 0 first → run_losses rows options (bare run) ≡ flat_map loss_bytes (ground_up_records rows options.0 options.1 first.entry.event (map (λ placed. placed.entry) run))
losses_of_run rows options [] first some is = absurd (omega arith)
losses_of_run rows options (placed ∷ later) first some is =
    ap (λ (one : Placed Cdf). flat_map loss_bytes (ground_up_records rows options.0 options.1 one.entry.event (bare (placed ∷ later)))) (sym is)
    ∙ ap (λ (cdfs : List Cdf). flat_map loss_bytes (ground_up_records rows options.0 options.1 first.entry.event cdfs)) (sym (map_bare (placed ∷ later)))

-- a calculation run by run in words of its runs
abbrev GivesText : Type 0 → Type 0
GivesText P = (key : Cdf → RunKey) (runs : RunCalculation Head Cdf P Refusal) (kept : P) (head : Head) (entries : List (Placed Cdf)) (fault : Option StreamStop) → outcome (by_run key runs) (record { kept = kept; run = [] }) (record { head = Some head; entries = entries; fault = fault }) ≡ outcome_by_run key runs head (runs.opens head kept).text (runs.opens head kept).next entries fault

-- made with the tables, the losses are those by their rows
pub same_losses : (made : GulMade) → GivesText GulOptions → GivesText GulMade → (head : Option Head) (entries : List (Placed Cdf)) (fault : Option StreamStop)
    → outcome (by_run cdf_key (gul_runs (λ (head : Head). made.1.rows))) (record { kept = made.0; run = [] }) (record { head = head; entries = entries; fault = fault }) ≡ outcome (by_run cdf_key made_runs) (record { kept = made; run = [] }) (record { head = head; entries = entries; fault = fault })
same_losses made plain whole None entries None = refl
same_losses made plain whole None entries (Some stop) = refl
same_losses made plain whole (Some head) entries fault = plain cdf_key (gul_runs (λ (head : Head). made.1.rows)) made.0 head entries fault ∙ sym (whole cdf_key made_runs made head entries fault)
