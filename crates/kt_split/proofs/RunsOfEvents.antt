-- What a stage makes of an event is one run of that event.
use Rattle.std.proofs.Common.{◌≡◌, ◌<◌, ◌≤◌, ◌*◌, ◌^◌, ◌+◌, ℕ, Bool, true, false, nat_eq, nat_lt, ◌&&◌, ◌||◌, List, [], ◌∷◌, map, All, refl, sym, ap₂, ◌∙◌, arith, inl, inr, lt-ltb, eq-eqb}
use Rattle.std.proofs.lemmas.Bool.{cases_lt}
use Rattle.std.proofs.lemmas.List.Elements.{recursion_from_All}
use Rattle.std.specs.List.{AllByRecursion}
use Rattle.std.specs.List.Sorted.{IsStrictlyIncreasing}
use Rattle.kt_rec.specs.RisingLaws.{rises-from_strict}
use Rattle.kt_loop.specs.EventRuns.{IsEventRun, Rises}
use Rattle.kt_loop.specs.Runs.{cdf_key, goes_on, loss_key, summary_key}
use Rattle.kt_loop.specs.declared.run_key.RunKey.{RunKey}
use Rattle.kt_rec.specs.Rising.{IsRising}
use Rattle.kt_stream.specs.declared.entry.Cdf.{Cdf}
use Rattle.kt_stream.specs.declared.entry.LossRecord.{LossRecord}
use Rattle.kt_stream.specs.declared.entry.SummaryRecord.{SummaryRecord}

-- keys of one event go on where the ids rise
goes_by_id : (one other : RunKey) → one.event ≡ other.event → one.id < other.id → goes_on one other ≡ true
goes_by_id one other same less =
    ap₂ (λ (a b : Bool). a && (b || (nat_eq one.id other.id && nat_lt one.second other.second))) (eq-eqb one.event other.event same) (lt-ltb one.id other.id less)

-- or where the ids are the same and the second numbers rise
goes_by_second : (one other : RunKey) → one.event ≡ other.event → one.id ≡ other.id → one.second < other.second → goes_on one other ≡ true
goes_by_second one other same id less =
    ap₂ (λ (a b : Bool). a && (nat_lt one.id other.id || b)) (eq-eqb one.event other.event same) (ap₂ (λ (a b : Bool). a && b) (eq-eqb one.id other.id id) (lt-ltb one.second other.second less))
    ∙ or_true (nat_lt one.id other.id)
  where
    or_true : (a : Bool) → (a || true) ≡ true
    or_true true = refl
    or_true false = refl

module _ {E : Type 0} (key : E → RunKey) (number : E → ℕ) (P : E → Type 0) (step : (one other : E) → P one → P other → number one < number other → goes_on (key one) (key other) ≡ true) where
  rises_by : (xs : List E) → AllByRecursion P xs → IsRising (map number xs) → Rises key xs
  unfolding IsRising
  rises_by [] all rising = tt
  rises_by (last ∷ []) all rising = tt
  rises_by (first ∷ (second ∷ later)) all rising = (step first second all.0 all.1.0 rising.0.0, rises_by (second ∷ later) all.1 rising.1)

-- losses
pub losses_run : (event : ℕ) (records : List LossRecord) → All (λ (entry : LossRecord). entry.event ≡ event) records → IsStrictlyIncreasing (map (λ (entry : LossRecord). entry.id) records) → IsEventRun loss_key event records
losses_run event records are rising =
    let each = recursion_from_All (λ (entry : LossRecord). entry.event ≡ event) records are in
    record {
      events = each;
      rises = rises_by loss_key (λ (entry : LossRecord). entry.id) (λ (entry : LossRecord). entry.event ≡ event)
          (λ one other is_one is_other less. goes_by_id (loss_key one) (loss_key other) (is_one ∙ sym is_other) less)
          records each (rises-from_strict (map (λ (entry : LossRecord). entry.id) records) rising);
    }

-- summaries
pub summaries_run : (event : ℕ) (records : List SummaryRecord) → All (λ (entry : SummaryRecord). entry.event ≡ event) records → IsStrictlyIncreasing (map (λ (entry : SummaryRecord). entry.summary) records) → IsEventRun summary_key event records
summaries_run event records are rising =
    let each = recursion_from_All (λ (entry : SummaryRecord). entry.event ≡ event) records are in
    record {
      events = each;
      rises = rises_by summary_key (λ (entry : SummaryRecord). entry.summary) (λ (entry : SummaryRecord). entry.event ≡ event)
          (λ one other is_one is_other less. goes_by_id (summary_key one) (summary_key other) (is_one ∙ sym is_other) less)
          records each (rises-from_strict (map (λ (entry : SummaryRecord). entry.summary) records) rising);
    }

-- a distribution of an event, whose vulnerability is a number of 32 bits
pub record IsCdfOf (event : ℕ) (cdf : Cdf) : Type 0 where
  pub same : cdf.event ≡ event
  pub few : cdf.vulnerability < 2 ^ 32

abbrev pub cdf_number : Cdf → ℕ
cdf_number cdf = cdf.areaperil * 2 ^ 32 + cdf.vulnerability

cdf_step : (event : ℕ) (one other : Cdf) → IsCdfOf event one → IsCdfOf event other → cdf_number one < cdf_number other → goes_on (cdf_key one) (cdf_key other) ≡ true
cdf_step event one other is_one is_other less =
    let same : one.event ≡ other.event = is_one.same ∙ sym is_other.same in
    elim (cases_lt one.areaperil other.areaperil) [
      | inl below ↦ goes_by_id (cdf_key one) (cdf_key other) same below
      | inr above ↦
          let equal = first_equal one.areaperil one.vulnerability other.areaperil other.vulnerability above is_one.few is_other.few less in
          goes_by_second (cdf_key one) (cdf_key other) same equal (second_less one.areaperil one.vulnerability other.areaperil other.vulnerability equal less)
    ]
  where
    first_equal : (a b c d : ℕ) → c ≤ a → b < 2 ^ 32 → d < 2 ^ 32 → a * 2 ^ 32 + b < c * 2 ^ 32 + d → a ≡ c
    first_equal a b c d above few many less = omega arith

    second_less : (a b c d : ℕ) → a ≡ c → a * 2 ^ 32 + b < c * 2 ^ 32 + d → b < d
    second_less a b c d same less = omega arith

-- distributions
pub cdfs_run : (event : ℕ) (cdfs : List Cdf) → AllByRecursion (IsCdfOf event) cdfs → IsStrictlyIncreasing (map cdf_number cdfs) → IsEventRun cdf_key event cdfs
cdfs_run event cdfs are rising = record {
  events = events cdfs are;
  rises = rises_by cdf_key cdf_number (IsCdfOf event) (cdf_step event) cdfs are (rises-from_strict (map cdf_number cdfs) rising);
}
  where
    events : (some : List Cdf) → AllByRecursion (IsCdfOf event) some → AllByRecursion (λ (cdf : Cdf). (cdf_key cdf).event ≡ event) some
    events [] all = tt
    events (cdf ∷ later) all = (all.0.same, events later all.1)
