-- A split run from the portfolio of its run: what each event gives at each stage may stand in a stream and is one run.
use Rattle.std.proofs.Common.{◌≡◌, ◌≤◌, ℕ, ℤ, Bool, true, false, ◌||◌, cond, nat_lt, List, [], ◌∷◌, length, min, map, All, None, refl, sym, ap, ◌∙◌, subst, nat_eq, filter_map, arith, eq-eqb}
use Rattle.std.specs.List.{AllByRecursion, IsDistinct, cons_option, list_any}
use Rattle.std.specs.List.Sorted.{IsStrictlyIncreasing}
use Rattle.std.proofs.lemmas.List.Elements.{All-from_recursion, recursion_from_All}
use Rattle.kt_eve.specs.Laws.{PartsMakeTheEvents}
use Rattle.kt_gul.specs.GroundUp.{by_id, ground_up_loss, ground_up_records, insert_by_id, item_record, pairs_of, record_with as gul_record_with}
use Rattle.kt_gul.specs.StruckItems.{AreCdfs}
use Rattle.kt_kat.specs.StreamsJoined.{cdfs_join, ground_up_joins, kat_joins}
use Rattle.kt_load.specs.EventRows.{event_rows}
use Rattle.kt_losses.specs.Judged.{is_known}
use Rattle.kt_loop.specs.EventRuns.{IsEventRun}
use Rattle.kt_loop.specs.EventStreams.{FitsStream, stream_bytes}
use Rattle.kt_loop.specs.ListLaws.{all_by}
use Rattle.kt_loop.specs.Runs.{cdf_key}
use Rattle.kt_out.specs.NamedFiles.{FileMap}
use Rattle.kt_rec.specs.FootRows.{first_refused_row}
use Rattle.kt_ends.specs.Outcome.{Outcome}
use Rattle.kt_rec.specs.Ranges.{AreInRange, IsId as RangeId}
use Rattle.kt_rec.specs.Rows.{Rows}
use Rattle.kt_rec.specs.declared.exposure.Item.{Item}
use Rattle.kt_rec.specs.declared.hazard.Event.{Event}
use Rattle.kt_runs.specs.RunLosses.{run_loss}
use Rattle.kt_stream.specs.Bins.{IsCdf, cdf_form, cdf_shape}
use Rattle.kt_stream.specs.EventIds.{event_form, event_shape}
use Rattle.kt_stream.specs.Losses.{IsLoss, loss_form, loss_shape}
use Rattle.kt_stream.specs.Pairs.{IsId}
use Rattle.kt_stream.specs.Stream.{stream_limit}
use Rattle.kt_stream.specs.declared.entry.Cdf.{Cdf}
use Rattle.kt_stream.specs.declared.entry.LossRecord.{LossRecord}
use Rattle.kt_stream.specs.declared.entry.Pair.{Pair}
use Rattle.kt_stream.specs.declared.event_id.EventId.{EventId}
use Rattle.kt_stream.specs.declared.kind.StreamKind.TheVariants.{Gul}
use Rattle.kt_tables.specs.Lookups.{event_ids}
use Rattle.kt_words.specs.declared.command.Command.TheVariants.{Eve, Getmodel, Gulcalc}
use Rattle.kt_split.proofs.ModelByEvents.{ids_are}
use Rattle.kt_split.proofs.RunsOfEvents.{IsCdfOf, cdfs_run, losses_run}
use Rattle.kt_split.proofs.SplitStages.{StandsAt, WholeFits, gul_one, model_one, next_stands, stands_join, whole_is}
use Rattle.kt_split.specs.ByEvents.{IsLossRun, cdfs_of, event_entry, losses_of_cdfs}
use Rattle.kt_front.specs.GulOutcome.{gul_head}
use Rattle.kt_front.specs.ModelOutcome.{plain_head}
use Rattle.kt_front.specs.EventList.{event_bytes}
use Rattle.kt_split.specs.SplitFacts.{GulFacts, ModelFacts, ReadsAll, good_cdf, good_event, good_loss}
use Rattle.kt_split.specs.SplitRuns.{IsServed, IsSplitRun, JoinsParts, footprint_of}

-- ---- the ids of ground-up losses are those of items

module _ (test : ℕ → Bool) where
  abbrev HasId : Item → Type 0
  HasId row = test row.item_id ≡ true

  inserted : (row : Item) (rows : List Item) → HasId row → AllByRecursion HasId rows → AllByRecursion HasId (insert_by_id row rows)
  inserted row [] is all = (is, tt)
  inserted row (other ∷ rows) is all = by (nat_lt row.item_id other.item_id) (inserted row rows is all.1)
    where
      by : (b : Bool) → AllByRecursion HasId (insert_by_id row rows) → AllByRecursion HasId (cond b (row ∷ other ∷ rows) (other ∷ insert_by_id row rows))
      by true rest = (is, (all.0, all.1))
      by false rest = (all.0, rest)

  in_order : (rows : List Item) → AllByRecursion HasId rows → AllByRecursion HasId (by_id rows)
  in_order [] all = tt
  in_order (row ∷ rows) all = inserted row (by_id rows) all.0 (in_order rows all.1)

  module _ (rows : Rows) (samples : ℕ) (cut : Bool) (event : ℕ) (cdfs : List Cdf) where
    records_have : (items : List Item) → AllByRecursion HasId items → AllByRecursion (λ (entry : LossRecord). test entry.id ≡ true) (filter_map (item_record rows samples cut event cdfs) items)
    records_have [] all = tt
    records_have (row ∷ items) all = by (gul_pairs row) (records_have items all.1)
      where
        gul_pairs : Item → List Pair
        gul_pairs one = pairs_of (ground_up_loss rows cut event cdfs one) samples

        by : (pairs : List Pair) → AllByRecursion (λ (entry : LossRecord). test entry.id ≡ true) (filter_map (item_record rows samples cut event cdfs) items)
            → AllByRecursion (λ (entry : LossRecord). test entry.id ≡ true) (cons_option (gul_record_with event row.item_id pairs) (filter_map (item_record rows samples cut event cdfs) items))
        by [] rest = rest
        by (pair ∷ pairs) rest = (all.0, rest)

itself_among : (items : List Item) → AllByRecursion (λ (row : Item). list_any (nat_eq row.item_id) (map (λ (row : Item). row.item_id) items) ≡ true) items
itself_among items = each items (λ id is. is)
  where
    each : (some : List Item) → ((id : ℕ) → list_any (nat_eq id) (map (λ (row : Item). row.item_id) some) ≡ true → list_any (nat_eq id) (map (λ (row : Item). row.item_id) items) ≡ true) → AllByRecursion (λ (row : Item). list_any (nat_eq row.item_id) (map (λ (row : Item). row.item_id) items) ≡ true) some
    each [] on = tt
    each (row ∷ later) on = (
      on row.item_id (ap (λ (b : Bool). b || list_any (nat_eq row.item_id) (map (λ (row : Item). row.item_id) later)) (eq-eqb row.item_id row.item_id refl)),
      each later (λ id is. on id (ap (λ (b : Bool). nat_eq id row.item_id || b) is ∙ or_true (nat_eq id row.item_id))),
    )
      where
        or_true : (a : Bool) → (a || true) ≡ true
        or_true true = refl
        or_true false = refl

module _ (files : FileMap) (samples : ℕ) (cut : Bool) (rows : Rows) (few_samples : (1 ≤ samples) × (samples ≤ 1000)) (reads : ReadsAll) (together : PartsMakeTheEvents) (distinct : IsDistinct nat_eq (event_ids rows)) (in_range : AreInRange rows) (model : ModelFacts rows) (gul : GulFacts rows) where
  abbrev foot : List ℕ
  foot = footprint_of files

  abbrev events_of : List ℕ
  events_of = event_ids rows

  abbrev EveIsServed : Type 0
  EveIsServed = (p n : ℕ) → IsServed files samples foot rows (Eve p n)

  -- the ids of events
  are_ids : AllByRecursion IsId events_of
  are_ids = each rows.events (recursion_from_All (λ (row : Event). RangeId row.event_id) rows.events in_range.events)
    where
      each : (some : List Event) → AllByRecursion (λ (row : Event). RangeId row.event_id) some → AllByRecursion IsId (map (λ (row : Event). row.event_id) some)
      each [] all = tt
      each (row ∷ later) all = ((all.0.least, all.0.most), each later all.1)

  module _ (eve : EveIsServed) where
    abbrev pub Unrefused : ℕ → Type 0
    Unrefused event = first_refused_row (event_rows rows foot event) ≡ None

    ids_fit : WholeFits files [] → FitsStream EventId event_form good_event event_shape plain_head event_entry events_of
    ids_fit within = record {
      in_range = (refl, refl);
      each = all_by IsId (λ (event : ℕ). AllByRecursion (good_event event_shape 0) (event_entry event)) (λ event is. (is, tt)) events_of are_ids;
      within = subst (λ (bytes : List ℕ). length bytes ≤ stream_limit) (sym (ids_are events_of)) (subst (λ (made : Outcome). length made.output ≤ stream_limit) (whole_is files samples foot rows reads together eve [] event_bytes (λ part stretch. refl)) within);
    }

    -- ---- distributions

    pub record IsModelled (event : ℕ) : Type 0 where
      pub are : AreCdfs (length rows.damage_bin_dict) (cdfs_of rows foot event)
      pub each : AllByRecursion (IsCdf (length rows.damage_bin_dict)) (cdfs_of rows foot event)
      pub run : IsEventRun cdf_key event (cdfs_of rows foot event)
      pub id : IsId event

    modelled : (events : List ℕ) → AllByRecursion IsId events → AllByRecursion Unrefused events → AllByRecursion IsModelled events
    modelled [] ids none = tt
    modelled (event ∷ later) ids none = (one, modelled later ids.1 none.1)
      where
        good : AllByRecursion (IsCdf (length rows.damage_bin_dict)) (cdfs_of rows foot event)
        good = recursion_from_All (IsCdf (length rows.damage_bin_dict)) (cdfs_of rows foot event) (model.good event (event_rows rows foot event) ids.0 none.0)

        both : (cdfs : List Cdf) → AllByRecursion (IsCdf (length rows.damage_bin_dict)) cdfs → AllByRecursion (λ (cdf : Cdf). cdf.event ≡ event) cdfs → AllByRecursion (IsCdfOf event) cdfs
        both [] all are = tt
        both (cdf ∷ cdfs) all are = let most = all.0.vulnerability.1 in (record { same = are.0; few = omega (arith, most) }, both cdfs all.1 are.1)

        one : IsModelled event
        one = record {
          are = record { each = model.good event (event_rows rows foot event) ids.0 none.0; rising = model.rising event (event_rows rows foot event) };
          each = good;
          run = cdfs_run event (cdfs_of rows foot event) (both (cdfs_of rows foot event) good (recursion_from_All (λ (cdf : Cdf). cdf.event ≡ event) (cdfs_of rows foot event) (model.event event (event_rows rows foot event)))) (model.rising event (event_rows rows foot event));
          id = ids.0;
        }

    few_bins : (most : ℕ) (cdf : Cdf) → IsCdf most cdf → IsCdf 1000 cdf
    few_bins most cdf is = record { event = is.event; areaperil = is.areaperil; vulnerability = is.vulnerability; some = is.some; few = fewer is.few; bins = is.bins }
      where
        fewer : length cdf.bins ≤ min most 1000 → length cdf.bins ≤ min 1000 1000
        fewer few = omega (arith, few)

    module _ (none : AllByRecursion Unrefused events_of) where
      are_modelled : AllByRecursion IsModelled events_of
      are_modelled = modelled events_of are_ids none

      cdfs_stand : (most : ℕ) → ((cdf : Cdf) → IsCdf (length rows.damage_bin_dict) cdf → IsCdf most cdf) → IsServed files samples foot rows Getmodel → WholeFits files [] → WholeFits files (Getmodel ∷ [])
          → StandsAt files (Getmodel ∷ []) cdf_form good_cdf (cdf_shape most) plain_head (cdfs_of rows foot) events_of
      cdfs_stand most fewer served ids within =
          next_stands files samples foot rows reads together eve [] Getmodel event_bytes cdf_form good_cdf (cdf_shape most) plain_head (cdfs_of rows foot) (λ part stretch. refl)
          (model_one files samples foot rows reads together eve most refl served (ids_fit ids) none) (refl, refl)
          (all_by IsModelled (λ (event : ℕ). AllByRecursion (IsCdf most) (cdfs_of rows foot event)) (λ event is. all_by (IsCdf (length rows.damage_bin_dict)) (IsCdf most) fewer (cdfs_of rows foot event) is.each) events_of are_modelled) within

      -- ---- ground-up losses

      abbrev pub losses_at : ℕ → List LossRecord
      losses_at event = losses_of_cdfs rows samples cut (cdfs_of rows foot event)

      -- what holds of no losses, and of those of an event, holds of those of its run
      by_cdfs : (P : List LossRecord → Type 0) (event : ℕ) (cdfs : List Cdf) → IsEventRun cdf_key event cdfs → P [] → P (ground_up_records rows samples cut event cdfs) → P (losses_of_cdfs rows samples cut cdfs)
      by_cdfs P event [] run nothing made = nothing
      by_cdfs P event (first ∷ later) run nothing made = subst (λ (id : ℕ). P (ground_up_records rows samples cut id (first ∷ later))) (sym run.events.0) made

      -- losses that a stream takes, far within the limit
      pub record IsGroundUp (event : ℕ) : Type 0 where
        pub run : IsLossRun true rows event (losses_at event)
        pub each : AllByRecursion (IsLoss samples) (losses_at event)
        pub within : (sidx : ℤ) → run_loss sidx (losses_at event) ≤ 200000000000000
        pub events : All (λ (entry : LossRecord). entry.event ≡ event) (losses_at event)
        pub rising : IsStrictlyIncreasing (map (λ (entry : LossRecord). entry.id) (losses_at event))

      ground_up : (event : ℕ) → IsModelled event → IsGroundUp event
      ground_up event is =
          let cdfs = cdfs_of rows foot event in
          let within = by_cdfs (λ (records : List LossRecord). (sidx : ℤ) → run_loss sidx records ≤ 200000000000000) event cdfs is.run (λ sidx. omega arith) (gul.within samples event cut cdfs is.are) in
          let are = by_cdfs (All (λ (entry : LossRecord). entry.event ≡ event)) event cdfs is.run (All-from_recursion (λ (entry : LossRecord). entry.event ≡ event) [] tt) (gul.event samples event cut cdfs) in
          let up = by_cdfs (λ (records : List LossRecord). IsStrictlyIncreasing (map (λ (entry : LossRecord). entry.id) records)) event cdfs is.run (λ k few. absurd (omega (arith, few))) (gul.rising samples event cut cdfs) in
          record {
            run = record {
              run = losses_run event (losses_at event) are up;
              known = by_cdfs (AllByRecursion (λ (entry : LossRecord). is_known true rows entry.id ≡ true)) event cdfs is.run tt
                  (records_have (λ id. is_known true rows id) rows samples cut event cdfs (by_id rows.items) (in_order (λ id. is_known true rows id) rows.items (itself_among rows.items)));
              within = λ sidx. omega (arith, within sidx);
            };
            each = by_cdfs (AllByRecursion (IsLoss samples)) event cdfs is.run tt (recursion_from_All (IsLoss samples) (ground_up_records rows samples cut event cdfs) (gul.good samples event cut cdfs is.id is.are));
            within = within;
            events = are;
            rising = up;
          }

      pub are_ground_up : AllByRecursion IsGroundUp events_of
      are_ground_up = all_by IsModelled IsGroundUp ground_up events_of are_modelled

      pub losses_stand : IsServed files samples foot rows Getmodel → IsServed files samples foot rows (Gulcalc samples cut) → WholeFits files [] → WholeFits files (Getmodel ∷ []) → WholeFits files (Getmodel ∷ Gulcalc samples cut ∷ [])
          → StandsAt files (Getmodel ∷ Gulcalc samples cut ∷ []) loss_form good_loss (loss_shape Gul) (gul_head samples) losses_at events_of
      losses_stand model_served gul_served ids cdfs within =
          let bins = length rows.damage_bin_dict in
          let before = cdfs_stand bins (λ cdf is. is) model_served ids cdfs in
          next_stands files samples foot rows reads together eve (Getmodel ∷ []) (Gulcalc samples cut) (stream_bytes cdf_form (cdf_shape bins) plain_head (cdfs_of rows foot)) loss_form good_loss (loss_shape Gul) (gul_head samples) losses_at before.makes
          (gul_one files samples foot rows reads together eve cut (cdfs_of rows foot) gul_served distinct before.fits (all_by IsModelled (λ (event : ℕ). IsEventRun cdf_key event (cdfs_of rows foot event)) (λ event is. is.run) events_of are_modelled))
          (few_samples.0, few_samples.1, refl)
          (all_by IsGroundUp (λ (event : ℕ). AllByRecursion (IsLoss samples) (losses_at event)) (λ event is. is.each) events_of are_ground_up) within

  -- ---- the laws

  pub cdf_parts_join : IsSplitRun files samples rows (Getmodel ∷ []) → JoinsParts files (Getmodel ∷ [])
  cdf_parts_join is =
      let stands = cdfs_stand is.parts is.unrefused 1000 (few_bins is.parts (length rows.damage_bin_dict)) is.served.0 (is.fits [] (record { back = Getmodel ∷ []; is = refl })) (is.fits (Getmodel ∷ []) (record { back = []; is = refl })) in
      stands_join files samples foot rows reads together is.parts (Getmodel ∷ []) cdf_form good_cdf (cdf_shape 1000) plain_head (cdfs_of rows foot) stands (kat_joins cdf_form good_cdf (cdf_shape 1000) plain_head reads.cdfs (cdfs_join plain_head))

  pub gul_parts_join : IsSplitRun files samples rows (Getmodel ∷ Gulcalc samples cut ∷ []) → JoinsParts files (Getmodel ∷ Gulcalc samples cut ∷ [])
  gul_parts_join is =
      let stands = losses_stand is.parts is.unrefused is.served.0 is.served.1.0 (is.fits [] (record { back = Getmodel ∷ Gulcalc samples cut ∷ []; is = refl })) (is.fits (Getmodel ∷ []) (record { back = Gulcalc samples cut ∷ []; is = refl })) (is.fits (Getmodel ∷ Gulcalc samples cut ∷ []) (record { back = []; is = refl })) in
      stands_join files samples foot rows reads together is.parts (Getmodel ∷ Gulcalc samples cut ∷ []) loss_form good_loss (loss_shape Gul) (gul_head samples) (losses_at is.parts is.unrefused) stands (kat_joins loss_form good_loss (loss_shape Gul) (gul_head samples) reads.losses (ground_up_joins (gul_head samples)))
