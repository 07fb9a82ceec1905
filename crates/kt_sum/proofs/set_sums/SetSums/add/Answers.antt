use Rattle.std.proofs.Common.{◌≡◌, Bool, false, cond, ◌+◌, ◌∷◌, ◌++◌, [], ℕ, List, map, slice_index_or, take, ap, arith, subst, sym, refl, ◌∙◌}
use Rattle.std.specs.Prelude.{All}
use Rattle.std.proofs.lemmas.Bool.{true≢false}
use Rattle.std.proofs.lemmas.List.{get_or_default, take_more, with_items_is}
use Rattle.kt_stream.specs.declared.entry.LossRecord.{LossRecord}
use Rattle.kt_runs.specs.LaneRows.{pairs_with}
use Rattle.kt_sum.specs.RunSummaries.{IsReadyRow, IsSumOf, IsThere}
use Rattle.kt_sum.specs.declared.summary_sums.SummarySums.{SummarySums}
use Rattle.kt_sum.proofs.RunSumsLemmas.{found_at, taken_within}
use Rattle.kt_sum.proofs.set_sums.SetSums.add.Goals as goal

-- a record for want of another
none : LossRecord
none = record { event = 0; id = 0; pairs = [] }

pub add_lane_entry-self-requires-clause-there : goal.add_lane_entry-self-requires-clause-there
add_lane_entry-self-requires-clause-there c =
    let it = c.args.self.now in
    let found = c.index.result.now in
    subst (λ (ids : List ℕ). IsThere ids found) (sym c.deref.ensures.value) (subst (IsThere it.summaries.items) (sym c.index.ensures) (c.requires.ready.there c.args.place found (omega (arith, c.requires.place, c.requires.ready.many))))

pub add_lane_entry-self-requires-clause-ready : goal.add_lane_entry-self-requires-clause-ready
add_lane_entry-self-requires-clause-ready c =
    subst (λ (n : ℕ). All (IsReadyRow (n + 2)) c.deref_mut.result.now) (sym c.lane.ensures.rows)
    (subst (λ (rows : List SummarySums). All (IsReadyRow (c.args.losses.now.rows + 2)) rows) (sym c.deref_mut.ensures.value) c.requires.ready.rows)

pub returns : goal.returns
returns c =
    let it = c.args.self.now in
    let losses = c.args.losses.now in
    let place = c.args.place in
    let width = c.lane.ensures.rows in
    let waits : it.waits ≡ false = c.if-self.false in
    let rows = c.add_lane_entry-self.new.rows in
    let rows_are = with_items_is it.rows rows (c.add_lane_entry-self.auto.rows ∙ c.deref_mut.ensures.len) in
    record {
      set = refl;
      waits = refl;
      ready = record {
        rising = c.requires.ready.rising;
        rows_are = ap (λ (rows : List SummarySums). map (λ row. row.summary) rows) rows_are ∙ (c.add_lane_entry-self.ensures.rows ∙ c.deref.ensures.value);
        many = c.requires.ready.many;
        there = c.requires.ready.there;
        all = c.requires.ready.all;
        whole = λ waiting. absurd (true≢false (sym waiting ∙ waits));
        rows = subst (λ (rows : List SummarySums). All (IsReadyRow (losses.rows + 2)) rows) (sym rows_are) (subst (λ (n : ℕ). All (IsReadyRow (n + 2)) rows) width c.add_lane_entry-self.ensures.ready);
      };
      more = λ find holds.
          let records = losses.records in
          let own = find it.set in
          let entry = slice_index_or records place none in
          let found : own entry.id ≡ c.index.result.now = found_at own it.found.items records place c.index.result.now entry holds.found c.requires.place (get_or_default records place none entry c.requires.place) ∙ sym c.index.ensures in
          let within = taken_within records place none c.requires.place c.requires.within in
          let more : take (cond it.waits 0 (place + 1)) records ≡ take place records ++ entry ∷ [] = ap (λ (b : Bool). take (cond b 0 (place + 1)) records) waits ∙ take_more records place none c.requires.place in
          let held = subst (λ (b : Bool). All (IsSumOf 2147483646 (losses.rows + 2) own (take (cond b 0 place) records)) it.rows.items) waits holds.sums in
          record {
            found = holds.found;
            sums = subst (λ (rows : List SummarySums). All (IsSumOf 2147483646 (losses.rows + 2) own (take (cond it.waits 0 (place + 1)) records)) rows) (sym rows_are)
                (subst (λ (done : List LossRecord). All (IsSumOf 2147483646 (losses.rows + 2) own done) rows) (sym more)
                (subst (λ (n : ℕ). All (IsSumOf 2147483646 (n + 2) own (take place records ++ entry ∷ [])) rows) width
                (c.add_lane_entry-self.ensures.sums own (take place records) entry (c.lane.ensures.pairs none ∙ ap (λ (n : ℕ). pairs_with n c.lane.result.now) (sym (c.deviation.ensures.value none))) found within
                (subst (λ (n : ℕ). All (IsSumOf 2147483646 (n + 2) own (take place records)) c.deref_mut.result.now) (sym width)
                (subst (λ (rows : List SummarySums). All (IsSumOf 2147483646 (losses.rows + 2) own (take place records)) rows) (sym c.deref_mut.ensures.value) held)))));
          };
    }
